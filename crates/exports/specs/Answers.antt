-- The words of an answer.
use Rattle.std.specs.Prelude.{ℕ, ◌<◌, cond, List, length, set, ltb, ℤ}
use Rattle.semantics.specs.Search.{Close, whole, cuts, full, spent}
use Rattle.list.specs.List as S
use Rattle.list.specs.List.{list}
use Rattle.checker.specs.Check.{Verdict, accepted, refused}
use Rattle.remarks.specs.Remarks as R
use Rattle.remarks.specs.Remarks.{Reply, remarks_of}

-- 0 and 0 if accepted, else number and place, in the first two words
abbrev pub verdict_words : Verdict → List ℕ → List ℕ
verdict_words accepted l = set (set l 0 0) 1 0
verdict_words (refused n p) l = set (set l 0 n) 1 p

-- an answer of fewer than two words stays as it is
abbrev pub check_words : Verdict → List ℕ → List ℕ
check_words v l = cond (ltb (length l) 2) l (verdict_words v l)

-- ---- remarks

-- number, place and count, in the first three words
abbrev pub remark_words : Reply → List ℕ → List ℕ
remark_words (R.refused n p) l = set (set (set l 0 n) 1 p) 2 0
remark_words (R.counted k) l = set (set (set l 0 0) 1 0) 2 k

-- the words of the two slices at exit
pub record Both : Type 0 where
  pub offsets : List ℕ
  pub answer : List ℕ

abbrev pub both : List ℕ → List ℕ → Both
both offsets answer = record { offsets = offsets; answer = answer }

abbrev pub both_with : R.Left → List ℕ → Both
both_with l answer = both l.words (remark_words l.reply answer)

-- with an answer of fewer than three words nothing is written; else what remarks answers and leaves
abbrev pub remarks_out : (text offsets answer : List ℕ) → Both
remarks_out text offsets answer = cond (ltb (length answer) 3) (both offsets answer) (both_with (remarks_of text offsets) answer)

-- ---- list

-- how the search closed, as a word
abbrev pub ending_word : Close → ℕ
ending_word whole = 0
ending_word cuts = 1
ending_word full = 2
ending_word spent = 3

abbrev pub five_words : List ℕ → (number place ending rows moves : ℕ) → List ℕ
five_words l number place ending rows moves = set (set (set (set (set l 0 number) 1 place) 2 ending) 3 rows) 4 moves

-- number and place of a refusal; or 0, 0, the ending, rows written and moves made
abbrev pub list_words : S.Answer → List ℕ → List ℕ
list_words (S.refused n p) l = five_words l n p 0 0 0
list_words (S.listed r m c) l = five_words l 0 0 (ending_word c) r m

-- place and rows are numbers of 32 bits
abbrev pub Fits : S.Answer → Type 0
Fits (S.refused n p) = p < 4294967296
Fits (S.listed r m c) = r < 4294967296

-- the words of the three slices at exit
pub record Out : Type 0 where
  pub rows : List ℤ
  pub scratch : List ℕ
  pub answer : List ℕ

abbrev pub out : List ℤ → List ℕ → List ℕ → Out
out rows scratch answer = record { rows = rows; scratch = scratch; answer = answer }

abbrev pub out_with : S.Left → List ℕ → Out
out_with l answer = out l.rows l.scratch (list_words l.answer answer)

-- with an answer of fewer than five words nothing is written; else what list answers and leaves
abbrev pub list_out : (text : List ℕ) (low high : ℤ) (steps skip budget : ℕ) (rows : List ℤ) (scratch answer : List ℕ) → Out
list_out text low high steps skip budget rows scratch answer = cond (ltb (length answer) 5) (out rows scratch answer) (out_with (list text low high steps skip budget rows scratch) answer)
