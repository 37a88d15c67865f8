-- A text in house style, for a caller.
use Rattle.std.specs.Prelude.{ℕ, cond, List, length, set, ltb}
use Rattle.writer.specs.Write as W
use Rattle.writer.specs.Write.{Answer, wrote}

-- number, place and length, in the first three words
abbrev pub write_words : Answer → List ℕ → List ℕ
write_words (W.refused n p) l = set (set (set l 0 n) 1 p) 2 0
write_words (W.length-of n) l = set (set (set l 0 0) 1 0) 2 n

-- the bytes and the words of the two slices at exit
pub record Styled : Type 0 where
  pub out : List ℕ
  pub answer : List ℕ

abbrev pub styled : List ℕ → List ℕ → Styled
styled out answer = record { out = out; answer = answer }

abbrev pub styled_with : W.Left → List ℕ → Styled
styled_with l answer = styled l.bytes (write_words l.answer answer)

-- with an answer of fewer than three words nothing is written; else what the writer answers and leaves
abbrev pub write_out : (text out answer : List ℕ) → Styled
write_out text out answer = cond (ltb (length answer) 3) (styled out answer) (styled_with (wrote text out) answer)
