-- What is printed for each kind of answer, and that it is the plan list of an accepted job.
use Prim.Native.Nat.{ℕ, ◌*◌, ◌/◌, ◌≤◌}
use native.Mathlib.Omega.{arith}
use mathlib.Core.Path.{◌≡◌, refl, sym, ap, ap₂, ◌∙◌, subst}
use mathlib.Core.List.{List, ◌++◌}
use lib.ListN.{length, drop, length-replicate}
use lib.IntN.{ℤ, pos}
use Rattle.checker.specs.Check as C
use Rattle.checker.specs.Check.{Verdict, checked}
use Rattle.checker.proofs.Small.{Within, low as at_most, checked-low}
use Rattle.semantics.specs.Run.{Row}
use Rattle.semantics.specs.Search as Z
use Rattle.semantics.specs.Search.{in_use}
use Rattle.semantics.specs.Promise.{Promised}
use Rattle.semantics.proofs.Answer.{few-rows}
use Rattle.list.specs.List as S
use Rattle.list.specs.List.{Answer, Left, ground, list, refuses, answering}
use Rattle.list.specs.Promise.{answer_with, Keeps}
use Rattle.list.proofs.Promises.{keeps}
use Rattle.lines.specs.declared.Job.{Job}
use Rattle.std.specs.Prelude.{Option, None, Some}
use Rattle.respond.specs.declared.Layout.{Layout}
use Rattle.respond.specs.declared.Layout.TheVariants.{Lines, Sheet}
use Rattle.lines.specs.JobLine.{line_job}
use Rattle.lines.specs.Print.{refusal, row_lines, last_line}
use Rattle.lines.proofs.Good.{good-holds}
use Rattle.pages.specs.Pages.{wall_sheet, sheet_bytes}
use Rattle.pages.proofs.Laid.{laid}
use Rattle.settings.specs.Rows.{sheet}
use Rattle.lines.specs.Written.{rows_from}
use Rattle.respond.specs.Output.{text_of, row_words, scratch_words, listing, bad_line, by_list, Answered, answered_for, answered, in_lines, on_pages, shown, laid_out, output, posted}
use Rattle.respond.specs.Parts.{Small, printed_of, printed_for}
use Rattle.respond.specs.Shows.{Lists, Shows, Posts}
use Rattle.respond.proofs.Rows.{few-written, rows_back}

-- ---- list's answers are small

module _ (text : List ℕ) (low high : ℤ) (steps skip budget : ℕ) (rows : List ℤ) (scratch : List ℕ) where
  small_by : length rows / 10 ≤ 1000 → (g : Option ℕ) (v : Verdict) → Within 2048 v → Small (answering rows scratch (Z.listed in_use (S.job_of text low high steps) skip (S.places rows) budget) g v).answer
  unfolding Z.listed
  small_by h (Some n) v w = record { few = omega arith; near = omega arith }
  small_by h None (C.refused n p) (at_most k) = record { few = omega arith; near = k }
  small_by h None C.accepted w = record { few = omega (arith, (few-rows Z.whole (Z.search in_use (S.job_of text low high steps)) skip (length rows / 10) budget).0); near = omega arith }

  small : length rows / 10 ≤ 1000 → Small (list text low high steps skip budget rows scratch).answer
  unfolding list
  small h = small_by h (ground (length scratch) low high steps) (checked text) (checked-low text)

tens : length row_words / 10 ≡ 1000
tens = ap (λ (n : ℕ). n / 10) (length-replicate 10000 (pos 0))

words : length scratch_words ≡ 16384
words = length-replicate {A = ℕ} 16384 0

listing-small : (text : List ℕ) (low high : ℤ) (steps : ℕ) → Small (listing text low high steps).answer
unfolding listing
listing-small text low high steps = small text low high steps 0 1000000 row_words scratch_words (omega (arith, tens))

-- what the search of the program's job finds
abbrev found : List ℕ → ℤ → ℤ → ℕ → Z.Answer
found text low high steps = Z.listed in_use (S.job_of text low high steps) 0 (S.places row_words) 1000000

-- ---- each refusal is one line, and no page

pub bad-answer : (input : List ℕ) → line_job input ≡ None → answered input ≡ bad_line
unfolding answered
bad-answer input e = ap (answered_for input) e

pub good-answer : (input : List ℕ) (j : Job) → line_job input ≡ Some j → answered input ≡ by_list (listing (text_of input j) j.low j.high j.steps)
unfolding answered
good-answer input j e = ap (answered_for input) e

pub bad-line : (input : List ℕ) → line_job input ≡ None → (output input ≡ refusal 16 0) × (posted input ≡ refusal 16 0)
unfolding output posted
bad-line input e = (ap in_lines (bad-answer input e), ap on_pages (bad-answer input e))

refused-lines : (input : List ℕ) (n p : ℕ) → answered input ≡ by_list (refuses row_words scratch_words n p) → (output input ≡ refusal n p) × (posted input ≡ refusal n p)
unfolding output posted shown laid_out
refused-lines input n p e = (ap in_lines e, ap on_pages e)

module _ (input : List ℕ) (j : Job) (good : line_job input ≡ Some j) where
  listing-is : (g : Option ℕ) (v : Verdict) → ground 16384 j.low j.high j.steps ≡ g → checked (text_of input j) ≡ v
      → listing (text_of input j) j.low j.high j.steps ≡ answering row_words scratch_words (found (text_of input j) j.low j.high j.steps) g v
  unfolding listing list
  listing-is g v e f =
      ap₂ (answering row_words scratch_words (found (text_of input j) j.low j.high j.steps))
      (ap (λ (n : ℕ). ground n j.low j.high j.steps) words ∙ e) f

  pub ground-answer : (n : ℕ) → ground 16384 j.low j.high j.steps ≡ Some n → answered input ≡ by_list (refuses row_words scratch_words n 0)
  ground-answer n e = good-answer input j good ∙ ap by_list (listing-is (Some n) (checked (text_of input j)) e refl)

  -- by one of list's own grounds, or as check
  pub ground-line : (n : ℕ) → ground 16384 j.low j.high j.steps ≡ Some n → (output input ≡ refusal n 0) × (posted input ≡ refusal n 0)
  ground-line n e = refused-lines input n 0 (ground-answer n e)

  pub check-line : (n p : ℕ) → ground 16384 j.low j.high j.steps ≡ None → checked (text_of input j) ≡ C.refused n p → (output input ≡ refusal n p) × (posted input ≡ refusal n p)
  check-line n p e f = refused-lines input n p (good-answer input j good ∙ ap by_list (listing-is None (C.refused n p) e f))

  -- ---- else the rows of the plan list, or of its front part, with the last line or on a sheet

  module _ (allowed : ground 16384 j.low j.high j.steps ≡ None) (accepted : checked (text_of input j) ≡ C.accepted) where
    kept : Keeps (text_of input j) j.low j.high j.steps 0 1000000 row_words scratch_words (listing (text_of input j) j.low j.high j.steps)
    unfolding listing
    kept =
        let h = good-holds input j good in
        keeps (text_of input j) j.low j.high j.steps 0 1000000 row_words scratch_words h.low h.high (ap (λ (n : ℕ). ground n j.low j.high j.steps) words ∙ allowed) accepted

    lists : Lists input j
    lists = record {
      plans = kept.plans;
      fixed = kept.fixed;
      alone = kept.alone;
      written = kept.written;
      moves = kept.moves;
      ending = kept.ending;
      closes = subst (λ (n : ℕ). Promised in_use (S.job_of (text_of input j) j.low j.high j.steps) kept.plans 0 n 1000000 (answer_with kept.written kept.moves kept.ending)) tens kept.closes;
    }

    read-rows : rows_from (length kept.written) (sheet row_words kept.written) ≡ kept.written
    read-rows = rows_back (few-written kept.fixed kept.closes) (drop (10 * length kept.written) row_words)

    -- THEOREM. The first program prints the plan list, or its front part, and the last line.
    pub shows : Shows input j (output input)
    unfolding output shown lists kept
    shows = record {
      listed = lists;
      lines = ap in_lines (good-answer input j good) ∙ ap₂ shown kept.answered kept.slice ∙ ap (λ (rs : List Row). row_lines rs ++ last_line kept.ending (length kept.written) kept.moves) read-rows;
    }

    -- THEOREM. The second prints the sheet of the same rows, with the ending's word.
    pub posts : Posts input j (posted input)
    unfolding posted laid_out lists kept
    posts = record {
      listed = lists;
      pages = ap on_pages (good-answer input j good) ∙ ap₂ laid_out kept.answered kept.slice ∙ ap (λ (rs : List Row). sheet_bytes (wall_sheet rs kept.ending)) read-rows;
      laid = laid kept.written kept.ending;
    }

-- ---- what the code learns of list

module _ (text : List ℕ) (low low' high high' : ℤ) (steps : ℕ) (e : low' ≡ low) (f : high' ≡ high) where
  module _ {a : Answer} {rows : List ℤ} {scratch : List ℕ} (left : record { answer = a; rows = rows; scratch = scratch } ≡ list text low' high' steps 0 1000000 row_words scratch_words) where
    left_by : record { answer = a; rows = rows; scratch = scratch } ≡ listing text low high steps
    unfolding listing
    left_by = left ∙ ap₂ (λ (x y : ℤ). list text x y steps 0 1000000 row_words scratch_words) e f

    pub small-answer : Small a
    small-answer = subst (λ (l : Left). Small l.answer) (sym left_by) (listing-small text low high steps)

    pub same_lines : (b : Layout) → printed_of b a rows ≡ printed_for b (by_list (listing text low high steps))
    same_lines b = ap (λ (l : Left). printed_for b (by_list l)) left_by

-- what is printed of a good job is what is printed for the input
pub job-lines : (b : Layout) (input : List ℕ) (j : Job) (text : List ℕ) → line_job input ≡ Some j → text ≡ text_of input j
    → printed_for b (by_list (listing text j.low j.high j.steps)) ≡ printed_for b (answered input)
job-lines b input j text good t =
    ap (λ (l : List ℕ). printed_for b (by_list (listing l j.low j.high j.steps))) t
    ∙ sym (ap (printed_for b) (good-answer input j good))

-- as the two programs' functions find it
same-form : (a : Answered) → (printed_for Lines a ≡ in_lines a) × (printed_for Sheet a ≡ on_pages a)
same-form bad_line = (refl, refl)
same-form (by_list l) = (refl, refl)

pub as-output : (input : List ℕ) → printed_for Lines (answered input) ≡ output input
unfolding output
as-output input = (same-form (answered input)).0

pub as-posted : (input : List ℕ) → printed_for Sheet (answered input) ≡ posted input
unfolding posted
as-posted input = (same-form (answered input)).1
