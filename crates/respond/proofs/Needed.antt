-- How much of the input the programs need: 2,089 bytes settle the answer, and so what either prints; input that never ends is read no further.
use Prim.Native.Nat.{ℕ, ◌+◌, ◌≤◌, ◌<◌}
use native.Mathlib.Omega.{arith}
use mathlib.Core.Path.{◌≡◌, refl, sym, ap, ◌∙◌}
use mathlib.Core.Bool.{Bool, true, false, ◌&&◌, ◌||◌}
use mathlib.Core.List.{List, ◌++◌}
use lib.ListN.{length, take, drop, length-drop, length-append, take-append-drop}
use lib.Seq.{take_all, length-take-le}
use lib.IntN.{ℤ}
use lib.Dec.{ltb}
use borrow.Author.Tests.{lt-ltb, le-leb, ltb-true, ltb-false}
use Rattle.checker.specs.Check as C
use Rattle.checker.specs.Check.{checked}
use Rattle.checker.proofs.Long.{long-text}
use Rattle.semantics.specs.Search.{Answer}
use Rattle.list.specs.List.{ground, list, answering}
use Rattle.lines.specs.declared.Job.{Job}
use Rattle.std.specs.Prelude.{Option, None, Some, is_some}
use Rattle.lines.specs.JobLine.{place, line_job, line_settled}
use Rattle.lines.proofs.Reach.{line-settled}
use Rattle.lines.proofs.Good.{good-holds}
use Rattle.respond.specs.Output.{text_of, row_words, scratch_words, listing, by_list, answered, in_lines, on_pages, output, posted, job_enough, enough_input}
use Rattle.respond.proofs.Printed.{bad-answer, good-answer, ground-answer}

-- of a text that check refuses, list uses no more than that
same-refusal : (rows : List ℤ) (scratch : List ℕ) (a b : Answer) (n p : ℕ) (g : Option ℕ) → answering rows scratch a g (C.refused n p) ≡ answering rows scratch b g (C.refused n p)
same-refusal rows scratch a b n p (Some k) = refl
same-refusal rows scratch a b n p None = refl

module _ (t u : List ℕ) (low high : ℤ) (steps skip budget : ℕ) (rows : List ℤ) (scratch : List ℕ) (n p : ℕ) where
  same-list : checked t ≡ C.refused n p → checked u ≡ C.refused n p → list t low high steps skip budget rows scratch ≡ list u low high steps skip budget rows scratch
  unfolding list
  same-list e f =
      let g = ground (length scratch) low high steps in
      ap (answering rows scratch _ g) e
      ∙ same-refusal rows scratch _ _ n p g
      ∙ sym (ap (answering rows scratch _ g) f)

-- ---- what follows does not matter

module _ (l r : List ℕ) where
  -- a text that is too long already
  same-listing : (j : Job) → j.text + 2048 < length l → listing (text_of (l ++ r) j) j.low j.high j.steps ≡ listing (text_of l j) j.low j.high j.steps
  unfolding listing
  same-listing j k =
      same-list (text_of (l ++ r) j) (text_of l j) j.low j.high j.steps 0 1000000 row_words scratch_words 1 2048
      (long-text (text_of (l ++ r) j) (omega (arith, k, length-drop j.text (l ++ r), length-append l r)))
      (long-text (text_of l j) (omega (arith, k, length-drop j.text l)))

  module _ (h : line_settled l ≡ true) where
    by-job : (j : Job) → line_job l ≡ Some j → (g : Option ℕ) → ground 16384 j.low j.high j.steps ≡ g → (b : Bool) → ltb (j.text + 2048) (length l) ≡ b → is_some g || b ≡ true → answered (l ++ r) ≡ answered l
    by-job j e (Some n) q b p k = ground-answer (l ++ r) j (line-settled l r h ∙ e) n q ∙ sym (ground-answer l j e n q)
    by-job j e None q true p k = good-answer (l ++ r) j (line-settled l r h ∙ e) ∙ ap by_list (same-listing j (ltb-true (j.text + 2048) (length l) p)) ∙ sym (good-answer l j e)
    by-job j e None q false p k = absurd (let z : ◌≡◌ {A = ℕ} 0 1 = cc in omega arith)

    by-line : (a : Option Job) → line_job l ≡ a → job_enough (length l) a ≡ true → answered (l ++ r) ≡ answered l
    by-line None e k = bad-answer (l ++ r) (line-settled l r h ∙ e) ∙ sym (bad-answer l e)
    by-line (Some j) e k = by-job j e (ground 16384 j.low j.high j.steps) refl (ltb (j.text + 2048) (length l)) refl k

-- THEOREM. Where the programs stop to read, nothing that follows changes the answer,
pub enough-input : (l r : List ℕ) → enough_input l ≡ true → answered (l ++ r) ≡ answered l
unfolding enough_input
enough-input l r e = go (line_settled l) refl e
  where
    go : (b : Bool) → line_settled l ≡ b → b && job_enough (length l) (line_job l) ≡ true → answered (l ++ r) ≡ answered l
    go true q e = by-line l r q (line_job l) refl e
    go false q e = absurd (let z : ◌≡◌ {A = ℕ} 0 1 = cc in omega arith)

-- .. nor what either of them prints.
pub enough-printed : (l r : List ℕ) → enough_input l ≡ true → (output (l ++ r) ≡ output l) × (posted (l ++ r) ≡ posted l)
unfolding output posted
enough-printed l r e = (ap in_lines (enough-input l r e), ap on_pages (enough-input l r e))

-- as the code finds it
module _ (l : List ℕ) where
  pub enough-not : line_settled l ≡ false → false ≡ enough_input l
  unfolding enough_input
  enough-not e = sym (ap (λ (b : Bool). b && job_enough (length l) (line_job l)) e)

  pub enough-line : (a : Option Job) → line_settled l ≡ true → line_job l ≡ a → job_enough (length l) a ≡ enough_input l
  unfolding enough_input
  enough-line a e f = sym (ap (λ (b : Bool). b && job_enough (length l) (line_job l)) e ∙ ap (job_enough (length l)) f)

-- ---- 2,089 bytes are always enough: 40 for the job line, and 2,049 of a text

long-enough : (l : List ℕ) → 2089 ≤ length l → enough_input l ≡ true
long-enough l h = sym (enough-line l (line_job l) (ap (λ (b : Bool). b || ltb (place 10 l) (length l)) (le-leb 40 (length l) (omega (arith, h)))) refl) ∙ go (line_job l) refl
  where
    or-true : (b : Bool) → b || true ≡ true
    or-true true = refl
    or-true false = refl

    go : (a : Option Job) → line_job l ≡ a → job_enough (length l) a ≡ true
    go None e = refl
    go (Some j) e =
        ap (λ (b : Bool). is_some (ground 16384 j.low j.high j.steps) || b) (lt-ltb (j.text + 2048) (length l) (omega (arith, h, (good-holds l j e).near)))
        ∙ or-true (is_some (ground 16384 j.low j.high j.steps))

beyond : (l r : List ℕ) → 2089 ≤ length l → answered (l ++ r) ≡ answered l
beyond l r h = enough-input l r (long-enough l h)

-- so the programs need not read more
pub enough-bytes : (input : List ℕ) → answered (take 2089 input) ≡ answered input
enough-bytes input = go (ltb 2089 (length input)) refl
  where
    go : (b : Bool) → ltb 2089 (length input) ≡ b → answered (take 2089 input) ≡ answered input
    go false e = ap answered (take_all 2089 input (ltb-false 2089 (length input) e))
    go true e =
        let k : 2089 ≤ length (take 2089 input) = omega (arith, length-take-le 2089 input (omega (arith, ltb-true 2089 (length input) e))) in
        sym (beyond (take 2089 input) (drop 2089 input) k) ∙ ap answered (take-append-drop 2089 input)

pub enough : (input : List ℕ) → (output (take 2089 input) ≡ output input) × (posted (take 2089 input) ≡ posted input)
unfolding output posted
enough input = (ap in_lines (enough-bytes input), ap on_pages (enough-bytes input))
