-- The words of list's answer.
use Prim.Native.Nat.{ℕ, ◌≤◌, ◌<◌}
use mathlib.Core.Path.{◌≡◌, sym, ap, ◌∙◌, subst}
use mathlib.Core.Bool.{Bool, cond}
use mathlib.Core.List.{List}
use native.Mathlib.Omega.{arith}
use lib.ListN.{length}
use lib.IntN.{ℤ}
use borrow.Author.Tests.{lt-ltb, le-ltb}
use Rattle.list.specs.List.{Answer, refused, listed, Left, list}
use Rattle.list.specs.Parts.{answer_of, leaves}
use Rattle.std.specs.Prelude.{Result}
use Rattle.search.specs.declared.Answered.{Answered}
use Rattle.syntax.specs.declared.refusal.Refusal.{Refusal}
use Rattle.list.proofs.Bounds.{Small, small-answer}
use Rattle.exports.specs.Answers.{Fits, list_words, out, out_with, list_out}

fits-small : (budget : ℕ) (a : Answer) → budget < 4294967296 → Small budget a → Fits a
fits-small budget (refused n p) h s = omega (arith, s)
fits-small budget (listed r m c) h s = omega (arith, h, s)

module _ (text : List ℕ) (low high : ℤ) (steps skip budget : ℕ) (rows : List ℤ) (scratch answer : List ℕ) where
  -- fewer than five words
  pub list-short : length answer < 5 → out rows scratch answer ≡ list_out text low high steps skip budget rows scratch answer
  list-short h = sym (ap (λ (b : Bool). cond b (out rows scratch answer) (out_with (list text low high steps skip budget rows scratch) answer)) (lt-ltb (length answer) 5 h))

  module _ (r : Result Answered Refusal) (rows' : List ℤ) (scratch' : List ℕ) (e : leaves r rows' scratch' ≡ list text low high steps skip budget rows scratch) where
    pub list-fits : budget < 4294967296 → Fits (answer_of r)
    list-fits h = fits-small budget (answer_of r) h (subst (λ (l : Left). Small budget l.answer) (sym e) (small-answer text low high steps skip budget rows scratch))

    pub list-out : (answer' : List ℕ) → 5 ≤ length answer → answer' ≡ list_words (answer_of r) answer → out rows' scratch' answer' ≡ list_out text low high steps skip budget rows scratch answer
    list-out answer' h w =
        ap (out rows' scratch') w
        ∙ ap (λ (l : Left). out_with l answer) e
        ∙ sym (ap (λ (b : Bool). cond b (out rows scratch answer) (out_with (list text low high steps skip budget rows scratch) answer)) (le-ltb (length answer) 5 h))
