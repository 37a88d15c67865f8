-- The words of remarks' answer.
use Prim.Native.Nat.{ℕ, ◌≤◌, ◌<◌}
use mathlib.Core.Path.{◌≡◌, sym, ap, ◌∙◌}
use mathlib.Core.Bool.{Bool, cond}
use mathlib.Core.List.{List}
use lib.ListN.{length}
use borrow.Author.Tests.{lt-ltb, le-ltb}
use Rattle.remarks.specs.Remarks.{Left, remarks_of, reply_of, leaves}
use Rattle.std.specs.Prelude.{Result}
use Rattle.syntax.specs.declared.refusal.Refusal.{Refusal}
use Rattle.exports.specs.Answers.{remark_words, both, both_with, remarks_out}

module _ (text offsets answer : List ℕ) where
  -- fewer than three words
  pub remarks-short : length answer < 3 → both offsets answer ≡ remarks_out text offsets answer
  remarks-short h = sym (ap (λ (b : Bool). cond b (both offsets answer) (both_with (remarks_of text offsets) answer)) (lt-ltb (length answer) 3 h))

  pub remarks-out : (r : Result ℕ Refusal) (offsets' : List ℕ) → leaves r offsets' ≡ remarks_of text offsets → 3 ≤ length answer → both offsets' (remark_words (reply_of r) answer) ≡ remarks_out text offsets answer
  remarks-out r offsets' e h =
      ap (λ (l : Left). both_with l answer) e
      ∙ sym (ap (λ (b : Bool). cond b (both offsets answer) (both_with (remarks_of text offsets) answer)) (le-ltb (length answer) 3 h))
