-- The words of the writer's answer.
use Prim.Native.Nat.{ℕ, ◌≤◌, ◌<◌}
use mathlib.Core.Path.{◌≡◌, sym, ap, ◌∙◌}
use mathlib.Core.Bool.{Bool, cond}
use mathlib.Core.List.{List}
use lib.ListN.{length}
use borrow.Author.Tests.{lt-ltb, le-ltb}
use Rattle.writer.specs.Write.{Left, left, wrote, answer_of}
use Rattle.std.specs.Prelude.{Result}
use Rattle.syntax.specs.declared.refusal.Refusal.{Refusal}
use Rattle.exports.specs.Write.{write_words, styled, styled_with, write_out}

module _ (text out answer : List ℕ) where
  -- fewer than three words
  pub write-short : length answer < 3 → styled out answer ≡ write_out text out answer
  write-short h = sym (ap (λ (b : Bool). cond b (styled out answer) (styled_with (wrote text out) answer)) (lt-ltb (length answer) 3 h))

  pub write-out : (r : Result ℕ Refusal) (out' : List ℕ) → left (answer_of r) out' ≡ wrote text out → 3 ≤ length answer → styled out' (write_words (answer_of r) answer) ≡ write_out text out answer
  write-out r out' e h =
      ap (λ (l : Left). styled_with l answer) e
      ∙ sym (ap (λ (b : Bool). cond b (styled out answer) (styled_with (wrote text out) answer)) (le-ltb (length answer) 3 h))
