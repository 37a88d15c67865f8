use Rattle.std.proofs.Common.{ℕ, ◌*◌, ◌%◌, ◌^◌, sym, ap, ◌∙◌, ap₂, to_z-of_z, w32, to_z}
use Rattle.semantics.specs.Int.{arith, exact, wrap}
use Rattle.ints.proofs.Bits.{mul_low}
use Rattle.ints.proofs.mul.Goals as goal

pub returns : goal.returns
unfolding arith exact wrap
returns c =
    to_z-of_z {w = w32} {z = c.signed.result} (record { sfits = c.signed.type_inv })
    ∙ c.signed.ensures
    ∙ ap (to_z w32) (c.wrapping_mul_u32.ensures ∙ ap₂ (λ (a b : ℕ). (◌*◌ a b) % 2 ^ 32) (simp (to_z-of_z c.ranges.x) at c.word.ensures) (simp (to_z-of_z c.ranges.y) at c.word-2.ensures) ∙ sym (mul_low c.args.x c.args.y c.ranges.x c.ranges.y))
