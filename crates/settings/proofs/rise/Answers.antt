use mathlib.Core.Path.{refl}
use native.Mathlib.Omega.{arith}
use Rattle.settings.proofs.Rising.{rose}
use Rattle.settings.proofs.rise.Goals as goal

pub returns-else-a-first : goal.returns-else-a-first
returns-else-a-first c =
    rose c.args.mem.now _ _ c.args.a c.args.first c.args.k c.requires c.raise.ensures (λ i h. refl) (λ l. absurd (omega (arith, c.if-a-first.false)))

pub returns-then-a-first : goal.returns-then-a-first
returns-then-a-first c =
    rose c.args.mem.now _ _ c.args.a c.args.first c.args.k c.requires c.raise.ensures (λ i h. c.copy_value.ensures.other.outside i (λ x y. h (omega (arith, c.if-a-first.true)) (omega arith))) (λ l. c.copy_value.ensures.is)
