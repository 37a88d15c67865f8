use Prim.Native.Nat.{ℕ, ◌+◌, ◌-◌}
use mathlib.Core.Path.{◌≡◌, ap, ◌∙◌}
use native.Mathlib.Omega.{arith}
use lib.Dec.{ltb}
use Rattle.assignment.proofs.Groups.{within_same}
use Rattle.assignment.proofs.start.Goals as goal

pub returns : goal.returns
returns c v =
    within_same _ _ v _ λ lo hi.
    let e : c.args.base + (v - c.args.base) ≡ v = omega arith in
    c.loop-k.invariant.filled (v - c.args.base) (omega arith) ∙ ap (λ (u : ℕ). ltb u c.args.count) e
