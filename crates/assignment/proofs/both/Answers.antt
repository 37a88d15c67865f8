use Prim.Native.Nat.{◌-◌}
use native.Mathlib.Omega.{arith}
use Rattle.assignment.proofs.Groups.{within-and}
use Rattle.assignment.proofs.both.Goals as goal

pub returns : goal.returns
returns c base v = within-and base _ v _ _ λ lo hi. c.loop-k.invariant.filled (v - base) (omega arith)
