use Prim.Native.Nat.{◌-◌}
use native.Mathlib.Omega.{arith}
use mathlib.Core.Bool.{true, false}
use lib.ListN.{get_or-replicate}
use Rattle.assignment.specs.Group.{group_size}
use Rattle.assignment.proofs.Groups.{within-true}
use Rattle.assignment.proofs.all.Goals as goal

-- `all`: each variable of a group is assigned.
pub returns : goal.returns
returns c base v = within-true base _ v λ lo hi. get_or-replicate group_size (v - base) true false (omega arith)
