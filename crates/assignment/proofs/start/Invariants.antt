use Prim.Native.Nat.{ℕ, ◌+◌, ◌<◌}
use mathlib.Core.Path.{◌≡◌}
use mathlib.Core.Bool.{false}
use lib.Dec.{ltb}
use lib.ListN.{length, get_or}
use Rattle.assignment.specs.Group.{group_size}
use Rattle.assignment.proofs.start.Given as goal

-- `start` fills its answer in order.
abbrev pub invariant-loop-k : goal.invariant-loop-k
invariant-loop-k l = record { size : length l.yes-items ≡ group_size; filled : (j : ℕ) → j < l.k → get_or l.yes-items j false ≡ ltb (l.base + j) l.count }
