use Prim.Native.Nat.{ℕ, ◌<◌}
use mathlib.Core.Path.{◌≡◌}
use mathlib.Core.Bool.{false, ◌&&◌}
use lib.ListN.{length, get_or}
use Rattle.assignment.specs.Group.{group_size}
use Rattle.assignment.proofs.both.Given as goal

-- `both` fills its answer in order.
abbrev pub invariant-loop-k : goal.invariant-loop-k
invariant-loop-k l = record { size : length l.set ≡ group_size; same : l.yes-items ≡ l.fn.b; filled : (j : ℕ) → j < l.k → get_or l.set j false ≡ (get_or l.a j false && get_or l.fn.b j false) }
