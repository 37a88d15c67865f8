use Prim.Native.Nat.{ℕ, ◌≤◌, ◌<◌}
use Rattle.machine.specs.Memory.{node_at}
use Rattle.settings.specs.Plan.{NotFree}
use Rattle.settings.proofs.free_node.Given as goal

abbrev pub invariant-loop-j : goal.invariant-loop-j
invariant-loop-j l = (l.j ≤ l.n) × ((q : ℕ) → q < l.j → NotFree l.i (node_at l.mem q))
