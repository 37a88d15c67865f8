use Prim.Native.Nat.{ℕ, ◌≤◌, ◌<◌}
use Rattle.machine.specs.Memory.{node_at}
use Rattle.settings.specs.Plan.{Clear}
use Rattle.settings.proofs.first_behind.Given as goal

abbrev pub invariant-loop-j : goal.invariant-loop-j
invariant-loop-j l = (l.a < l.j) × (l.j ≤ l.n) × ((q : ℕ) → l.a < q → q < l.j → Clear l.a (node_at l.mem q))
