use Prim.Native.Nat.{ℕ, ◌≤◌, ◌<◌}
use Rattle.machine.specs.Memory.{test_at}
use Rattle.settings.specs.Plan.{Rests}
use Rattle.settings.proofs.tests_end.Given as goal

abbrev pub invariant-loop-j : goal.invariant-loop-j
invariant-loop-j l = (l.j ≤ l.tests) × (l.end ≤ l.n) × ((t : ℕ) → l.j ≤ t → t < l.tests → Rests l.end (test_at l.mem t))
