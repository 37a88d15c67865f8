use Prim.Native.Nat.{◌≤◌}
use mathlib.Core.Path.{◌≡◌}
use Rattle.machine.specs.Memory.{numbers_in, tests_in}
use Rattle.simulation.specs.Nodes.{meets_in}
use Rattle.settings.proofs.meets.Given as goal

abbrev pub invariant-loop-j : goal.invariant-loop-j
invariant-loop-j l = (l.j ≤ l.tests) × (meets_in (numbers_in l.mem l.n) (tests_in l.mem l.tests) ≡ meets_in (numbers_in l.mem l.n) (tests_in l.mem l.j))
