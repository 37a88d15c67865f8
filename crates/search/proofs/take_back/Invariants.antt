use Prim.Native.Nat.{◌≤◌}
use mathlib.Core.Path.{◌≡◌}
use Rattle.search.proofs.Outcomes.{FalseFrom}
use Rattle.search.proofs.take_back.Given as goal

abbrev pub invariant-loop-i : goal.invariant-loop-i
invariant-loop-i l = (l.i ≤ l.n) × (l.mem ≡ l.initial.mem) × FalseFrom l.initial.mem l.i l.n
