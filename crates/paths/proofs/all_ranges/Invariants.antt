use Prim.Native.Nat.{◌≤◌}
use mathlib.Core.Path.{◌≡◌}
use lib.ListN.{length}
use Rattle.paths.specs.Table.{Anew}
use Rattle.paths.proofs.all_ranges.Given as goal

abbrev pub invariant-loop-j : goal.invariant-loop-j
invariant-loop-j l = Anew l.initial.mem l.mem l.k l.j × (l.j ≤ l.n) × (length l.mem ≡ length l.initial.mem)
