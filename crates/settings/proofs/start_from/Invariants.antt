use Prim.Native.Nat.{◌≤◌}
use mathlib.Core.Path.{◌≡◌}
use lib.ListN.{length}
use Rattle.settings.specs.Table.{Anew}
use Rattle.settings.proofs.start_from.Given as goal

abbrev pub invariant-loop-j : goal.invariant-loop-j
invariant-loop-j l = (l.i ≤ l.j) × (l.j ≤ l.k) × (length l.mem ≡ length l.initial.mem) × Anew l.initial.mem l.mem l.i l.j
