use Prim.Native.Nat.{◌≤◌}
use mathlib.Core.Path.{◌≡◌}
use lib.ListN.{length}
use Rattle.checkpoints.specs.Live.{RowBack}
use Rattle.checkpoints.proofs.restore_row.Given as goal

abbrev pub invariant-loop-i : goal.invariant-loop-i
invariant-loop-i l = RowBack l.initial.mem l.mem l.x l.s l.i l.w × (l.i ≤ l.n) × (length l.mem ≡ length l.initial.mem)
