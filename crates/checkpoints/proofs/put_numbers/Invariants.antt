use Prim.Native.Nat.{◌≤◌}
use mathlib.Core.Path.{◌≡◌}
use lib.ListN.{length}
use Rattle.checkpoints.specs.Live.{number_count}
use Rattle.checkpoints.specs.Words.{Numbered}
use Rattle.checkpoints.proofs.put_numbers.Given as goal

abbrev pub invariant-loop-i : goal.invariant-loop-i
invariant-loop-i l = Numbered l.initial.mem l.mem l.number-items l.w l.i × (l.i ≤ number_count) × (length l.mem ≡ length l.initial.mem)
