use Prim.Native.Nat.{◌≤◌}
use mathlib.Core.Path.{◌≡◌}
use lib.ListN.{length}
use Rattle.checkpoints.specs.Live.{FramesBack}
use Rattle.checkpoints.proofs.restore_frames.Given as goal

abbrev pub invariant-loop-j : goal.invariant-loop-j
invariant-loop-j l = FramesBack l.cells l.initial.mem l.mem l.j l.w × (l.j ≤ l.d) × (length l.mem ≡ length l.initial.mem)
