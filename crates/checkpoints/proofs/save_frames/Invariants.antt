use Prim.Native.Nat.{◌≤◌}
use mathlib.Core.Path.{◌≡◌}
use lib.ListN.{length}
use Rattle.checkpoints.specs.Live.{FramesSaved}
use Rattle.checkpoints.proofs.save_frames.Given as goal

abbrev pub invariant-loop-j : goal.invariant-loop-j
invariant-loop-j l = FramesSaved l.cells l.initial.mem l.mem l.j l.w × (l.j ≤ l.d) × (length l.mem ≡ length l.initial.mem)
