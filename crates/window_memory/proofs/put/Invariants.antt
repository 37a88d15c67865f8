use mathlib.Core.Path.{◌≡◌}
use lib.ListN.{take}
use Rattle.window_memory.specs.Memory.{put_pairs}
use Rattle.window_memory.proofs.put.Given as goal

-- the first i pairs are put
abbrev pub invariant-loop-i : goal.invariant-loop-i
invariant-loop-i l = l.mem ≡ put_pairs l.initial.mem l.at (take l.i l.fn.ws)
