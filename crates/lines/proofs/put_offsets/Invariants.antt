use Prim.Native.Nat.{◌+◌, ◌*◌, ◌≤◌}
use mathlib.Core.List.{map}
use lib.ListN.{take}
use lib.IntN.{pos}
use Rattle.printing.specs.Written.{Put}
use Rattle.lines.specs.Print.{spaced}
use Rattle.lines.proofs.put_offsets.Given as goal

abbrev pub invariant-loop-offset : goal.invariant-loop-offset
invariant-loop-offset l = Put l.initial.out l.at (spaced (map pos (take l.offset-index l.offsets))) l.out l.p × (l.p ≤ l.at + 12 * l.offset-index)
