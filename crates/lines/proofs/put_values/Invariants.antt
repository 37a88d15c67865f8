use Prim.Native.Nat.{◌+◌, ◌*◌, ◌≤◌}
use lib.ListN.{take}
use Rattle.printing.specs.Written.{Put}
use Rattle.lines.specs.Print.{spaced}
use Rattle.lines.proofs.put_values.Given as goal

abbrev pub invariant-loop-z : goal.invariant-loop-z
invariant-loop-z l = Put l.initial.out l.at (spaced (take l.z-index l.values)) l.out l.p × (l.p ≤ l.at + 12 * l.z-index)
