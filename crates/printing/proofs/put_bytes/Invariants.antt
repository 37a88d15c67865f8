use lib.ListN.{take}
use Rattle.printing.specs.Written.{Put}
use Rattle.printing.proofs.put_bytes.Given as goal

abbrev pub invariant-loop-b : goal.invariant-loop-b
invariant-loop-b l = Put l.initial.out l.at (take l.b-index l.word) l.out l.p
