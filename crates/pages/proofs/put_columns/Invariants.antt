use lib.ListN.{take}
use Rattle.printing.specs.Written.{Put}
use Rattle.pages.specs.Pages.{column}
use Rattle.pages.specs.Parts.{joined}
use Rattle.pages.proofs.put_columns.Given as goal

abbrev pub invariant-loop-z : goal.invariant-loop-z
invariant-loop-z l = Put l.initial.out l.at (joined column (take l.z-index l.values)) l.out l.p
