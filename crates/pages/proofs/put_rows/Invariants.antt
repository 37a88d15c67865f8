use Rattle.printing.specs.Written.{Put}
use Rattle.lines.specs.Written.{rows_from}
use Rattle.pages.specs.Parts.{rows_bytes}
use Rattle.pages.proofs.put_rows.Given as goal

abbrev pub invariant-loop-k : goal.invariant-loop-k
invariant-loop-k l = Put l.initial.out l.at (rows_bytes (rows_from l.k l.rows)) l.out l.p
