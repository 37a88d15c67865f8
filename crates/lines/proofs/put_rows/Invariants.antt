use Prim.Native.Nat.{◌+◌, ◌*◌, ◌≤◌}
use Rattle.printing.specs.Written.{Put}
use Rattle.lines.specs.Print.{row_lines}
use Rattle.lines.specs.Written.{rows_from}
use Rattle.lines.proofs.put_rows.Given as goal

abbrev pub invariant-loop-k : goal.invariant-loop-k
invariant-loop-k l = Put l.initial.out l.at (row_lines (rows_from l.k l.rows)) l.out l.p × (l.p ≤ l.at + 110 * l.k)
