use mathlib.Core.Path.{ap}
use borrow.Author.Tests.{ne_eqb}
use Rattle.printing.specs.Decimal.{natural}
use Rattle.writer.proofs.Bytes.{puts-then, puts-as}
use Rattle.writer.proofs.Pen.end.Goals as goal

pub returns-else-minus-eq0 : goal.returns-else-minus-eq0
returns-else-minus-eq0 c = rw (ne_eqb c.args.minus 0 c.if-minus-eq0.false) (puts-then c.byte.ensures ((puts-as (ap natural c.value-else-minus-eq0.ensures) c.natural-else-minus-eq0.ensures)))
