use mathlib.Core.Path.{ap}
use Rattle.printing.specs.Decimal.{natural}
use Rattle.writer.proofs.Bytes.{puts-then, puts-as}
use Rattle.writer.proofs.Pen.leaf.Goals as goal

pub returns-in-Negative : goal.returns-in-Negative
returns-in-Negative c = rw c.in-Negative.is (puts-then c.byte.ensures ((puts-as (ap natural c.value-in-Negative.ensures) c.natural-in-Negative.ensures)))
