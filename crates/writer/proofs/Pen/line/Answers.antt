use Rattle.writer.proofs.Bytes.{puts-then, lays-puts}
use Rattle.writer.proofs.Pen.line.Goals as goal

pub returns : goal.returns
returns c = record { same = cc; is = λ t h. (puts-then c.margin.ensures (puts-then c.bytes.ensures (puts-then (lays-puts c.expression.ensures t h) c.bytes-2.ensures))).put }
