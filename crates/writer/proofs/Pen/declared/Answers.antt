use Rattle.writer.proofs.Bytes.{puts-then}
use Rattle.writer.proofs.Pen.declared.Goals as goal

pub returns : goal.returns
returns c = puts-then c.margin.ensures (puts-then c.typed.ensures c.bytes.ensures)
