use Rattle.writer.proofs.Bytes.{puts-then}
use Rattle.writer.proofs.Pen.pair.Goals as goal

pub returns : goal.returns
returns c = puts-then c.end.ensures (puts-then c.bytes.ensures (puts-then c.end-2.ensures c.bytes-2.ensures))
