use Rattle.writer.proofs.Bytes.{puts-then}
use Rattle.writer.proofs.Pen.words.Goals as goal

pub returns : goal.returns
returns c = puts-then c.margin.ensures c.bytes.ensures
