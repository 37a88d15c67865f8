use Rattle.writer.proofs.Bytes.{puts-then}
use Rattle.writer.proofs.Pen.typed.Goals as goal

pub returns : goal.returns
returns c = puts-then c.bytes.ensures c.name.ensures
