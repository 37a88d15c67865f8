use Rattle.printing.proofs.Puts.{put-blank}
use Rattle.printing.proofs.put_blanks.Goals as goal

pub loop-preserved : goal.loop-preserved
loop-preserved c = put-blank c.loop.counter c.loop.invariant c.put_byte-p.ensures
