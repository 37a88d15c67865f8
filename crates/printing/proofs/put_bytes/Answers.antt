use Rattle.printing.proofs.Puts.{put-more}
use Rattle.printing.proofs.put_bytes.Goals as goal

pub loop-b-preserved : goal.loop-b-preserved
loop-b-preserved c = put-more _ _ c.loop-b-test.true c.loop-b.invariant c.put_byte-p.ensures
