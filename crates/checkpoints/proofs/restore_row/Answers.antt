use native.Mathlib.Omega.{arith}
use lib.ListN.{length-set}
use Rattle.checkpoints.proofs.Copying.{row-back-on}
use Rattle.checkpoints.proofs.restore_row.Goals as goal

-- src/lib.rt:195:5
pub loop-i-preserved : goal.loop-i-preserved
loop-i-preserved c = (
  row-back-on c.args.mem.now c.loop-i.mem c.args.x c.args.s c.args.n c.args.w c.loop-i.i c.loop-i-test.true c.requires.0 c.loop-i.invariant.2 c.loop-i.invariant.0,
  omega (arith, c.loop-i-test.true),
  simp length-set c.loop-i.invariant.2,
)
