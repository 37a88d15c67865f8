use Prim.Native.Nat.{◌+◌}
use native.Mathlib.Omega.{arith}
use lib.ListN.{length-set}
use Rattle.checkpoints.proofs.Places.{mark-below}
use Rattle.checkpoints.proofs.Copying.{row_on}
use Rattle.checkpoints.proofs.save_row.Goals as goal

-- src/lib.rt:45:5
pub loop-i-preserved : goal.loop-i-preserved
loop-i-preserved c = (
  row_on c.args.mem.now c.loop-i.mem c.args.x c.args.s c.args.n c.args.w c.loop-i.i c.loop-i-test.true c.requires.0 (omega (arith, mark-below (c.args.w + c.loop-i.i) (omega (arith, c.loop-i-test.true)) c.requires.1, c.loop-i.invariant.2)) c.loop-i.invariant.0,
  omega (arith, c.loop-i-test.true),
  simp length-set c.loop-i.invariant.2,
)
