use Prim.Native.Nat.{◌+◌}
use native.Mathlib.Omega.{arith}
use lib.ListN.{length-set}
use Rattle.checkpoints.proofs.Places.{mark-below}
use Rattle.checkpoints.proofs.Copying.{numbered-on}
use Rattle.checkpoints.proofs.put_numbers.Goals as goal

-- src/lib.rt:89:5
pub loop-i-preserved : goal.loop-i-preserved
loop-i-preserved c = (
  numbered-on c.args.mem.now c.loop-i.mem c.args.h c.args.w c.loop-i.i (omega (arith, mark-below (c.args.w + c.loop-i.i) (omega (arith, c.loop-i-test.true)) c.requires, c.loop-i.invariant.2)) c.loop-i.invariant.0,
  omega (arith, c.loop-i-test.true),
  simp length-set c.loop-i.invariant.2,
)
