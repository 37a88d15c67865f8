use mathlib.Core.Path.{◌∙◌}
use native.Mathlib.Omega.{arith}
use Rattle.checkpoints.proofs.Copying.{frames-back-on}
use Rattle.checkpoints.proofs.restore_frames.Goals as goal

-- src/lib.rt:211:5
pub loop-j-preserved : goal.loop-j-preserved
loop-j-preserved c = (
  frames-back-on c.args.cells c.args.mem.now c.loop-j.mem c.restore_row.new.mem c.loop-j.j c.args.w c.requires.0 (omega (arith, c.requires.1, c.loop-j-test.true)) c.loop-j.invariant.0
      c.restore_row.ensures,
  omega (arith, c.loop-j-test.true),
  c.restore_row.auto.mem ∙ c.loop-j.invariant.2,
)
