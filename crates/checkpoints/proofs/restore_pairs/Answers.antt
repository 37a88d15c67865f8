use Rattle.checkpoints.proofs.Keeping.{back-so}
use Rattle.checkpoints.proofs.restore_pairs.Goals as goal

-- src/lib.rt:219:1
pub returns : goal.returns
returns c =
    back-so c.args.cells c.args.p c.args.w c.requires.1 c.requires.0.deep c.requires.0.few c.args.mem.now c.clear.new.mem c.restore_frames.new.mem c.restore_row.new.mem c.restore_row-2.new.mem c.restore_row-3.new.mem c.clear.ensures c.restore_frames.ensures c.restore_row.ensures c.restore_row-2.ensures c.restore_row-3.ensures
