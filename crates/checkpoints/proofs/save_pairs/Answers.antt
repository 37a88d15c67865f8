use Rattle.checkpoints.proofs.Keeping.{lives-so, marking-so}
use Rattle.checkpoints.proofs.save_pairs.Goals as goal

-- src/lib.rt:69:1
pub returns : goal.returns
returns c = (
  lives-so c.args.cells c.args.p c.args.w c.requires.1 c.requires.0.deep c.requires.0.few c.args.mem.now c.save_frames.new.mem c.save_row.new.mem c.save_row-2.new.mem c.save_row-3.new.mem c.save_frames.ensures c.save_row.ensures c.save_row-2.ensures c.save_row-3.ensures,
  marking-so c.args.cells c.args.p c.args.w c.requires.1 c.requires.0.deep c.requires.0.few c.args.mem.now c.save_frames.new.mem c.save_row.new.mem c.save_row-2.new.mem c.save_row-3.new.mem c.save_frames.ensures c.save_row.ensures c.save_row-2.ensures c.save_row-3.ensures,
)
