use mathlib.Core.Path.{refl}
use Rattle.writer.specs.Write.{wrote}
use Rattle.writer.proofs.Whole.{part_of, refused-so, filled-so}
use Rattle.writer.proofs.write.Goals as goal

pub returns-in_err-analysis : goal.returns-in_err-analysis
unfolding wrote
returns-in_err-analysis c = refused-so _ c.in_err-analysis.ensures c.from_residual.ensures

pub put_whole-requires : goal.put_whole-requires
put_whole-requires c = part_of c.in_ok-analysis.ensures

pub returns : goal.returns
unfolding wrote
returns c = filled-so refl c.in_ok-analysis.ensures c.put_whole.ensures
