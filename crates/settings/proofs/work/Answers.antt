use native.Mathlib.Omega.{arith}
use Rattle.settings.proofs.Pass.{worked-more}
use Rattle.settings.proofs.Renumbered.{renumbered-more, renumbered-one}
use Rattle.settings.proofs.work.Goals as goal

pub loop-j-preserved : goal.loop-j-preserved
loop-j-preserved c =
    (omega arith, worked-more c.loop-j.mem _ c.loop-j.j c.args.k c.requires.0 c.loop-j.invariant.1 c.write_number.ensures, renumbered-more c.args.mem.now c.loop-j.mem _ c.loop-j.invariant.2 (renumbered-one c.loop-j.mem _ c.loop-j.j c.write_number.ensures))
