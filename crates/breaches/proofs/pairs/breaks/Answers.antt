use mathlib.Core.Path.{sym}
use mir.Facts.{to_z-of_z}
use Rattle.ints.proofs.Fits.{sub-fits}
use Rattle.text_rules.proofs.Wide.{wide}
use Rattle.breaches.proofs.pairs.breaks.Goals as goal

pub returns-in-Wide : goal.returns-in-Wide
returns-in-Wide c =
    rw (to_z-of_z c.ranges.high, to_z-of_z c.ranges.low, to_z-of_z (sub-fits c.args.high c.args.low c.requires.1 c.requires.0), c.in-Wide.is) (sym (wide c.args.low c.args.high))
