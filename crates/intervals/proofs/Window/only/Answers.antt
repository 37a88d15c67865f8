use mir.Facts.{to_z-of_z}
use Rattle.intervals.specs.Meaning.{of_window}
use Rattle.intervals.proofs.Narrow.{eq-cut}
use Rattle.intervals.proofs.Window.only.Goals as goal

pub returns : goal.returns
returns c = simp (to_z-of_z c.ranges.k, eq-cut (of_window c.args.self) c.args.k c.requires)
