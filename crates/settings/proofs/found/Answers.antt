use mir.Syntax.{w32}
use mathlib.Core.Path.{◌∙◌}
use mir.Facts.{to_z-of_z}
use Rattle.machine.specs.Terms.{cell_of}
use Rattle.settings.proofs.Placed.{placed-as}
use Rattle.settings.proofs.found.Goals as goal

pub returns : goal.returns
returns c =
    (placed-as c.args.mem.now c.work.new.mem c.args.nodes c.args.k (cell_of c.args.v) c.requires.0 c.work.ensures.0 c.work.ensures.1 c.args.rows.now _ c.args.t _ _ (to_z-of_z {w = w32} (record { sfits = c.result.type_inv }) ∙ c.result.ensures) c.place.ensures, c.work.ensures.1)
