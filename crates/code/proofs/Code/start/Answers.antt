use native.Mathlib.Omega.{arith}
use mathlib.Core.Path.{sym, ap, ◌∙◌}
use lib.ListN.{get_or}
use Rattle.std.proofs.lemmas.Grind.{get_or_default_zero}
use Rattle.simulation.specs.Code.{Code}
use Rattle.code.proofs.Code.start.Goals as goal

pub returns : goal.returns
returns c =
    sym (get_or_default_zero c.self.inside.starts.now c.args.g 2 (omega (arith, c.self.invariant.1))) ∙ ap (λ (d : Code). get_or d.starts c.args.g 2) c.self.view_is
