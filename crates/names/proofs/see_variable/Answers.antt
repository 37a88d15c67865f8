use mathlib.Core.Path.{sym, ap, ◌∙◌}
use Rattle.scopes.specs.Answers.{number_of}
use Rattle.names.proofs.Seeing.{unknown, known}
use Rattle.names.proofs.see_variable.Goals as goal

pub returns-in-Some : goal.returns-in-Some
returns-in-Some g c = known c.args.i (ap number_of (sym c.in-Some.is) ∙ c.seek.ensures.found) c.write_address.ensures

pub returns-in-None : goal.returns-in-None
returns-in-None g c = unknown c.args.i (ap number_of (sym c.in-None.is) ∙ c.seek.ensures.found) c.lesser.ensures
