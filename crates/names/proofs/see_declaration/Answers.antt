use mathlib.Core.Path.{sym, ap, ◌∙◌}
use Rattle.scopes.specs.Answers.{number_of}
use Rattle.names.proofs.Seeing.{new, again}
use Rattle.names.proofs.see_declaration.Goals as goal

pub returns-in-Some : goal.returns-in-Some
returns-in-Some g c = rw (sym c.next.ensures) (again c.args.i (ap number_of (sym c.in-Some.is) ∙ c.seek.ensures.found) c.write_address.ensures c.lesser.ensures)

pub returns-in-None : goal.returns-in-None
returns-in-None g c = rw (sym c.next.ensures) (new c.args.i (ap number_of (sym c.in-None.is) ∙ c.seek.ensures.found) c.write_address.ensures)
