use mathlib.Core.Path.{sym, ◌∙◌, ap}
use native.Mathlib.Omega.{arith}
use Rattle.lexer.specs.Parts.{class_number}
use Rattle.lexer.proofs.Fronts.{blank-piece}
use Rattle.lexer.proofs.piece_at.Goals as goal

pub returns-in-Blank : goal.returns-in-Blank
returns-in-Blank c =
    blank-piece c.args.text.now c.args.at c.requires.0 (omega (arith, c.type_inv.text c.args.at)) (sym c.of.ensures ∙ ap class_number c.in-Blank.is)
