use native.Mathlib.Omega.{arith}
use Rattle.lexer.proofs.Fronts.{number-piece}
use Rattle.lexer.proofs.number_at.Goals as goal

pub returns : goal.returns
returns c =
    number-piece c.args.text.now c.args.at c.requires.0 (omega (arith, c.type_inv.text c.args.at)) c.requires.1 c.number_end-end.result c.number_value.result c.number_end-end.ensures.0 c.number_value.ensures
