use native.Mathlib.Omega.{arith}
use Rattle.syntax.specs.TokenKinds.{kind_number}
use Rattle.lexer.proofs.Fronts.{name-piece}
use Rattle.lexer.proofs.name_at.Goals as goal

pub returns : goal.returns
returns c =
    name-piece c.args.text.now c.args.at c.requires.0 (omega (arith, c.type_inv.text c.args.at)) c.word_end-end.result (kind_number c.word_kind.result) c.requires.2 c.word_end-end.ensures.0 c.word_kind.ensures
