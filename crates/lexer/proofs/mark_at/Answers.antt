use Rattle.std.proofs.Common.{◌∙◌, ◌+◌}
use lib.ListN.{get_or}
use native.Mathlib.Omega.{arith}
use Rattle.syntax.specs.TokenKinds.{kind_number}
use Rattle.lexer.proofs.Fronts.{pair-here, pair-past, pair-piece, single-piece, no-piece}
use Rattle.lexer.proofs.mark_at.Goals.{then-next-text+in_default, else-next-text}
use Rattle.lexer.proofs.mark_at.Goals as goal

pub returns-in-Some : goal.returns-in-Some
returns-in-Some c =
    let m = c.in-Some.ensures in
    pair-piece c.args.text.now c.args.at c.requires.0 (omega (arith, c.type_inv.text c.args.at)) c.requires.1 c.requires.2 (kind_number c.in-Some.kind) c.if-next-text.true m.0 m.1

pub returns-in-Some-single : goal.returns-in-Some-single
returns-in-Some-single c =
    let m = c.in-Some-single.ensures in
    single-piece c.args.text.now c.args.at c.requires.0 (omega (arith, c.type_inv.text c.args.at)) c.requires.1 c.requires.2 (kind_number c.in-Some-single.kind) (elim c.if-next-text.branch [ then-next-text+in_default w ↦ pair-here (get_or c.args.text.now c.args.at 0) c.args.text.now (c.args.at + 1) w.if-next-text.true ∙ w.in_default.ensures | else-next-text w ↦ pair-past (get_or c.args.text.now c.args.at 0) c.args.text.now (c.args.at + 1) w.if-next-text.false ]) m.0 m.1

pub returns-in-None : goal.returns-in-None
returns-in-None c =
    no-piece c.args.text.now c.args.at c.requires.0 (omega (arith, c.type_inv.text c.args.at)) c.requires.1 c.requires.2 (elim c.if-next-text.branch [ then-next-text+in_default w ↦ pair-here (get_or c.args.text.now c.args.at 0) c.args.text.now (c.args.at + 1) w.if-next-text.true ∙ w.in_default.ensures | else-next-text w ↦ pair-past (get_or c.args.text.now c.args.at 0) c.args.text.now (c.args.at + 1) w.if-next-text.false ]) (c.in-None.ensures)
