use mathlib.Core.Path.{refl}
use Rattle.std.proofs.Common.{rules}
use native.Mathlib.Omega.{arith}
use Rattle.grammar.proofs.Steps.{kept, room_for, written, unwritten, ready-next, ready-after, told, begin, yes-so, not_so, pass, eat, ate, wrote, call, fail, missed, found, hand, before, not_last, clash, there, is_kind, not_kind}
use Rattle.grammar.specs.Parse.{read_stmt, read_block, read_if, read_while, more_body}
use Rattle.syntax.specs.Abstract.{ast}
use Rattle.syntax.specs.Table.{at_block, at-more-stmts, at-braced, at-no-stmts, at-if-else, at-eval, at_return, at-empty, at-while}
use Rattle.syntax.specs.Tree.{more_stmts, no_stmts, eval, return}
use Rattle.syntax.specs.declared.token.TokenKind.TheVariants as kind
use Rattle.grammar.proofs.+block_body_braces_if_else_statement_while_do.Goals as goal

pub block-returns-in_err-next : goal.block-returns-in_err-next
unfolding read_stmt ast
block-returns-in_err-next t c = record { same = cc; tells = fail _ c.in_err-next.ensures.all (pass c.requires.1 (begin 1 (read_block c.args.source.now.kinds) c.requires.0)) (omega arith) c.from_residual.ensures }

pub block-returns : goal.block-returns
unfolding read_stmt ast
block-returns t c = record { same = cc; tells = let C = call _ c.in_ok-next.ensures.all (pass c.requires.1 (begin 1 (read_block c.args.source.now.kinds) c.requires.0)) (omega arith) in found (wrote c.add.ensures C.sofar (omega arith)) (record { kind = _; at = at_block (written c.add.ensures (room_for C.sofar.ready)) (omega (arith, C.rooted)) (kept (unwritten c.add.ensures) C.rooted C.holds).at }) (omega arith) (omega arith) refl }

pub body-returns-then-eq : goal.body-returns-then-eq
unfolding read_stmt ast
body-returns-then-eq t c = record { same = cc; after = λ u h. found (wrote c.add.ensures (eat _ _ (is_kind kind.Rbrace c.kind.ensures (search rules)) refl (begin 8 (λ d. more_body c.args.source.now.kinds d u) c.requires.0)) (omega arith)) (record { kind = _; at = at-braced (written c.add.ensures (room_for c.requires.0)) (omega (arith, c.requires.1)) (kept (unwritten c.add.ensures) c.requires.1 h).at }) (omega arith) (omega arith) refl }

pub body-returns-in_err-next : goal.body-returns-in_err-next
unfolding read_stmt ast
body-returns-in_err-next t c = record { same = cc; after = λ u h. fail _ c.in_err-next.ensures.tells (not_so _ _ (not_kind kind.Rbrace c.kind.ensures (search rules)) (begin 8 (λ d. more_body c.args.source.now.kinds d u) c.requires.0)) (omega arith) c.from_residual.ensures }

pub body-returns : goal.body-returns
unfolding read_stmt ast
body-returns t c = record { same = cc; after = λ u h. let C = call _ c.in_ok-next.ensures.tells (not_so _ _ (not_kind kind.Rbrace c.kind.ensures (search rules)) (begin 8 (λ d. more_body c.args.source.now.kinds d u) c.requires.0)) (omega arith) in hand (c.body.ensures.after (more_stmts u C.tree) (record { kind = _; at = at-more-stmts (written c.add-more.ensures (room_for C.sofar.ready)) (omega (arith, c.requires.1, C.more)) (omega (arith, C.rooted)) (kept (unwritten c.add-more.ensures) (omega (arith, c.requires.1, C.more)) (kept C.same c.requires.1 h)).at (kept (unwritten c.add-more.ensures) C.rooted C.holds).at })) (wrote c.add-more.ensures C.sofar (omega arith)) (omega arith) (omega arith) }

pub braces-returns : goal.braces-returns
unfolding read_stmt ast
braces-returns t c = record { same = cc; all = before c.add-none.ensures (c.body.ensures.after no_stmts (record { kind = _; at = at-no-stmts (written c.add-none.ensures (omega (arith, room_for c.requires))) })) }

pub if_else-returns-in_err-next : goal.if_else-returns-in_err-next
unfolding read_stmt ast
if_else-returns-in_err-next t c = record { same = cc; tells = fail _ c.in_err-next.ensures.tells (pass c.requires.1 (begin 1 (read_if c.args.source.now.kinds) c.requires.0)) (omega arith) c.from_residual.ensures }

pub if_else-returns-in_err-next-2 : goal.if_else-returns-in_err-next-2
unfolding read_stmt ast
if_else-returns-in_err-next-2 t c = record { same = cc; tells = let C = call _ c.in_ok-next.ensures.tells (pass c.requires.1 (begin 1 (read_if c.args.source.now.kinds) c.requires.0)) (omega arith) in fail _ c.in_err-next-2.ensures.tells C.sofar (omega arith) c.from_residual-in_err-next-2.ensures }

pub if_else-returns-in_err-expect : goal.if_else-returns-in_err-expect
unfolding read_stmt ast
if_else-returns-in_err-expect t c = record { same = cc; tells = let C = call _ c.in_ok-next.ensures.tells (pass c.requires.1 (begin 1 (read_if c.args.source.now.kinds) c.requires.0)) (omega arith) in let D = call _ c.in_ok-next-2.ensures.tells C.sofar (omega arith) in missed _ c.in_err-expect.ensures c.from_residual-in_err-expect.ensures D.sofar }

pub if_else-returns-in_err-next-3 : goal.if_else-returns-in_err-next-3
unfolding read_stmt ast
if_else-returns-in_err-next-3 t c = record { same = cc; tells = let C = call _ c.in_ok-next.ensures.tells (pass c.requires.1 (begin 1 (read_if c.args.source.now.kinds) c.requires.0)) (omega arith) in let D = call _ c.in_ok-next-2.ensures.tells C.sofar (omega arith) in fail _ c.in_err-next-3.ensures.tells (ate _ c.in_ok-expect.ensures refl D.sofar) (omega arith) c.from_residual-in_err-next-3.ensures }

pub if_else-add-requires : goal.if_else-add-requires
if_else-add-requires t c = let f = told c.in_ok-next.ensures.tells in let q = ready-after (ready-next c.requires.0 c.requires.1) c.in_ok-next.ensures.tells in let g = told c.in_ok-next-2.ensures.tells in let p = ready-after q c.in_ok-next-2.ensures.tells in let h = not_last p (there c.in_ok-expect.ensures) refl in let o = ready-after (ready-next p h) c.in_ok-next-3.ensures.tells in omega (arith, room_for o, o.inside, o.few, o.below)

pub if_else-returns : goal.if_else-returns
unfolding read_stmt ast
if_else-returns t c = record { same = cc; tells = let C = call _ c.in_ok-next.ensures.tells (pass c.requires.1 (begin 1 (read_if c.args.source.now.kinds) c.requires.0)) (omega arith) in let D = call _ c.in_ok-next-2.ensures.tells C.sofar (omega arith) in let G = call _ c.in_ok-next-3.ensures.tells (ate _ c.in_ok-expect.ensures refl D.sofar) (omega arith) in found (wrote c.add.ensures G.sofar (omega arith)) (record { kind = _; at = at-if-else (written c.add.ensures (room_for G.sofar.ready)) (omega (arith, C.rooted, D.more, G.more)) (omega (arith, D.rooted, G.more)) (omega (arith, G.rooted)) (kept (unwritten c.add.ensures) (omega (arith, C.rooted, D.more, G.more)) (kept G.same (omega (arith, C.rooted, D.more)) (kept D.same C.rooted C.holds))).at (kept (unwritten c.add.ensures) (omega (arith, D.rooted, G.more)) (kept G.same D.rooted D.holds)).at (kept (unwritten c.add.ensures) G.rooted G.holds).at }) (omega arith) (omega arith) refl }

pub while_do-returns-in_err-next : goal.while_do-returns-in_err-next
unfolding read_stmt ast
while_do-returns-in_err-next t c = record { same = cc; tells = fail _ c.in_err-next.ensures.tells (pass c.requires.1 (begin 1 (read_while c.args.source.now.kinds) c.requires.0)) (omega arith) c.from_residual.ensures }

pub while_do-returns-in_err-next-2 : goal.while_do-returns-in_err-next-2
unfolding read_stmt ast
while_do-returns-in_err-next-2 t c = record { same = cc; tells = let C = call _ c.in_ok-next.ensures.tells (pass c.requires.1 (begin 1 (read_while c.args.source.now.kinds) c.requires.0)) (omega arith) in fail _ c.in_err-next-2.ensures.tells C.sofar (omega arith) c.from_residual-in_err-next-2.ensures }

pub while_do-returns : goal.while_do-returns
unfolding read_stmt ast
while_do-returns t c = record { same = cc; tells = let C = call _ c.in_ok-next.ensures.tells (pass c.requires.1 (begin 1 (read_while c.args.source.now.kinds) c.requires.0)) (omega arith) in let D = call _ c.in_ok-next-2.ensures.tells C.sofar (omega arith) in found (wrote c.add.ensures D.sofar (omega arith)) (record { kind = _; at = at-while (written c.add.ensures (room_for D.sofar.ready)) (omega (arith, C.rooted, D.more)) (omega (arith, D.rooted)) (kept (unwritten c.add.ensures) (omega (arith, C.rooted, D.more)) (kept D.same C.rooted C.holds)).at (kept (unwritten c.add.ensures) D.rooted D.holds).at }) (omega arith) (omega arith) refl }

pub statement-returns-in-Semi : goal.statement-returns-in-Semi
unfolding read_stmt ast
statement-returns-in-Semi t c = record { same = cc; tells = found (wrote c.add.ensures (eat _ _ (is_kind kind.Semi c.kind.ensures c.in-Semi.is) refl (begin 7 (read_stmt c.args.source.now.kinds) c.requires)) (omega arith)) (record { kind = _; at = at-empty (written c.add.ensures (room_for c.requires)) }) (omega arith) (omega arith) refl }

pub statement-returns-in-Int : goal.statement-returns-in-Int
unfolding read_stmt ast
statement-returns-in-Int t c = record { same = cc; tells = hand c.declaration.ensures.tells (yes-so _ _ (is_kind kind.Int c.kind.ensures c.in-Int.is) (not_so _ _ (clash (is_kind kind.Int c.kind.ensures c.in-Int.is) refl) (begin 7 (read_stmt c.args.source.now.kinds) c.requires))) (omega arith) (omega arith) }

pub statement-returns-in-Name : goal.statement-returns-in-Name
unfolding read_stmt ast
statement-returns-in-Name t c = record { same = cc; tells = hand c.assignment.ensures.tells (yes-so _ _ (is_kind kind.Name c.kind.ensures c.in-Name.is) (not_so _ _ (clash (is_kind kind.Name c.kind.ensures c.in-Name.is) refl) (not_so _ _ (clash (is_kind kind.Name c.kind.ensures c.in-Name.is) refl) (begin 7 (read_stmt c.args.source.now.kinds) c.requires)))) (omega arith) (omega arith) }

pub statement-returns-in-Fail : goal.statement-returns-in-Fail
unfolding read_stmt ast
statement-returns-in-Fail t c = record { same = cc; tells = hand c.failing.ensures.tells (yes-so _ _ (is_kind kind.Fail c.kind.ensures c.in-Fail.is) (not_so _ _ (clash (is_kind kind.Fail c.kind.ensures c.in-Fail.is) refl) (not_so _ _ (clash (is_kind kind.Fail c.kind.ensures c.in-Fail.is) refl) (not_so _ _ (clash (is_kind kind.Fail c.kind.ensures c.in-Fail.is) refl) (not_so _ _ (clash (is_kind kind.Fail c.kind.ensures c.in-Fail.is) refl) (not_so _ _ (clash (is_kind kind.Fail c.kind.ensures c.in-Fail.is) refl) (not_so _ _ (clash (is_kind kind.Fail c.kind.ensures c.in-Fail.is) refl) (not_so _ _ (clash (is_kind kind.Fail c.kind.ensures c.in-Fail.is) refl) (begin 7 (read_stmt c.args.source.now.kinds) c.requires))))))))) (omega arith) (omega arith) }

pub statement-returns-in-Lbrace : goal.statement-returns-in-Lbrace
unfolding read_stmt ast
statement-returns-in-Lbrace t c = record { same = cc; tells = hand c.block.ensures.tells (yes-so _ _ (is_kind kind.Lbrace c.kind.ensures c.in-Lbrace.is) (not_so _ _ (clash (is_kind kind.Lbrace c.kind.ensures c.in-Lbrace.is) refl) (not_so _ _ (clash (is_kind kind.Lbrace c.kind.ensures c.in-Lbrace.is) refl) (not_so _ _ (clash (is_kind kind.Lbrace c.kind.ensures c.in-Lbrace.is) refl) (begin 7 (read_stmt c.args.source.now.kinds) c.requires))))) (omega arith) (omega arith) }

pub statement-returns-in-If : goal.statement-returns-in-If
unfolding read_stmt ast
statement-returns-in-If t c = record { same = cc; tells = hand c.if_else.ensures.tells (yes-so _ _ (is_kind kind.If c.kind.ensures c.in-If.is) (not_so _ _ (clash (is_kind kind.If c.kind.ensures c.in-If.is) refl) (not_so _ _ (clash (is_kind kind.If c.kind.ensures c.in-If.is) refl) (not_so _ _ (clash (is_kind kind.If c.kind.ensures c.in-If.is) refl) (not_so _ _ (clash (is_kind kind.If c.kind.ensures c.in-If.is) refl) (begin 7 (read_stmt c.args.source.now.kinds) c.requires)))))) (omega arith) (omega arith) }

pub statement-returns-in-While : goal.statement-returns-in-While
unfolding read_stmt ast
statement-returns-in-While t c = record { same = cc; tells = hand c.while_do.ensures.tells (yes-so _ _ (is_kind kind.While c.kind.ensures c.in-While.is) (not_so _ _ (clash (is_kind kind.While c.kind.ensures c.in-While.is) refl) (not_so _ _ (clash (is_kind kind.While c.kind.ensures c.in-While.is) refl) (not_so _ _ (clash (is_kind kind.While c.kind.ensures c.in-While.is) refl) (not_so _ _ (clash (is_kind kind.While c.kind.ensures c.in-While.is) refl) (not_so _ _ (clash (is_kind kind.While c.kind.ensures c.in-While.is) refl) (begin 7 (read_stmt c.args.source.now.kinds) c.requires))))))) (omega arith) (omega arith) }

pub statement-returns-in-Return : goal.statement-returns-in-Return
unfolding read_stmt ast
statement-returns-in-Return t c = record { same = cc; tells = hand (c.ended.ensures.ended (return c.args.at) (record { make = λ t r p h. record { kind = _; at = at_return r p h.at } })) (eat _ _ (is_kind kind.Return c.kind.ensures c.in-Return.is) refl (not_so _ _ (clash (is_kind kind.Return c.kind.ensures c.in-Return.is) refl) (not_so _ _ (clash (is_kind kind.Return c.kind.ensures c.in-Return.is) refl) (not_so _ _ (clash (is_kind kind.Return c.kind.ensures c.in-Return.is) refl) (not_so _ _ (clash (is_kind kind.Return c.kind.ensures c.in-Return.is) refl) (not_so _ _ (clash (is_kind kind.Return c.kind.ensures c.in-Return.is) refl) (not_so _ _ (clash (is_kind kind.Return c.kind.ensures c.in-Return.is) refl) (begin 7 (read_stmt c.args.source.now.kinds) c.requires)))))))) (omega arith) (omega arith) }

pub statement-returns-in_default : goal.statement-returns-in_default
unfolding read_stmt ast
statement-returns-in_default t c = record { same = cc; tells = hand (c.ended-in_default.ensures.ended eval (record { make = λ t r p h. record { kind = _; at = at-eval r p h.at } })) (not_so _ _ (not_kind kind.Fail c.kind.ensures c.in_default.not-Fail) (not_so _ _ (not_kind kind.Return c.kind.ensures c.in_default.not-Return) (not_so _ _ (not_kind kind.While c.kind.ensures c.in_default.not-While) (not_so _ _ (not_kind kind.If c.kind.ensures c.in_default.not-If) (not_so _ _ (not_kind kind.Lbrace c.kind.ensures c.in_default.not-Lbrace) (not_so _ _ (not_kind kind.Name c.kind.ensures c.in_default.not-Name) (not_so _ _ (not_kind kind.Int c.kind.ensures c.in_default.not-Int) (not_so _ _ (not_kind kind.Semi c.kind.ensures c.in_default.not-Semi) (begin 7 (read_stmt c.args.source.now.kinds) c.requires))))))))) (omega arith) (omega arith) }
