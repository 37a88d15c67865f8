use mathlib.Core.Path.{refl}
use Rattle.std.proofs.Common.{rules}
use native.Mathlib.Omega.{arith}
use Rattle.grammar.proofs.Marks.{signed, unsigned}
use Rattle.grammar.proofs.Steps.{kept, room_for, written, unwritten, ready-in, begin, same-as, yes-so, not_so, pass, eat, ate, wrote, call, fail, stop, missed, found, hand, before, none-at, not_last, clash, is_kind, not_kind}
use Rattle.grammar.specs.Parse.{read_operand, read_bracket, read_call, read_args, more_args, read_term, more_term, read_sum, more_sum}
use Rattle.syntax.specs.Abstract.{ast}
use Rattle.syntax.specs.Table.{at_no_args, at-more-args, at_bracket, at-times, at_name, at_call, at-number, at-negative}
use Rattle.syntax.specs.Tree.{first_arg, next_arg, addend, product, times, factor}
use Rattle.syntax.specs.declared.token.TokenKind.TheVariants as kind
use Rattle.grammar.proofs.+arguments_bracketed_expression_more_arguments_more_expression_more_term_named_operand_term.Goals as goal

pub arguments-returns-then-eq : goal.arguments-returns-then-eq
unfolding read_operand ast
arguments-returns-then-eq t c = record { same = cc; tells = before c.add-none.ensures (found (eat _ _ (is_kind kind.Close c.kind.ensures (search rules)) refl (begin 5 (read_args c.args.source.now.kinds) (ready-in c.requires c.add-none.ensures))) (record { kind = _; at = at_no_args (written c.add-none.ensures (omega (arith, room_for c.requires))) }) (omega arith) (omega arith) refl) }

pub arguments-returns-in_err-next : goal.arguments-returns-in_err-next
unfolding read_operand ast
arguments-returns-in_err-next t c = record { same = cc; tells = before c.add-none.ensures (fail _ c.in_err-next.ensures.tells (not_so _ _ (not_kind kind.Close c.kind.ensures (search rules)) (begin 5 (read_args c.args.source.now.kinds) (ready-in c.requires c.add-none.ensures))) (omega arith) c.from_residual.ensures) }

pub arguments-returns : goal.arguments-returns
unfolding read_operand ast
arguments-returns t c = record { same = cc; tells = before c.add-none.ensures (let C = call _ c.in_ok-next.ensures.tells (not_so _ _ (not_kind kind.Close c.kind.ensures (search rules)) (begin 5 (read_args c.args.source.now.kinds) (ready-in c.requires c.add-none.ensures))) (omega arith) in hand (c.more_arguments.ensures.after (first_arg C.tree) (record { kind = _; at = at-more-args (written c.add-first.ensures (room_for C.sofar.ready)) (omega (arith, C.more)) (omega (arith, C.rooted)) (kept (unwritten c.add-first.ensures) (omega (arith, C.more)) (kept C.same (omega arith) (none-at (written c.add-none.ensures (omega (arith, room_for c.requires)))))).at (kept (unwritten c.add-first.ensures) C.rooted C.holds).at })) (wrote c.add-first.ensures C.sofar (omega arith)) (omega arith) (omega arith)) }

pub bracketed-returns-in_err-next : goal.bracketed-returns-in_err-next
unfolding read_operand ast
bracketed-returns-in_err-next t c = record { same = cc; tells = fail _ c.in_err-next.ensures.tells (pass c.requires.1 (begin 1 (read_bracket c.args.source.now.kinds) c.requires.0)) (omega arith) c.from_residual.ensures }

pub bracketed-returns-in_err-expect : goal.bracketed-returns-in_err-expect
unfolding read_operand ast
bracketed-returns-in_err-expect t c = record { same = cc; tells = let C = call _ c.in_ok-next.ensures.tells (pass c.requires.1 (begin 1 (read_bracket c.args.source.now.kinds) c.requires.0)) (omega arith) in missed _ c.in_err-expect.ensures c.from_residual-in_err-expect.ensures C.sofar }

pub bracketed-returns : goal.bracketed-returns
unfolding read_operand ast
bracketed-returns t c = record { same = cc; tells = let C = call _ c.in_ok-next.ensures.tells (pass c.requires.1 (begin 1 (read_bracket c.args.source.now.kinds) c.requires.0)) (omega arith) in found (wrote c.add.ensures (ate _ c.in_ok-expect.ensures refl C.sofar) (omega arith)) (record { kind = _; at = at_bracket (written c.add.ensures (room_for C.sofar.ready)) (omega (arith, C.rooted)) (kept (unwritten c.add.ensures) C.rooted C.holds).at }) (omega arith) (omega arith) refl }

pub expression-returns-in_err-next : goal.expression-returns-in_err-next
unfolding read_operand ast
expression-returns-in_err-next t c = record { same = cc; tells = fail _ c.in_err-next.ensures.tells (begin 4 (read_sum c.args.source.now.kinds) c.requires) (omega arith) c.from_residual.ensures }

pub expression-returns : goal.expression-returns
unfolding read_operand ast
expression-returns t c = record { same = cc; tells = let C = call _ c.in_ok-next.ensures.tells (begin 4 (read_sum c.args.source.now.kinds) c.requires) (omega arith) in hand (c.more_expression.ensures.after (addend C.tree) C.holds) C.sofar (omega arith) (omega arith) }

pub more_arguments-returns-in-Close : goal.more_arguments-returns-in-Close
unfolding read_operand ast
more_arguments-returns-in-Close t c = record { same = cc; after = λ u h. found (eat _ _ (is_kind kind.Close c.kind.ensures c.in-Close.is) refl (not_so _ _ (clash (is_kind kind.Close c.kind.ensures c.in-Close.is) refl) (begin 1 (λ d. more_args c.args.source.now.kinds d u) c.requires.0))) h c.requires.1 (omega arith) refl }

pub more_arguments-returns-in_err-next-in-Comma : goal.more_arguments-returns-in_err-next-in-Comma
unfolding read_operand ast
more_arguments-returns-in_err-next-in-Comma t c = record { same = cc; after = λ u h. fail _ c.in_err-next-in-Comma.ensures.tells (eat _ _ (is_kind kind.Comma c.kind.ensures c.in-Comma.is) refl (begin 1 (λ d. more_args c.args.source.now.kinds d u) c.requires.0)) (omega arith) c.from_residual.ensures }

pub more_arguments-returns-in_ok-next-in-Comma : goal.more_arguments-returns-in_ok-next-in-Comma
unfolding read_operand ast
more_arguments-returns-in_ok-next-in-Comma t c = record { same = cc; after = λ u h. let C = call _ c.in_ok-next-in-Comma.ensures.tells (eat _ _ (is_kind kind.Comma c.kind.ensures c.in-Comma.is) refl (begin 1 (λ d. more_args c.args.source.now.kinds d u) c.requires.0)) (omega arith) in hand (c.more_arguments.ensures.after (next_arg u C.tree) (record { kind = _; at = at-more-args (written c.add-more.ensures (room_for C.sofar.ready)) (omega (arith, c.requires.1, C.more)) (omega (arith, C.rooted)) (kept (unwritten c.add-more.ensures) (omega (arith, c.requires.1, C.more)) (kept C.same c.requires.1 h)).at (kept (unwritten c.add-more.ensures) C.rooted C.holds).at })) (wrote c.add-more.ensures C.sofar (omega arith)) (omega arith) (omega arith) }

pub more_arguments-returns-in_default : goal.more_arguments-returns-in_default
unfolding read_operand ast
more_arguments-returns-in_default t c = record { same = cc; after = λ u h. stop (not_so _ _ (not_kind kind.Close c.kind.ensures c.in_default.not-Close) (not_so _ _ (not_kind kind.Comma c.kind.ensures c.in_default.not-Comma) (begin 1 (λ d. more_args c.args.source.now.kinds d u) c.requires.0))) }

pub more_expression-returns-in_default : goal.more_expression-returns-in_default
unfolding read_operand ast
more_expression-returns-in_default t c = record { same = cc; after = λ u h. found (same-as (λ d. unsigned c.args.source.now.kinds _ _ c.kind.ensures c.in_default.ensures d u) (begin 1 (λ d. more_sum c.args.source.now.kinds d u) c.requires.0)) h c.requires.1 (omega arith) refl }

pub more_expression-returns-in_err-next : goal.more_expression-returns-in_err-next
unfolding read_operand ast
more_expression-returns-in_err-next t c = record { same = cc; after = λ u h. let w = signed c.args.source.now.kinds _ _ c.kind.ensures c.in-Some.ensures in fail _ c.in_err-next.ensures.tells (pass (not_last c.requires.0 w.stands w.some) (same-as (λ d. w.goes d u) (begin 1 (λ d. more_sum c.args.source.now.kinds d u) c.requires.0))) (omega arith) c.from_residual.ensures }

pub more_expression-returns : goal.more_expression-returns
unfolding read_operand ast
more_expression-returns t c = record { same = cc; after = λ u h. let w = signed c.args.source.now.kinds _ _ c.kind.ensures c.in-Some.ensures in let C = call _ c.in_ok-next.ensures.tells (pass (not_last c.requires.0 w.stands w.some) (same-as (λ d. w.goes d u) (begin 1 (λ d. more_sum c.args.source.now.kinds d u) c.requires.0))) (omega arith) in hand (c.more_expression.ensures.after (w.op u C.tree) (w.make u C.tree (written c.add-more.ensures (room_for C.sofar.ready)) (omega (arith, c.requires.1, C.more)) (omega (arith, C.rooted)) (kept (unwritten c.add-more.ensures) (omega (arith, c.requires.1, C.more)) (kept C.same c.requires.1 h)) (kept (unwritten c.add-more.ensures) C.rooted C.holds))) (wrote c.add-more.ensures C.sofar (omega arith)) (omega arith) (omega arith) }

pub more_term-returns-in_default : goal.more_term-returns-in_default
unfolding read_operand ast
more_term-returns-in_default t c = record { same = cc; after = λ u h. found (not_so _ _ (not_kind kind.Times c.kind.ensures c.in_default.not-Times) (begin 1 (λ d. more_term c.args.source.now.kinds d u) c.requires.0)) h c.requires.1 (omega arith) refl }

pub more_term-returns-in_err-next : goal.more_term-returns-in_err-next
unfolding read_operand ast
more_term-returns-in_err-next t c = record { same = cc; after = λ u h. fail _ c.in_err-next.ensures.tells (eat _ _ (is_kind kind.Times c.kind.ensures c.in-Times.is) refl (begin 1 (λ d. more_term c.args.source.now.kinds d u) c.requires.0)) (omega arith) c.from_residual.ensures }

pub more_term-returns : goal.more_term-returns
unfolding read_operand ast
more_term-returns t c = record { same = cc; after = λ u h. let C = call _ c.in_ok-next.ensures.tells (eat _ _ (is_kind kind.Times c.kind.ensures c.in-Times.is) refl (begin 1 (λ d. more_term c.args.source.now.kinds d u) c.requires.0)) (omega arith) in hand (c.more_term.ensures.after (times product u C.tree) (record { kind = _; at = at-times (written c.add-more.ensures (room_for C.sofar.ready)) (omega (arith, c.requires.1, C.more)) (omega (arith, C.rooted)) (kept (unwritten c.add-more.ensures) (omega (arith, c.requires.1, C.more)) (kept C.same c.requires.1 h)).at (kept (unwritten c.add-more.ensures) C.rooted C.holds).at })) (wrote c.add-more.ensures C.sofar (omega arith)) (omega arith) (omega arith) }

pub named-returns-in_default : goal.named-returns-in_default
unfolding read_operand ast
named-returns-in_default t c = record { same = cc; tells = found (wrote c.add.ensures (not_so _ _ (not_kind kind.Open c.kind.ensures c.in_default.not-Open) (pass c.requires.1 (begin 1 (read_call c.args.source.now.kinds) c.requires.0))) (omega arith)) (record { kind = _; at = at_name (written c.add.ensures (room_for c.requires.0)) }) (omega arith) (omega arith) refl }

pub named-returns-in_err-next : goal.named-returns-in_err-next
unfolding read_operand ast
named-returns-in_err-next t c = record { same = cc; tells = fail _ c.in_err-next.ensures.tells (eat _ _ (is_kind kind.Open c.kind.ensures c.in-Open.is) refl (pass c.requires.1 (begin 1 (read_call c.args.source.now.kinds) c.requires.0))) (omega arith) c.from_residual.ensures }

pub named-returns : goal.named-returns
unfolding read_operand ast
named-returns t c = record { same = cc; tells = let C = call _ c.in_ok-next.ensures.tells (eat _ _ (is_kind kind.Open c.kind.ensures c.in-Open.is) refl (pass c.requires.1 (begin 1 (read_call c.args.source.now.kinds) c.requires.0))) (omega arith) in found (wrote c.add-2.ensures C.sofar (omega arith)) (record { kind = _; at = at_call (written c.add-2.ensures (room_for C.sofar.ready)) (omega (arith, C.rooted)) (kept (unwritten c.add-2.ensures) C.rooted C.holds).at }) (omega arith) (omega arith) refl }

pub operand-returns-in-Number : goal.operand-returns-in-Number
unfolding read_operand ast
operand-returns-in-Number t c = record { same = cc; tells = found (wrote c.add.ensures (eat _ _ (is_kind kind.Number c.kind.ensures c.in-Number.is) refl (begin 2 (read_operand c.args.source.now.kinds) c.requires)) (omega arith)) (record { kind = _; at = at-number (written c.add.ensures (room_for c.requires)) }) (omega arith) (omega arith) refl }

pub operand-returns-in_err-expect-in-Minus : goal.operand-returns-in_err-expect-in-Minus
unfolding read_operand ast
operand-returns-in_err-expect-in-Minus t c = record { same = cc; tells = missed _ c.in_err-expect-in-Minus.ensures c.from_residual.ensures (eat _ _ (is_kind kind.Minus c.kind.ensures c.in-Minus.is) refl (not_so _ _ (clash (is_kind kind.Minus c.kind.ensures c.in-Minus.is) refl) (begin 2 (read_operand c.args.source.now.kinds) c.requires))) }

pub operand-returns-in_ok-expect-in-Minus : goal.operand-returns-in_ok-expect-in-Minus
unfolding read_operand ast
operand-returns-in_ok-expect-in-Minus t c = record { same = cc; tells = found (wrote c.add-in-Minus.ensures (ate _ c.in_ok-expect-in-Minus.ensures refl (eat _ _ (is_kind kind.Minus c.kind.ensures c.in-Minus.is) refl (not_so _ _ (clash (is_kind kind.Minus c.kind.ensures c.in-Minus.is) refl) (begin 2 (read_operand c.args.source.now.kinds) c.requires)))) (omega arith)) (record { kind = _; at = at-negative (written c.add-in-Minus.ensures (room_for c.requires)) }) (omega arith) (omega arith) refl }

pub operand-returns-in-Name : goal.operand-returns-in-Name
unfolding read_operand ast
operand-returns-in-Name t c = record { same = cc; tells = hand c.named.ensures.tells (yes-so _ _ (is_kind kind.Name c.kind.ensures c.in-Name.is) (not_so _ _ (clash (is_kind kind.Name c.kind.ensures c.in-Name.is) refl) (not_so _ _ (clash (is_kind kind.Name c.kind.ensures c.in-Name.is) refl) (begin 2 (read_operand c.args.source.now.kinds) c.requires)))) (omega arith) (omega arith) }

pub operand-returns-in-Open : goal.operand-returns-in-Open
unfolding read_operand ast
operand-returns-in-Open t c = record { same = cc; tells = hand c.bracketed.ensures.tells (yes-so _ _ (is_kind kind.Open c.kind.ensures c.in-Open.is) (not_so _ _ (clash (is_kind kind.Open c.kind.ensures c.in-Open.is) refl) (not_so _ _ (clash (is_kind kind.Open c.kind.ensures c.in-Open.is) refl) (not_so _ _ (clash (is_kind kind.Open c.kind.ensures c.in-Open.is) refl) (begin 2 (read_operand c.args.source.now.kinds) c.requires))))) (omega arith) (omega arith) }

pub operand-returns-in_default : goal.operand-returns-in_default
unfolding read_operand ast
operand-returns-in_default t c = record { same = cc; tells = stop (not_so _ _ (not_kind kind.Open c.kind.ensures c.in_default.not-Open) (not_so _ _ (not_kind kind.Name c.kind.ensures c.in_default.not-Name) (not_so _ _ (not_kind kind.Minus c.kind.ensures c.in_default.not-Minus) (not_so _ _ (not_kind kind.Number c.kind.ensures c.in_default.not-Number) (begin 2 (read_operand c.args.source.now.kinds) c.requires))))) }

pub term-returns-in_err-next : goal.term-returns-in_err-next
unfolding read_operand ast
term-returns-in_err-next t c = record { same = cc; tells = fail _ c.in_err-next.ensures.tells (begin 3 (read_term c.args.source.now.kinds) c.requires) (omega arith) c.from_residual.ensures }

pub term-returns : goal.term-returns
unfolding read_operand ast
term-returns t c = record { same = cc; tells = let C = call _ c.in_ok-next.ensures.tells (begin 3 (read_term c.args.source.now.kinds) c.requires) (omega arith) in hand (c.more_term.ensures.after (factor C.tree) C.holds) C.sofar (omega arith) (omega arith) }
