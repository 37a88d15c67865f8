use mathlib.Core.Path.{refl}
use Rattle.std.proofs.Common.{rules}
use native.Mathlib.Omega.{arith}
use Rattle.grammar.proofs.Steps.{kept, room_for, written, unwritten, ready-in, begin, not_so, eat, ate, wrote, missed, found, hand, before, no-params-at, is_kind, not_kind}
use Rattle.grammar.specs.Parse.{read_params}
use Rattle.syntax.specs.Abstract.{ast}
use Rattle.syntax.specs.Table.{at-no-params, at-more-params}
use Rattle.syntax.specs.Tree.{first_param}
use Rattle.syntax.specs.declared.token.TokenKind.TheVariants as kind
use Rattle.grammar.proofs.parameters.Goals as goal

pub returns-then-eq : goal.returns-then-eq
unfolding read_params ast
returns-then-eq c = record { same = cc; tells = before c.add-none.ensures (found (eat _ _ (is_kind kind.Close c.kind.ensures (search rules)) refl (begin 1 (read_params c.args.source.now.kinds) (ready-in c.requires c.add-none.ensures))) (record { kind = _; at = at-no-params (written c.add-none.ensures (omega (arith, room_for c.requires))) }) (omega arith) (omega arith) refl) }

pub returns-in_err-expect : goal.returns-in_err-expect
unfolding read_params ast
returns-in_err-expect c = record { same = cc; tells = before c.add-none.ensures (missed _ c.in_err-expect.ensures c.from_residual.ensures (not_so _ _ (not_kind kind.Close c.kind.ensures (search rules)) (begin 1 (read_params c.args.source.now.kinds) (ready-in c.requires c.add-none.ensures)))) }

pub returns-in_err-expect-2 : goal.returns-in_err-expect-2
unfolding read_params ast
returns-in_err-expect-2 c = record { same = cc; tells = before c.add-none.ensures (missed _ c.in_err-expect-2.ensures c.from_residual-in_err-expect-2.ensures (ate _ c.in_ok-expect.ensures refl (not_so _ _ (not_kind kind.Close c.kind.ensures (search rules)) (begin 1 (read_params c.args.source.now.kinds) (ready-in c.requires c.add-none.ensures))))) }

pub returns : goal.returns
unfolding read_params ast
returns c = record { same = cc; tells = before c.add-none.ensures (hand (c.more_parameters.ensures.after (first_param _) (record { kind = _; at = at-more-params (written c.add-first.ensures (room_for (ready-in c.requires c.add-none.ensures))) (omega arith) (kept (unwritten c.add-first.ensures) (omega arith) (no-params-at (written c.add-none.ensures (omega (arith, room_for c.requires))))).at })) (wrote c.add-first.ensures (ate _ c.in_ok-expect-2.ensures refl (ate _ c.in_ok-expect.ensures refl (not_so _ _ (not_kind kind.Close c.kind.ensures (search rules)) (begin 1 (read_params c.args.source.now.kinds) (ready-in c.requires c.add-none.ensures))))) (omega arith)) (omega arith) (omega arith)) }
