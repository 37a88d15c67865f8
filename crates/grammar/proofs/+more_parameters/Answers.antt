use mathlib.Core.Path.{refl}
use Rattle.std.proofs.Common.{rules}
use native.Mathlib.Omega.{arith}
use Rattle.grammar.proofs.Steps.{kept, room_for, written, unwritten, begin, not_so, eat, ate, wrote, missed, halt, gone, absent, found, hand, clash, there, is_kind, not_kind}
use Rattle.grammar.specs.Parse.{more_params}
use Rattle.syntax.specs.Abstract.{ast}
use Rattle.syntax.specs.Table.{at-more-params}
use Rattle.syntax.specs.Tree.{next_param}
use Rattle.syntax.specs.declared.token.TokenKind.TheVariants as kind
use Rattle.grammar.proofs.+more_parameters.Goals as goal

pub returns-then-eq : goal.returns-then-eq
unfolding more_params ast
returns-then-eq t c = record { same = cc; after = λ u h. found (eat _ _ (is_kind kind.Close c.kind.ensures (search rules)) refl (not_so _ _ (clash (is_kind kind.Close c.kind.ensures (search rules)) refl) (begin 1 (λ d. more_params c.args.source.now.kinds d u) c.requires.0))) h c.requires.1 (omega arith) refl }

pub returns-in_err-expect : goal.returns-in_err-expect
unfolding more_params ast
returns-in_err-expect t c = record { same = cc; after = λ u h. halt (absent c.in_err-expect.ensures).1 c.from_residual.ensures (not_so _ _ (not_kind kind.Close c.kind.ensures (search rules)) (not_so _ _ (gone c.in_err-expect.ensures) (begin 1 (λ d. more_params c.args.source.now.kinds d u) c.requires.0))) }

pub returns-in_err-expect-2 : goal.returns-in_err-expect-2
unfolding more_params ast
returns-in_err-expect-2 t c = record { same = cc; after = λ u h. missed _ c.in_err-expect-2.ensures c.from_residual-in_err-expect-2.ensures (eat _ _ (there c.in_ok-expect.ensures) refl (begin 1 (λ d. more_params c.args.source.now.kinds d u) c.requires.0)) }

pub returns-in_err-expect-3 : goal.returns-in_err-expect-3
unfolding more_params ast
returns-in_err-expect-3 t c = record { same = cc; after = λ u h. missed _ c.in_err-expect-3.ensures c.from_residual-in_err-expect-3.ensures (ate _ c.in_ok-expect-2.ensures refl (eat _ _ (there c.in_ok-expect.ensures) refl (begin 1 (λ d. more_params c.args.source.now.kinds d u) c.requires.0))) }

pub returns : goal.returns
unfolding more_params ast
returns t c = record { same = cc; after = λ u h. hand (c.more_parameters.ensures.after (next_param u _) (record { kind = _; at = at-more-params (written c.add-more.ensures (room_for c.requires.0)) (omega (arith, c.requires.1)) (kept (unwritten c.add-more.ensures) c.requires.1 h).at })) (wrote c.add-more.ensures (ate _ c.in_ok-expect-3.ensures refl (ate _ c.in_ok-expect-2.ensures refl (eat _ _ (there c.in_ok-expect.ensures) refl (begin 1 (λ d. more_params c.args.source.now.kinds d u) c.requires.0)))) (omega arith)) (omega arith) (omega arith) }
