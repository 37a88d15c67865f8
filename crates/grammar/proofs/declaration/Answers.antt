use mathlib.Core.Path.{refl}
use native.Mathlib.Omega.{arith}
use Rattle.grammar.proofs.Steps.{room_for, written, begin, not_so, pass, eat, ate, wrote, stop, missed, found, hand, clash, is_kind, not_kind}
use Rattle.grammar.specs.Parse.{read_decl}
use Rattle.syntax.specs.Abstract.{ast}
use Rattle.syntax.specs.Table.{at-declare, at-declare-free}
use Rattle.syntax.specs.declared.token.TokenKind.TheVariants as kind
use Rattle.grammar.proofs.declaration.Goals as goal

pub returns-in_err-expect : goal.returns-in_err-expect
unfolding read_decl ast
returns-in_err-expect c = record { same = cc; tells = missed _ c.in_err-expect.ensures c.from_residual.ensures (pass c.requires.1 (begin 1 (λ d. read_decl c.args.source.now.kinds) c.requires.0)) }

pub returns-in-Semi : goal.returns-in-Semi
unfolding read_decl ast
returns-in-Semi c = record { same = cc; tells = found (wrote c.add.ensures (eat _ _ (is_kind kind.Semi c.kind.ensures c.in-Semi.is) refl (ate _ c.in_ok-expect.ensures refl (pass c.requires.1 (begin 1 (λ d. read_decl c.args.source.now.kinds) c.requires.0)))) (omega arith)) (record { kind = _; at = at-declare (written c.add.ensures (room_for c.requires.0)) }) (omega arith) (omega arith) refl }

pub returns-in_default-kind : goal.returns-in_default-kind
unfolding read_decl ast
returns-in_default-kind c = record { same = cc; tells = hand c.own_pair.ensures.tells (not_so _ _ (not_kind kind.Semi c.kind-in-Free.ensures c.in_default-kind.not-Semi) (eat _ _ (is_kind kind.Free c.kind.ensures c.in-Free.is) refl (not_so _ _ (clash (is_kind kind.Free c.kind.ensures c.in-Free.is) refl) (ate _ c.in_ok-expect.ensures refl (pass c.requires.1 (begin 1 (λ d. read_decl c.args.source.now.kinds) c.requires.0)))))) (omega arith) (omega arith) }

pub returns-in-Semi-kind : goal.returns-in-Semi-kind
unfolding read_decl ast
returns-in-Semi-kind c = record { same = cc; tells = found (wrote c.add-in-Free.ensures (eat _ _ (is_kind kind.Semi c.kind-in-Free.ensures c.in-Semi-kind.is) refl (eat _ _ (is_kind kind.Free c.kind.ensures c.in-Free.is) refl (not_so _ _ (clash (is_kind kind.Free c.kind.ensures c.in-Free.is) refl) (ate _ c.in_ok-expect.ensures refl (pass c.requires.1 (begin 1 (λ d. read_decl c.args.source.now.kinds) c.requires.0)))))) (omega arith)) (record { kind = _; at = at-declare-free (written c.add-in-Free.ensures (room_for c.requires.0)) }) (omega arith) (omega arith) refl }

pub returns-in_default : goal.returns-in_default
unfolding read_decl ast
returns-in_default c = record { same = cc; tells = stop (not_so _ _ (not_kind kind.Free c.kind.ensures c.in_default.not-Free) (not_so _ _ (not_kind kind.Semi c.kind.ensures c.in_default.not-Semi) (ate _ c.in_ok-expect.ensures refl (pass c.requires.1 (begin 1 (λ d. read_decl c.args.source.now.kinds) c.requires.0))))) }
