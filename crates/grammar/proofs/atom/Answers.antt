use mathlib.Core.Path.{refl}
use native.Mathlib.Omega.{arith}
use Rattle.grammar.proofs.Marks.{compared, uncompared}
use Rattle.grammar.proofs.Steps.{kept, room_for, written, unwritten, begin, swap, not_so, pass, eat, wrote, call, fail, stop, found, not_last, clash, is_kind, not_kind, row-third}
use Rattle.grammar.specs.Parse.{read_atom}
use Rattle.syntax.specs.Abstract.{ast}
use Rattle.syntax.specs.Table.{at-always, at-never, at-compare}
use Rattle.syntax.specs.declared.token.TokenKind.TheVariants as kind
use Rattle.grammar.proofs.atom.Goals as goal

pub returns-in-True : goal.returns-in-True
unfolding read_atom ast
returns-in-True c = record { same = cc; tells = found (wrote c.add.ensures (eat _ _ (is_kind kind.True c.kind.ensures c.in-True.is) refl (begin 5 (read_atom c.args.source.now.kinds) c.requires)) (omega arith)) (record { kind = _; at = at-always (written c.add.ensures (room_for c.requires)) }) (omega arith) (omega arith) refl }

pub returns-in-False : goal.returns-in-False
unfolding read_atom ast
returns-in-False c = record { same = cc; tells = found (wrote c.add-in-False.ensures (eat _ _ (is_kind kind.False c.kind.ensures c.in-False.is) refl (not_so _ _ (clash (is_kind kind.False c.kind.ensures c.in-False.is) refl) (begin 5 (read_atom c.args.source.now.kinds) c.requires))) (omega arith)) (record { kind = _; at = at-never (written c.add-in-False.ensures (room_for c.requires)) }) (omega arith) (omega arith) refl }

pub returns-in_err-next-in_default : goal.returns-in_err-next-in_default
unfolding read_atom ast
returns-in_err-next-in_default c = record { same = cc; tells = fail _ c.in_err-next-in_default.ensures.tells (not_so _ _ (not_kind kind.False c.kind.ensures c.in_default.not-False) (not_so _ _ (not_kind kind.True c.kind.ensures c.in_default.not-True) (begin 5 (read_atom c.args.source.now.kinds) c.requires))) (omega arith) c.from_residual.ensures }

pub returns-in_default-comparison : goal.returns-in_default-comparison
unfolding read_atom ast
returns-in_default-comparison c = record { same = cc; tells = let C = call _ c.in_ok-next-in_default.ensures.tells (not_so _ _ (not_kind kind.False c.kind.ensures c.in_default.not-False) (not_so _ _ (not_kind kind.True c.kind.ensures c.in_default.not-True) (begin 5 (read_atom c.args.source.now.kinds) c.requires))) (omega arith) in stop (swap _ (uncompared c.args.source.now.kinds _ _ c.kind-in_default.ensures c.in_default-comparison.ensures) C.sofar) }

pub returns-in_err-next-in_default-2 : goal.returns-in_err-next-in_default-2
unfolding read_atom ast
returns-in_err-next-in_default-2 c = record { same = cc; tells = let C = call _ c.in_ok-next-in_default.ensures.tells (not_so _ _ (not_kind kind.False c.kind.ensures c.in_default.not-False) (not_so _ _ (not_kind kind.True c.kind.ensures c.in_default.not-True) (begin 5 (read_atom c.args.source.now.kinds) c.requires))) (omega arith) in let w = compared c.args.source.now.kinds _ _ c.kind-in_default.ensures c.in-Some.ensures in fail _ c.in_err-next-in_default-2.ensures.tells (pass (not_last C.sofar.ready w.stands w.some) (swap _ w.reads C.sofar)) (omega arith) c.from_residual-in_err-next-in_default-2.ensures }

pub returns-in_ok-next-in_default-2 : goal.returns-in_ok-next-in_default-2
unfolding read_atom ast
returns-in_ok-next-in_default-2 c = record { same = cc; tells = let C = call _ c.in_ok-next-in_default.ensures.tells (not_so _ _ (not_kind kind.False c.kind.ensures c.in_default.not-False) (not_so _ _ (not_kind kind.True c.kind.ensures c.in_default.not-True) (begin 5 (read_atom c.args.source.now.kinds) c.requires))) (omega arith) in let w = compared c.args.source.now.kinds _ _ c.kind-in_default.ensures c.in-Some.ensures in let D = call _ c.in_ok-next-in_default-2.ensures.tells (pass (not_last C.sofar.ready w.stands w.some) (swap _ w.reads C.sofar)) (omega arith) in found (wrote c.add-in_default.ensures D.sofar (omega arith)) (record { kind = _; at = at-compare {o = w.mark} (row-third w.number (written c.add-in_default.ensures (room_for D.sofar.ready))) (omega (arith, C.rooted, D.more)) (omega (arith, D.rooted)) (kept (unwritten c.add-in_default.ensures) (omega (arith, C.rooted, D.more)) (kept D.same C.rooted C.holds)).at (kept (unwritten c.add-in_default.ensures) D.rooted D.holds).at }) (omega arith) (omega arith) refl }
