use mathlib.Core.Path.{refl}
use native.Mathlib.Omega.{arith}
use Rattle.grammar.proofs.Steps.{kept, room_for, written, unwritten, begin, not_so, eat, wrote, call, fail, found, hand, is_kind, not_kind}
use Rattle.grammar.specs.Parse.{more_conj}
use Rattle.syntax.specs.Abstract.{ast}
use Rattle.syntax.specs.Table.{at_both}
use Rattle.syntax.specs.Tree.{both}
use Rattle.syntax.specs.declared.token.TokenKind.TheVariants as kind
use Rattle.grammar.proofs.+more_conjunction.Goals as goal

pub returns-in_default : goal.returns-in_default
unfolding more_conj ast
returns-in_default t c = record { same = cc; after = λ u h. found (not_so _ _ (not_kind kind.And c.kind.ensures c.in_default.not-And) (begin 1 (λ d. more_conj c.args.source.now.kinds d u) c.requires.0)) h c.requires.1 (omega arith) refl }

pub returns-in_err-next : goal.returns-in_err-next
unfolding more_conj ast
returns-in_err-next t c = record { same = cc; after = λ u h. fail _ c.in_err-next.ensures.tells (eat _ _ (is_kind kind.And c.kind.ensures c.in-And.is) refl (begin 1 (λ d. more_conj c.args.source.now.kinds d u) c.requires.0)) (omega arith) c.from_residual.ensures }

pub returns : goal.returns
unfolding more_conj ast
returns t c = record { same = cc; after = λ u h. let C = call _ c.in_ok-next.ensures.tells (eat _ _ (is_kind kind.And c.kind.ensures c.in-And.is) refl (begin 1 (λ d. more_conj c.args.source.now.kinds d u) c.requires.0)) (omega arith) in hand (c.more_conjunction.ensures.after (both u C.tree) (record { kind = _; at = at_both (written c.add-more.ensures (room_for C.sofar.ready)) (omega (arith, c.requires.1, C.more)) (omega (arith, C.rooted)) (kept (unwritten c.add-more.ensures) (omega (arith, c.requires.1, C.more)) (kept C.same c.requires.1 h)).at (kept (unwritten c.add-more.ensures) C.rooted C.holds).at })) (wrote c.add-more.ensures C.sofar (omega arith)) (omega arith) (omega arith) }
