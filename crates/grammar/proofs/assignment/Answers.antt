use mathlib.Core.Path.{refl}
use Rattle.std.proofs.Common.{rules}
use native.Mathlib.Omega.{arith}
use Rattle.grammar.proofs.Steps.{begin, not_so, pass, eat, hand, is_kind, not_kind}
use Rattle.grammar.specs.Parse.{read_named}
use Rattle.syntax.specs.Abstract.{ast}
use Rattle.syntax.specs.Table.{at-eval, at-assign}
use Rattle.syntax.specs.Tree.{eval, assign}
use Rattle.syntax.specs.declared.token.TokenKind.TheVariants as kind
use Rattle.grammar.proofs.assignment.Goals as goal

pub returns-then-eq : goal.returns-then-eq
unfolding read_named ast
returns-then-eq c = record { same = cc; tells = hand (c.ended.ensures.ended (assign c.args.at) (record { make = λ t r p h. record { kind = _; at = at-assign r p h.at } })) (eat _ _ (is_kind kind.Assign c.kind.ensures (search rules)) refl (pass c.requires.1 (begin 6 (read_named c.args.source.now.kinds) c.requires.0))) (omega arith) (omega arith) }

pub returns : goal.returns
unfolding read_named ast
returns c = record { same = cc; tells = hand (c.ended-2.ensures.ended eval (record { make = λ t r p h. record { kind = _; at = at-eval r p h.at } })) (not_so _ _ (not_kind kind.Assign c.kind.ensures (search rules)) (begin 6 (read_named c.args.source.now.kinds) c.requires.0)) (omega arith) (omega arith) }
