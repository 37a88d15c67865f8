use mathlib.Core.Path.{refl}
use native.Mathlib.Omega.{arith}
use Rattle.grammar.proofs.Steps.{room_for, written, begin, pass, ate, wrote, missed, found}
use Rattle.grammar.specs.Parse.{read_fail}
use Rattle.syntax.specs.Abstract.{ast}
use Rattle.syntax.specs.Table.{at-fail}
use Rattle.grammar.proofs.failing.Goals as goal

pub returns-in_err-expect : goal.returns-in_err-expect
unfolding read_fail ast
returns-in_err-expect c = record { same = cc; tells = missed _ c.in_err-expect.ensures c.from_residual.ensures (pass c.requires.1 (begin 1 (λ d. read_fail c.args.source.now.kinds) c.requires.0)) }

pub returns : goal.returns
unfolding read_fail ast
returns c = record { same = cc; tells = found (wrote c.add.ensures (ate _ c.in_ok-expect.ensures refl (pass c.requires.1 (begin 1 (λ d. read_fail c.args.source.now.kinds) c.requires.0))) (omega arith)) (record { kind = _; at = at-fail (written c.add.ensures (room_for c.requires.0)) }) (omega arith) (omega arith) refl }
