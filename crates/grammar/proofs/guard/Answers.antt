use mathlib.Core.Path.{refl}
use native.Mathlib.Omega.{arith}
use Rattle.grammar.proofs.Steps.{begin, ate, call, fail, missed, found}
use Rattle.grammar.specs.Parse.{read_guard}
use Rattle.syntax.specs.Abstract.{ast}
use Rattle.grammar.proofs.guard.Goals as goal

pub returns-in_err-expect : goal.returns-in_err-expect
unfolding read_guard ast
returns-in_err-expect c = record { same = cc; tells = missed _ c.in_err-expect.ensures c.from_residual.ensures (begin 1 (read_guard c.args.source.now.kinds) c.requires) }

pub returns-in_err-next : goal.returns-in_err-next
unfolding read_guard ast
returns-in_err-next c = record { same = cc; tells = fail _ c.in_err-next.ensures.tells (ate _ c.in_ok-expect.ensures refl (begin 1 (read_guard c.args.source.now.kinds) c.requires)) (omega arith) c.from_residual-in_err-next.ensures }

pub returns-in_err-expect-2 : goal.returns-in_err-expect-2
unfolding read_guard ast
returns-in_err-expect-2 c = record { same = cc; tells = let C = call _ c.in_ok-next.ensures.tells (ate _ c.in_ok-expect.ensures refl (begin 1 (read_guard c.args.source.now.kinds) c.requires)) (omega arith) in missed _ c.in_err-expect-2.ensures c.from_residual-in_err-expect-2.ensures C.sofar }

pub returns : goal.returns
unfolding read_guard ast
returns c = record { same = cc; tells = let C = call _ c.in_ok-next.ensures.tells (ate _ c.in_ok-expect.ensures refl (begin 1 (read_guard c.args.source.now.kinds) c.requires)) (omega arith) in found (ate _ c.in_ok-expect-2.ensures refl C.sofar) C.holds C.rooted (omega arith) refl }
