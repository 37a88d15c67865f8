use mathlib.Core.Path.{refl}
use native.Mathlib.Omega.{arith}
use Rattle.grammar.proofs.Steps.{kept, room_for, written, unwritten, begin, pass, ate, wrote, call, fail, missed, found}
use Rattle.grammar.specs.Parse.{read_fun}
use Rattle.syntax.specs.Abstract.{ast}
use Rattle.syntax.specs.Table.{at-function}
use Rattle.grammar.proofs.function.Goals as goal

pub returns-in_err-expect : goal.returns-in_err-expect
unfolding read_fun ast
returns-in_err-expect c = record { same = cc; tells = missed _ c.in_err-expect.ensures c.from_residual.ensures (pass c.requires.1 (begin 1 (read_fun c.args.source.now.kinds) c.requires.0)) }

pub returns-in_err-expect-2 : goal.returns-in_err-expect-2
unfolding read_fun ast
returns-in_err-expect-2 c = record { same = cc; tells = missed _ c.in_err-expect-2.ensures c.from_residual-in_err-expect-2.ensures (ate _ c.in_ok-expect.ensures refl (pass c.requires.1 (begin 1 (read_fun c.args.source.now.kinds) c.requires.0))) }

pub returns-in_err-next : goal.returns-in_err-next
unfolding read_fun ast
returns-in_err-next c = record { same = cc; tells = fail _ c.in_err-next.ensures.tells (ate _ c.in_ok-expect-2.ensures refl (ate _ c.in_ok-expect.ensures refl (pass c.requires.1 (begin 1 (read_fun c.args.source.now.kinds) c.requires.0)))) (omega arith) c.from_residual-in_err-next.ensures }

pub returns-in_err-expect-3 : goal.returns-in_err-expect-3
unfolding read_fun ast
returns-in_err-expect-3 c = record { same = cc; tells = let C = call _ c.in_ok-next.ensures.tells (ate _ c.in_ok-expect-2.ensures refl (ate _ c.in_ok-expect.ensures refl (pass c.requires.1 (begin 1 (read_fun c.args.source.now.kinds) c.requires.0)))) (omega arith) in missed _ c.in_err-expect-3.ensures c.from_residual-in_err-expect-3.ensures C.sofar }

pub returns-in_err-next-2 : goal.returns-in_err-next-2
unfolding read_fun ast
returns-in_err-next-2 c = record { same = cc; tells = let C = call _ c.in_ok-next.ensures.tells (ate _ c.in_ok-expect-2.ensures refl (ate _ c.in_ok-expect.ensures refl (pass c.requires.1 (begin 1 (read_fun c.args.source.now.kinds) c.requires.0)))) (omega arith) in fail _ c.in_err-next-2.ensures.all (ate _ c.in_ok-expect-3.ensures refl C.sofar) (omega arith) c.from_residual-in_err-next-2.ensures }

pub returns : goal.returns
unfolding read_fun ast
returns c = record { same = cc; tells = let C = call _ c.in_ok-next.ensures.tells (ate _ c.in_ok-expect-2.ensures refl (ate _ c.in_ok-expect.ensures refl (pass c.requires.1 (begin 1 (read_fun c.args.source.now.kinds) c.requires.0)))) (omega arith) in let D = call _ c.in_ok-next-2.ensures.all (ate _ c.in_ok-expect-3.ensures refl C.sofar) (omega arith) in found (wrote c.add.ensures D.sofar (omega arith)) (record { kind = _; at = at-function (written c.add.ensures (room_for D.sofar.ready)) (omega (arith, C.rooted, D.more)) (omega (arith, D.rooted)) (kept (unwritten c.add.ensures) (omega (arith, C.rooted, D.more)) (kept D.same C.rooted C.holds)).at (kept (unwritten c.add.ensures) D.rooted D.holds).at }) (omega arith) (omega arith) refl }
