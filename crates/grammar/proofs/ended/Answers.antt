use mathlib.Core.Path.{refl}
use native.Mathlib.Omega.{arith}
use Rattle.grammar.proofs.Steps.{kept, room_for, written, unwritten, begin, ate, wrote, call, fail, missed, found}
use Rattle.grammar.specs.Parse.{read_ended}
use Rattle.grammar.proofs.ended.Goals as goal

pub returns-in_err-next : goal.returns-in_err-next
unfolding read_ended
returns-in_err-next c = record { same = cc; ended = λ w m. fail _ c.in_err-next.ensures.tells (begin 5 (read_ended c.args.source.now.kinds w) c.requires.0) (omega arith) c.from_residual.ensures }

pub returns-in_err-expect : goal.returns-in_err-expect
unfolding read_ended
returns-in_err-expect c = record { same = cc; ended = λ w m. let C = call _ c.in_ok-next.ensures.tells (begin 5 (read_ended c.args.source.now.kinds w) c.requires.0) (omega arith) in missed _ c.in_err-expect.ensures c.from_residual-in_err-expect.ensures C.sofar }

pub returns : goal.returns
unfolding read_ended
returns c = record { same = cc; ended = λ w m. let C = call _ c.in_ok-next.ensures.tells (begin 5 (read_ended c.args.source.now.kinds w) c.requires.0) (omega arith) in found (wrote c.add.ensures (ate _ c.in_ok-expect.ensures refl C.sofar) (omega arith)) (m.make C.tree (written c.add.ensures (room_for C.sofar.ready)) (omega (arith, C.rooted)) (kept (unwritten c.add.ensures) C.rooted C.holds)) (omega arith) (omega arith) refl }
