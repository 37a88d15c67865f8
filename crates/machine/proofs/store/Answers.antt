use native.Mathlib.Omega.{arith}
use Rattle.machine.proofs.Moves.{stored}
use Rattle.machine.proofs.store.Goals as goal

pub returns : goal.returns
returns c =
    stored c.args.code.now c.args.mem.now c.put.new.mem c.args.run c.args.a.0 c.take-t.result.value c.take-t.result.top c.requires.0 c.requires.1 (omega (arith, c.put.auto.mem)) c.take-t.ensures c.put.ensures
