use native.Mathlib.Omega.{arith}
use Rattle.machine.proofs.Moves.{left-from}
use Rattle.machine.proofs.leave.Goals as goal

pub returns : goal.returns
returns c =
    left-from c.args.code.now c.args.mem.now c.put.new.mem c.args.run c.take-t.result.value c.take-t.result.top c.requires.1 c.requires.0 c.requires.2 (omega (arith, c.put.auto.mem)) c.take-t.ensures c.put.ensures
