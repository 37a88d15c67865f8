use native.Mathlib.Omega.{arith}
use Rattle.machine.proofs.Moves.{asked}
use Rattle.machine.proofs.ask.Goals as goal

pub returns : goal.returns
returns c =
    asked c.args.mem.now c.node.new.mem c.put.new.mem c.args.run c.args.a.0 c.args.k c.requires.0 c.requires.1 c.requires.3
    (omega (arith, c.node.auto.mem, c.put.auto.mem)) c.node.ensures c.put.ensures
