use native.Mathlib.Omega.{arith}
use Rattle.machine.proofs.Entries.{goes-run}
use Rattle.machine.proofs.Arguments.{entered}
use Rattle.machine.proofs.enter.Goals as goal

pub returns : goal.returns
returns c =
    goes-run (rw c.start.ensures)
    (entered c.args.code.now c.args.mem.now c.gather-top.new.mem c.args.run c.args.g c.args.n c.gather-top.result c.requires.0 c.requires.1 (omega (arith, c.gather-top.auto.mem)) c.gather-top.ensures)
