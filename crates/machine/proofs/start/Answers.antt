use native.Mathlib.Omega.{arith}
use Rattle.machine.proofs.Capacity.{started}
use Rattle.machine.proofs.start.Goals as goal

pub returns : goal.returns
returns c =
    started c.args.mem.now c.blank.new.mem c.requires (omega (arith, c.blank.auto.mem)) c.blank.ensures
