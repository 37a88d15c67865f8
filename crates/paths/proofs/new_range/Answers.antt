use native.Mathlib.Omega.{arith}
use Prim.Native.Nat.{◌+◌}
use Rattle.machine.proofs.Tables.{room-less}
use Rattle.paths.proofs.Growing.{range-so, grown-one}
use Rattle.paths.proofs.new_range.Goals as goal

pub write_range-requires : goal.write_range-requires
write_range-requires c =
    (c.requires.0.count, room-less (c.args.n + 1) (omega arith) c.requires.1, range-so c.args.mem.now c.args.k c.args.n c.requires.0)

pub returns-then-n-nodes : goal.returns-then-n-nodes
returns-then-n-nodes c =
    grown-one c.args.mem.now c.write_range.new.mem c.args.k c.args.n c.args.nodes c.requires.0 c.requires.1 c.requires.2 c.if-n-nodes.true
    c.write_range.auto.mem c.write_range.ensures
