use Rattle.std.proofs.Common.{◌<◌, length, arith}
use Rattle.scopes.specs.Memory.{blocks_of}
use Rattle.scopes.proofs.scope.Scopes.begin_function.Goals as goal

pub returns : goal.returns
unfolding blocks_of
returns g c = rw (c.clear.ensures, c.push.ensures.items, c.clear-2.ensures)

pub push-requires : goal.push-requires
push-requires g c =
    let h : length c.clear-2.new.self.items < g.row.ROOM = rw c.clear-2.ensures c.requires.blocks in
    (omega arith, h)
