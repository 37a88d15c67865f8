use Rattle.scopes.specs.Memory.{blocks_of}
use Rattle.scopes.proofs.scope.Scopes.new.Goals as goal

pub returns : goal.returns
unfolding blocks_of
returns g c = rw (c.new.ensures, c.new-2.ensures)
