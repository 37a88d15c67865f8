use Rattle.scopes.proofs.Blocks.{packed-ordered}
use Rattle.scopes.proofs.scope.Scopes.seek.Goals as goal

pub seek-requires : goal.seek-requires
seek-requires g c = rw (c.as_slice.ensures.value, c.as_slice-2.ensures.value) (packed-ordered _ _ c.self.invariant)
