use mathlib.Core.Path.{refl}
use Rattle.names.proofs.Walks.{walk-starts, walk_turn, walk_ends}
use Rattle.names.proofs.see_all.Goals as goal

pub loop-event-init : goal.loop-event-init
loop-event-init g c = rw c.new-scopes.ensures (walk-starts _ _ _ _)

pub loop-event-preserved : goal.loop-event-preserved
loop-event-preserved g c = walk_turn _ _ _ _ c.loop-event.invariant c.loop-event-test.true refl c.see-best.ensures c.enter.ensures

pub returns : goal.returns
returns g c = walk_ends _ _ _ c.loop-event.invariant c.loop-event-test.false
