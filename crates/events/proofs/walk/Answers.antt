use mathlib.Core.Path.{refl, ap, ◌∙◌}
use mathlib.Core.List.{List, ◌++◌}
use native.Mathlib.Omega.{arith}
use lib.ListN.{length}
use Rattle.events.specs.Event.{Event, events, events_at}
use Rattle.events.proofs.walk.Goals as goal

-- `walk` begins at depth 1 with no event.
pub program-requires : goal.program-requires
unfolding events
program-requires c =
    record { sort = _; rooted = c.requires.rooted; part = refl; tokens = c.requires.tokens; deep = omega (arith, c.requires.rooted.few); space = omega (arith, c.requires.space, ap (λ (x : List Event). length x) c.clear.ensures) }

pub returns : goal.returns
unfolding events
returns c = record { holds = λ p h. c.program.ensures.is p h ∙ ap (λ (x : List Event). x ++ events_at 1 p) c.clear.ensures }
