use mathlib.Core.Path.{◌≡◌}
use mathlib.Core.List.{map}
use Rattle.events.specs.Read.{as_event}
use Rattle.text_rules.specs.Scan.{on, least}
use Rattle.text_rules.specs.Rules.{miscounted}
use Rattle.text_rules.specs.Spelling.{same_in}
use Rattle.text_rules.proofs.Scans.{on_ahead}
use Rattle.breaches.proofs.calls.miscalls.Given as goal

-- The loop over the events, by the law of `on`: what was found so far, with what the rest gives, stays the same.
abbrev pub invariant-loop-event : goal.invariant-loop-event
invariant-loop-event l = on_ahead (miscounted (same_in l.source) l.heads) l.event-items l.event-index l.best ≡ least (on (miscounted (same_in l.source) l.heads) (map as_event l.event-items))
