use mathlib.Core.Path.{◌≡◌}
use mathlib.Core.List.{map}
use Rattle.events.specs.Read.{as_event}
use Rattle.text_rules.specs.Scan.{least}
use Rattle.text_rules.specs.Rules.{unended, open_ends}
use Rattle.text_rules.proofs.Scans.{on_ahead}
use Rattle.breaches.proofs.ends.open_ends.Given as goal

-- The loop over the events, by the law of `on`: what was found so far, with what the rest gives, stays the same.
abbrev pub invariant-loop-event : goal.invariant-loop-event
invariant-loop-event l = on_ahead unended l.event-items l.event-index l.best ≡ least (open_ends (map as_event l.event-items))
