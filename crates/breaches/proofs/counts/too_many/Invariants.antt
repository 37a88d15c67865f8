use Prim.Native.Nat.{ℕ, ◌≤◌}
use mathlib.Core.Path.{◌≡◌}
use mathlib.Core.List.{map}
use Rattle.events.specs.Read.{as_event}
use Rattle.text_rules.specs.Scan.{least}
use Rattle.text_rules.specs.Rules.{Tally, counted, over, too_many}
use Rattle.breaches.specs.Answers.{tallied}
use Rattle.text_rules.proofs.Scans.{ahead}
use Rattle.breaches.proofs.counts.too_many.Given as goal

-- The loop over the events, by the law of `scan`, with the tally as what has been seen.
-- no count is above the number of events
pub record Within (i : ℕ) (t : Tally) : Type 0 where
  pub functions : t.functions ≤ i
  pub parameters : t.parameters ≤ i
  pub declarations : t.declarations ≤ i

abbrev pub invariant-loop-event : goal.invariant-loop-event
invariant-loop-event l = Within l.event-index (tallied l.tally) × (ahead counted over l.event-items l.event-index (tallied l.tally) l.best ≡ least (too_many (map as_event l.event-items)))
