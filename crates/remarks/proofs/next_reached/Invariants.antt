use Prim.Native.Nat.{◌≤◌}
use mathlib.Core.Path.{◌≡◌}
use Rattle.text_rules.specs.Spelling.{same_in}
use Rattle.remarks.specs.Steps.{fresh, calls_in}
use Rattle.remarks.proofs.Marking.{fresh_from}
use Rattle.remarks.proofs.next_reached.Given as goal

-- What is still to be found stays the same until it is found.
abbrev pub invariant-loop-event : goal.invariant-loop-event
invariant-loop-event l = (l.f ≤ l.event-index) × (fresh_from (same_in l.analysis.source) l.analysis.heads.now l.reached l.events l.f l.event-index ≡ fresh l.reached (calls_in (same_in l.analysis.source) l.analysis.events.now l.analysis.heads.now))
