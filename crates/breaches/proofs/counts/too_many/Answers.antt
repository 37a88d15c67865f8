use Prim.Native.Nat.{ℕ, ◌+◌}
use mathlib.Core.Path.{refl, sym, ap, ◌∙◌}
use native.Mathlib.Omega.{arith}
use Rattle.events.specs.Event.{Event, function, parameter, thing, opens, closes, declares, uses, calls, ends}
use Rattle.text_rules.specs.Scan.{least}
use Rattle.text_rules.specs.Rules.{Tally, counted, over, too_many}
use Rattle.text_rules.proofs.Scans.{ahead-start, ahead-turn, ahead-end}
use Rattle.breaches.proofs.counts.too_many.Invariants.{Within}
use Rattle.breaches.proofs.counts.too_many.Goals as goal

within_more : (i : ℕ) (t : Tally) (e : Event) → Within i t → Within (i + 1) (counted t e)
unfolding counted
within_more i t (function x) w = omega arith
within_more i t (parameter x) w = omega arith
within_more i t (thing d x) w = omega arith
within_more i t opens w = omega arith
within_more i t closes w = omega arith
within_more i t (declares x) w = omega arith
within_more i t (uses x) w = omega arith
within_more i t (calls x n) w = omega arith
within_more i t (ends x b) w = omega arith

pub loop-event-init : goal.loop-event-init
loop-event-init c = (omega arith, ahead-start counted over _ _)

pub loop-event-preserved : goal.loop-event-preserved
loop-event-preserved c =
    (rw c.count-tally.ensures (within_more _ _ _ c.loop-event.invariant.0), ahead-turn counted over _ _ _ _ _ c.loop-event-test.true refl c.count-tally.ensures c.exceeds-best.ensures ∙ c.loop-event.invariant.1)

pub returns : goal.returns
returns c = sym (ahead-end counted over _ _ _ _ c.loop-event-test.false) ∙ c.loop-event.invariant.1 ∙ ap (λ es. least (too_many es)) c.as_slice-event-items.ensures.events
