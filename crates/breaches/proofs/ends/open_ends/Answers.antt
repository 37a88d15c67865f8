use mathlib.Core.Path.{refl, sym, ap, ◌∙◌}
use Rattle.text_rules.specs.Scan.{least}
use Rattle.text_rules.specs.Rules.{unended, open_ends}
use Rattle.text_rules.proofs.Scans.{on-start, on-turn, on-end}
use Rattle.breaches.proofs.ends.open_ends.Goals as goal

pub loop-event-init : goal.loop-event-init
loop-event-init c = on-start unended _

pub loop-event-preserved : goal.loop-event-preserved
loop-event-preserved c = on-turn unended _ _ _ _ c.loop-event-test.true refl c.reached-best.ensures ∙ c.loop-event.invariant

pub returns : goal.returns
returns c = sym (on-end unended _ _ _ c.loop-event-test.false) ∙ c.loop-event.invariant ∙ ap (λ es. least (open_ends es)) c.as_slice-event-items.ensures.events
