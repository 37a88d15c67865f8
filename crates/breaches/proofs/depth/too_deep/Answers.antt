use mathlib.Core.Path.{refl, sym, ap, ◌∙◌}
use Rattle.text_rules.specs.Scan.{least}
use Rattle.text_rules.specs.Rules.{deep, too_deep}
use Rattle.text_rules.proofs.Scans.{on-start, on-turn, on-end}
use Rattle.breaches.proofs.depth.too_deep.Goals as goal

pub loop-event-init : goal.loop-event-init
loop-event-init c = on-start deep _

pub loop-event-preserved : goal.loop-event-preserved
loop-event-preserved c = on-turn deep _ _ _ _ c.loop-event-test.true refl c.deeper-best.ensures ∙ c.loop-event.invariant

pub returns : goal.returns
returns c = sym (on-end deep _ _ _ c.loop-event-test.false) ∙ c.loop-event.invariant ∙ ap (λ es. least (too_deep es)) c.as_slice-event-items.ensures.events
