use mathlib.Core.Path.{refl, sym, ap, ◌∙◌}
use Rattle.text_rules.specs.Scan.{on, least}
use Rattle.text_rules.specs.Rules.{miscounted}
use Rattle.text_rules.specs.Spelling.{same_in}
use Rattle.text_rules.proofs.Scans.{on-start, on-turn, on-end}
use Rattle.breaches.proofs.calls.miscalls.Goals as goal

pub loop-event-init : goal.loop-event-init
loop-event-init c = on-start _ _

pub loop-event-preserved : goal.loop-event-preserved
loop-event-preserved c = on-turn _ _ _ _ _ c.loop-event-test.true refl c.miscount-best.ensures ∙ c.loop-event.invariant

pub returns : goal.returns
returns c =
    sym (on-end _ _ _ _ c.loop-event-test.false)
    ∙ c.loop-event.invariant
    ∙ ap (λ es. least (on (miscounted (same_in c.args.source.now) c.args.heads.now) es)) c.as_slice-event-items.ensures.events
