use mathlib.Core.Path.{refl, sym, ap, ◌∙◌}
use mathlib.Core.List.{List}
use native.Mathlib.Omega.{arith}
use Rattle.events.specs.Event.{Event}
use Rattle.text_rules.specs.Spelling.{same_in}
use Rattle.remarks.specs.Steps.{fresh, calls_in}
use Rattle.remarks.proofs.Marking.{fresh_start, fresh-turn, fresh-found, fresh-end, begun-less}
use Rattle.remarks.proofs.next_reached.Goals as goal

pub loop-event-init : goal.loop-event-init
loop-event-init c =
    (omega arith, fresh_start _ _ _ _ ∙ ap (λ (es : List Event). fresh c.args.reached.now (calls_in (same_in c.args.analysis.now.source) es c.args.analysis.now.heads.now)) c.as_slice-events.ensures.events)

pub returns-in-Some : goal.returns-in-Some
returns-in-Some c = fresh-found _ _ _ _ _ _ _ c.loop-event-test.true refl c.in-Some.ensures ∙ c.loop-event.invariant.1

pub loop-event-preserved : goal.loop-event-preserved
loop-event-preserved c =
    (omega (arith, c.begin-f.ensures, begun-less, c.loop-event.invariant.0), fresh-turn _ _ _ _ _ _ c.loop-event-test.true refl c.in_default.ensures c.begin-f.ensures ∙ c.loop-event.invariant.1)

pub returns : goal.returns
returns c = sym (fresh-end _ _ _ _ _ _ c.loop-event-test.false) ∙ c.loop-event.invariant.1
