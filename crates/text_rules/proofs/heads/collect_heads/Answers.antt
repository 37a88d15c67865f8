use Prim.Native.Nat.{◌+◌}
use mathlib.Core.Path.{ap, ◌∙◌}
use Rattle.events.specs.declared.event.Event.TheVariants.{Opens}
use Rattle.text_rules.specs.Rules as R
use Rattle.text_rules.proofs.Collects.{arity-is, gathered-add, gathered-pass, gathered-end}
use Rattle.text_rules.proofs.heads.collect_heads.Goals.{in-Function, in_default}
use Rattle.text_rules.proofs.heads.collect_heads.Goals as goal

pub loop-i-preserved : goal.loop-i-preserved
loop-i-preserved c =
    let l = c.as_slice-list.result.now in
    elim c.match-event.branch [
      | in-Function w ↦ gathered-add l c.loop-i.i Opens c.loop-i.heads c.loop-i.invariant c.loop-i-test.true w.in-Function.name w.arity.result c.match-event.heads w.in-Function.is (w.arity.ensures ∙ arity-is l (c.loop-i.i + 1)) (w.heads-is ∙ w.push.ensures)
      | in_default w ↦ rw w.heads-is (gathered-pass l c.loop-i.i Opens c.loop-i.heads c.loop-i.invariant c.loop-i-test.true w.in_default.not-Function)
    ]

pub returns : goal.returns
returns c = gathered-end _ _ _ c.loop-i.invariant c.loop-i-test.false ∙ ap R.heads c.as_slice-list.ensures.events
