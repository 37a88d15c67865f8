use mathlib.Core.Path.{sym, ◌∙◌}
use Rattle.names.proofs.Walks.{repeats-start, repeats-yes, repeats-no, repeats-end}
use Rattle.names.proofs.repeats.Goals.{then-is_named, else-is_named}
use Rattle.names.proofs.repeats.Goals as goal

pub loop-k-init : goal.loop-k-init
loop-k-init c = repeats-start _ _ _

pub loop-k-preserved : goal.loop-k-preserved
loop-k-preserved c = elim c.if-is_named.branch [
  | then-is_named w ↦ repeats-yes _ _ _ _ _ c.loop-k-test.true c.is_named.ensures w.if-is_named.true (w.best-is ∙ w.lesser-best.ensures) ∙ c.loop-k.invariant
  | else-is_named w ↦ repeats-no _ _ _ _ _ c.loop-k-test.true c.is_named.ensures w.if-is_named.false w.best-is ∙ c.loop-k.invariant
]

pub returns : goal.returns
returns c = sym (repeats-end _ _ _ _ c.loop-k-test.false) ∙ c.loop-k.invariant
