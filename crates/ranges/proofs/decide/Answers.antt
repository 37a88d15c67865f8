use mathlib.Core.Path.{sym, ◌∙◌}
use Rattle.semantics.specs.Search.{decided}
use Rattle.ranges.proofs.decide.Goals as goal

pub returns-then-always : goal.returns-then-always
unfolding decided
returns-then-always c = rw (sym c.always.ensures ∙ c.if-always.true)

pub returns-then-always-2 : goal.returns-then-always-2
unfolding decided
returns-then-always-2 c =
    let e = rw c.negated.ensures at c.always-else-always.ensures in
    rw (sym c.always.ensures ∙ c.if-always.false, sym e ∙ c.if-always-2.true)

pub returns-else-always-2 : goal.returns-else-always-2
unfolding decided
returns-else-always-2 c =
    let e = rw c.negated.ensures at c.always-else-always.ensures in
    rw (sym c.always.ensures ∙ c.if-always.false, sym e ∙ c.if-always-2.false)
