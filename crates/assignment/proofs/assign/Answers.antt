use native.Mathlib.Omega.{arith}
use Rattle.assignment.proofs.Groups.{within_low, within-high, within_more, only-more}
use Rattle.assignment.proofs.assign.Goals.{else-base-v-via-then-base-v+else-v-base-lt-GROUP, else-base-v-via-else-base-v}
use Rattle.assignment.proofs.assign.Goals as goal

pub returns-then-v-base-lt-GROUP : goal.returns-then-v-base-lt-GROUP
returns-then-v-base-lt-GROUP c u = only-more c.args.base c.args.set c.args.v (omega arith) (omega (arith, c.well_formed.0)) u

pub returns-else-base-v : goal.returns-else-base-v
returns-else-base-v c u = elim c.else-base-v.branch [ else-base-v-via-then-base-v+else-v-base-lt-GROUP w ↦ within_more _ _ _ (within-high _ _ _ (omega (arith, w.if-base-v.true, w.if-v-base-lt-GROUP.false))) u | else-base-v-via-else-base-v w ↦ within_more _ _ _ (within_low _ _ _ (omega (arith, w.if-base-v.false))) u ]
