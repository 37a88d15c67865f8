use mathlib.Core.Path.{sym}
use native.Mathlib.Omega.{arith}
use Rattle.assignment.proofs.Groups.{within_in, within_low, within-high}
use Rattle.assignment.proofs.assigned.Goals.{else-base-v-via-then-base-v+else-v-base-lt-GROUP, else-base-v-via-else-base-v}
use Rattle.assignment.proofs.assigned.Goals as goal

pub returns-then-v-base-lt-GROUP : goal.returns-then-v-base-lt-GROUP
returns-then-v-base-lt-GROUP c = sym (within_in _ _ _ (omega arith) (omega arith))

pub returns : goal.returns
returns c = elim c.else-base-v.branch [ else-base-v-via-then-base-v+else-v-base-lt-GROUP w ↦ sym (within-high _ _ _ (omega (arith, w.if-base-v.true, w.if-v-base-lt-GROUP.false))) | else-base-v-via-else-base-v w ↦ sym (within_low _ _ _ (omega (arith, w.if-base-v.false))) ]
