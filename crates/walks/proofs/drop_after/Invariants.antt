use Rattle.walks.proofs.Dropping.{Left}
use Rattle.walks.proofs.drop_after.Given as goal

abbrev pub invariant-loop-w : goal.invariant-loop-w
invariant-loop-w l = Left l.mem l.s l.w

abbrev pub decreases-loop-w : goal.decreases-loop-w
decreases-loop-w l = l.w
