use Rattle.assignment.proofs.Walk.+split.Given as goal

abbrev pub decreases-split : goal.decreases-split
decreases-split l = l.i
