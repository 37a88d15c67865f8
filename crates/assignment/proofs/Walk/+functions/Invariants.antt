use Rattle.assignment.proofs.Walk.+functions.Given as goal

abbrev pub decreases-functions : goal.decreases-functions
decreases-functions l = l.i
