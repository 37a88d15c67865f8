use Rattle.assignment.proofs.Walk.+reads.Given as goal

abbrev pub decreases-reads : goal.decreases-reads
decreases-reads l = l.i
