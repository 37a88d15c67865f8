use Rattle.assignment.proofs.Walk.+flow_sequence.Given as goal

abbrev pub decreases-flow : goal.decreases-flow
decreases-flow l = l.i

abbrev pub decreases-sequence : goal.decreases-sequence
decreases-sequence l = l.i
