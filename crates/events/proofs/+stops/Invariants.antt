use Rattle.events.proofs.+stops.Given as goal

abbrev pub decreases-stops : goal.decreases-stops
decreases-stops l = l.i
