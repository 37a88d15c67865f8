use Rattle.machine.specs.Terms.{cell_of}
use Rattle.settings.proofs.Loops.{Trialling}
use Rattle.settings.proofs.trials.Given as goal

abbrev pub invariant-loop-left : goal.invariant-loop-left
invariant-loop-left l = Trialling l.initial.mem l.nodes l.tests l.k (cell_of l.v) l.initial.rows l.initial.u l.mem l.rows l.u

abbrev pub decreases-loop-left : goal.decreases-loop-left
decreases-loop-left l = l.u.budget
