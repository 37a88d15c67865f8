use Rattle.settings.proofs.Seeking.{Sees}
use Rattle.settings.proofs.sweep.Given as goal

abbrev pub invariant-loop-left : goal.invariant-loop-left
invariant-loop-left l = Sees l.initial.mem l.plan.upto l.tests l.k l.most l.mem l.plan.first l.left
