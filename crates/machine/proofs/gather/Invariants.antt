use Rattle.machine.specs.Terms.{Gathering}
use Rattle.machine.proofs.gather.Given as goal

abbrev pub invariant-loop-k : goal.invariant-loop-k
invariant-loop-k l = Gathering l.code l.initial.mem l.mem l.run l.n l.k l.j l.top
