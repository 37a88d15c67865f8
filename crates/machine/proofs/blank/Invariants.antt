use Rattle.machine.specs.Terms.{Blank}
use Rattle.machine.proofs.blank.Given as goal

abbrev pub invariant-loop-i : goal.invariant-loop-i
invariant-loop-i l = Blank l.initial.mem l.mem l.at l.i
