use Rattle.printing.specs.Written.{blanks, Put}
use Rattle.printing.proofs.put_blanks.Given as goal

abbrev pub invariant-loop : goal.invariant-loop
invariant-loop l = Put l.initial.out l.at (blanks l.counter) l.out l.p
