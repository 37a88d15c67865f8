use Rattle.printing.specs.Written.{Put}
use Rattle.pages.specs.Parts.{blank_lines}
use Rattle.pages.proofs.put_blank_lines.Given as goal

abbrev pub invariant-loop : goal.invariant-loop
invariant-loop l = Put l.initial.out l.at (blank_lines l.counter) l.out l.p
