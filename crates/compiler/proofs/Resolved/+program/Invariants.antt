use Rattle.compiler.proofs.Resolved.+program.Given as goal

abbrev pub decreases-program : goal.decreases-program
decreases-program l = l.i
