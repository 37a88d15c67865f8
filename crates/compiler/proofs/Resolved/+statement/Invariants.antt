use Rattle.compiler.proofs.Resolved.+statement.Given as goal

abbrev pub decreases-statement : goal.decreases-statement
decreases-statement l = l.i
