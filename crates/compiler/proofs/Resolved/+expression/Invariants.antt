use Rattle.compiler.proofs.Resolved.+expression.Given as goal

abbrev pub decreases-expression : goal.decreases-expression
decreases-expression l = l.i
