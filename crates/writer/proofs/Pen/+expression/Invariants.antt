use Rattle.writer.proofs.Pen.+expression.Given as goal

abbrev pub decreases-expression : goal.decreases-expression
decreases-expression l = l.i
