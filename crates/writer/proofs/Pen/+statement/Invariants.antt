use Rattle.writer.proofs.Pen.+statement.Given as goal

abbrev pub decreases-statement : goal.decreases-statement
decreases-statement l = l.i
