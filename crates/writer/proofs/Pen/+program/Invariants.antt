use Rattle.writer.proofs.Pen.+program.Given as goal

abbrev pub decreases-program : goal.decreases-program
decreases-program l = l.i
