use Rattle.remarks.proofs.Writing.{Written}
use Rattle.remarks.proofs.write.Given as goal

-- What stands written after each function.
abbrev pub invariant-loop-g : goal.invariant-loop-g
invariant-loop-g l = Written l.source.places l.heads l.reached l.initial.offsets l.offsets l.count l.g
