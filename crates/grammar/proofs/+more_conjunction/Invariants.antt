use Prim.Native.Nat.{◌-◌}
use lib.ListN.{length}
use Rattle.grammar.proofs.+more_conjunction.Given as goal

abbrev pub decreases-more_conjunction : goal.decreases-more_conjunction
decreases-more_conjunction l = length l.source.now.kinds - l.at
