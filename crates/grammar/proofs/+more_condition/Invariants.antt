use Prim.Native.Nat.{◌-◌}
use lib.ListN.{length}
use Rattle.grammar.proofs.+more_condition.Given as goal

abbrev pub decreases-more_condition : goal.decreases-more_condition
decreases-more_condition l = length l.source.now.kinds - l.at
