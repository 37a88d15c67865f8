use Prim.Native.Nat.{◌-◌}
use lib.ListN.{length}
use Rattle.grammar.proofs.+more_parameters.Given as goal

abbrev pub decreases-more_parameters : goal.decreases-more_parameters
decreases-more_parameters l = length l.source.now.kinds - l.at
