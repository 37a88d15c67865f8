use Prim.Native.Nat.{◌-◌}
use lib.ListN.{length}
use Rattle.grammar.proofs.+functions.Given as goal

abbrev pub decreases-functions : goal.decreases-functions
decreases-functions l = length l.source.now.kinds - l.at
