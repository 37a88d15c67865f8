use Rattle.std.proofs.Common.{ap, sym, w32, to_z}
use Rattle.semantics.specs.Int.{arith, exact, wrap}
use Rattle.ints.proofs.Bits.{add_low}
use Rattle.ints.proofs.add.Goals as goal

pub returns : goal.returns
unfolding arith exact wrap
returns c = ap (to_z w32) (sym (add_low c.args.x c.args.y c.ranges.x c.ranges.y))
