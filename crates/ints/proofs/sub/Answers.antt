use Rattle.std.proofs.Common.{◌-ℤ◌, ap, arith as linear, w32, to_z}
use Rattle.semantics.specs.Int.{arith, exact, wrap}
use Rattle.ints.proofs.Bits.{sub_low, low-lt, bits-lt}
use Rattle.ints.proofs.sub.Goals as goal

pub returns : goal.returns
unfolding arith exact wrap
returns c = ap (to_z w32) (omega (linear, sub_low c.args.x c.args.y c.ranges.x c.ranges.y, low-lt (c.args.x -ℤ c.args.y), bits-lt c.args.x c.ranges.x, bits-lt c.args.y c.ranges.y))
