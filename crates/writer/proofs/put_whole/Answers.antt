use mathlib.Core.Path.{refl}
use native.Mathlib.Omega.{arith}
use Rattle.std.proofs.Common.{rules}
use Rattle.writer.proofs.Whole.{refuses-short, puts_whole}
use Rattle.writer.proofs.put_whole.Goals as goal

pub program-requires : goal.program-requires
program-requires c = c.requires

pub program-requires-2 : goal.program-requires-2
program-requires-2 c = c.requires

pub returns-then-out-measure : goal.returns-then-out-measure
returns-then-out-measure c = refuses-short refl c.program.ensures c.if-out-measure.true

pub returns : goal.returns
returns c = puts_whole refl c.program.ensures (omega arith) refl c.program-2.ensures (search rules)
