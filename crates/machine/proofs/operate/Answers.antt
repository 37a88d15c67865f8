use native.Mathlib.Omega.{arith}
use Rattle.ints.specs.Meaning.{of_operation}
use Rattle.machine.proofs.Moves.{operated}
use Rattle.machine.proofs.operate.Goals as goal

pub returns : goal.returns
returns c =
    λ x d h. operated x c.args.mem.now c.work-made.new.mem c.put.new.mem c.args.run (of_operation c.args.op) d c.args.p.left c.args.p.right c.work-made.result.value c.args.p.top c.work-made.result.nodes
    c.requires.0 c.requires.2 c.requires.3 (omega (arith, c.work-made.auto.mem, c.put.auto.mem)) h c.work-made.ensures c.put.ensures
