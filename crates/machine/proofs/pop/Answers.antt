use Rattle.machine.proofs.Operands.{popped-none, popped-one}
use Rattle.machine.proofs.pop.Goals as goal

pub returns-then-run : goal.returns-then-run
returns-then-run c = popped-none c.args.mem.now c.args.run c.if-run.true

pub returns : goal.returns
returns c = popped-one c.args.mem.now c.args.run c.load.result.value
    c.requires c.if-run.false c.load.ensures
