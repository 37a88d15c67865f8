use Rattle.paths.proofs.Choice.{taken-new, taken-forced}
use Rattle.paths.proofs.take.Goals as goal

pub returns-then-forced-eq0 : goal.returns-then-forced-eq0
returns-then-forced-eq0 c =
    taken-new c.args.mem.now c.args.t c.args.forced c.if-forced-eq0.true c.requires

pub returns : goal.returns
returns c =
    taken-forced c.args.mem.now c.args.t c.args.forced c.if-forced-eq0.false
