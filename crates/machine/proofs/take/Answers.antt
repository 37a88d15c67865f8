use Rattle.machine.proofs.Operands.{taking-name}
use Rattle.machine.proofs.take.Goals as goal

pub returns-in-Name : goal.returns-in-Name
returns-in-Name c =
    taking-name c.args.code.now c.args.mem.now c.args.run c.args.j c.entry-entry.result c.if-j-eq0.false c.entry-entry.ensures c.variable.result c.in-Name.a c.requires c.variable.ensures c.in-Name.is
