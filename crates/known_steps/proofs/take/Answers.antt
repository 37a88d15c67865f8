use borrow.Author.Rules.{rules}
use Prim.Native.Nat.{◌+◌, ◌%◌}
use native.Mathlib.Omega.{arith}
use Rattle.machine.specs.Layout.{variable_place}
use Rattle.machine.proofs.Operands.{taking-name}
use Rattle.known_steps.proofs.Cells.{holds-words, taking-word}
use Rattle.known_steps.proofs.take.Goals as goal

pub returns-in-Number : goal.returns-in-Number
returns-in-Number c = taking-word c.args.code.now c.args.mem.now c.args.run c.args.j c.entry-entry.result c.if-j-eq0.false c.entry-entry.ensures c.in-Number.z (search rules) c.in-Number.is c.word.result c.word.ensures c.requires.low

pub returns-in-Name : goal.returns-in-Name
returns-in-Name c =
    taking-name c.args.code.now c.args.mem.now c.args.run c.args.j c.entry-entry.result c.if-j-eq0.false c.entry-entry.ensures _ c.in-Name.a c.requires
    (holds-words c.args.mem.now (variable_place c.args.run.depth (c.in-Name.a.0 % 16)) (omega (arith, c.type_inv.mem (variable_place c.args.run.depth (c.in-Name.a.0 % 16) + 1)))) c.in-Name.is
