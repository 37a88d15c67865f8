use Prim.Native.Nat.{◌+◌, ◌-◌}
use native.Mathlib.Omega.{arith}
use Rattle.machine.specs.Layout.{temp_place}
use Rattle.machine.proofs.Operands.{popped-none, popped-one}
use Rattle.known_steps.proofs.Cells.{holds-words}
use Rattle.known_steps.proofs.pop.Goals as goal

pub returns-then-run : goal.returns-then-run
returns-then-run c = popped-none c.args.mem.now c.args.run c.if-run.true

pub returns : goal.returns
returns c =
    popped-one c.args.mem.now c.args.run _ c.requires c.if-run.false (holds-words c.args.mem.now (temp_place (c.args.run.top - 1)) (omega (arith, c.type_inv.mem (temp_place (c.args.run.top - 1) + 1))))
