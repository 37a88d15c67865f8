use native.Mathlib.Omega.{arith}
use Rattle.machine.specs.Memory.{machine_at}
use Rattle.paths.proofs.Turning.{step_cut, step-on}
use Rattle.paths.proofs.Stays.{stays-none, stays-range}
use Rattle.paths.proofs.after_step.Goals as goal

pub returns-then-p-eq0 : goal.returns-then-p-eq0
returns-then-p-eq0 c =
    (λ job. step_cut c.args.mem.now c.args.p job (machine_at c.args.mem.now c.args.run) c.if-p-eq0.true c.requires.0, stays-none)

pub returns : goal.returns
returns c = (
  λ job. step-on c.args.mem.now c.args.p c.new_range.new.mem c.args.run c.spend.result c.requires.0 c.requires.1 c.requires.2
      (omega (arith, c.if-p-eq0.false)) c.new_range.auto.mem
      c.new_range.ensures c.spend.ensures job,
  stays-range c.args.p.run.nodes c.args.p.run.nodes c.args.p.choices c.new_range.ensures.other,
)
