use native.Mathlib.Omega.{arith}
use Rattle.ints.specs.Meaning.{of_comparison}
use Rattle.machine.specs.Memory.{machine_at}
use Rattle.machine.specs.Terms.{meant, flagged}
use Rattle.paths.proofs.Turning.{test-cut, test_on}
use Rattle.paths.proofs.Stays.{stays-none, spent-stays}
use Rattle.paths.proofs.after_test.Goals as goal

pub returns-then-p-eq0 : goal.returns-then-p-eq0
returns-then-p-eq0 c = (
  λ job. test-cut c.args.mem.now c.args.p job (of_comparison c.args.c) (meant c.args.mem.now c.args.p.run.nodes c.args.v) (meant c.args.mem.now c.args.p.run.nodes c.args.w)
      (λ b. machine_at c.args.mem.now (flagged c.args.run b)) c.if-p-eq0.true c.requires.0,
  stays-none,
)

pub returns : goal.returns
returns c = (
  λ job. test_on c.args.mem.now c.args.p c.compare.new.mem c.args.run (of_comparison c.args.c) c.args.v c.args.w c.spend.result
      c.compare.result c.requires.2 (omega (arith, c.if-p-eq0.false)) c.spend.ensures
      c.compare.ensures job,
  spent-stays c.args.mem.now c.compare.new.mem c.args.p c.args.run c.spend.result c.requires.2 c.spend.ensures c.compare.ensures.stays,
)
