use mathlib.Core.Path.{sym, ap, subst}
use native.Mathlib.Omega.{arith}
use Rattle.paths.specs.declared.Point.{Point}
use Rattle.known_steps.specs.Turns.{OneOrTwo, twice}
use Rattle.known_steps.proofs.Working.{result-made}
use Rattle.known_steps.proofs.assign.Goals as goal

pub returns : goal.returns
returns c = (
  λ m before h. subst (λ (x : Point). OneOrTwo c.args.code.now m c.put.new.mem before x) (sym c.proceed.ensures)
      (twice c.args.mem.now c.args.p h
      (result-made c.args.code.now c.args.mem.now c.args.p c.requires.0 c.in-Some.a c.in-Some.ensures.entry c.args.v (omega (arith, c.ranges.v)) c.requires.1 c.put.new.mem c.put.auto.mem c.put.ensures)),
  ap (λ (x : Point). x.steps) c.proceed.ensures,
)
