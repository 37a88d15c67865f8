use mathlib.Core.Path.{◌∙◌, sym}
use mathlib.Core.Bool.{true, false}
use native.Mathlib.Omega.{arith}
use Rattle.settings.proofs.Turns.{filled-first, filled-one, filled-end}
use Rattle.settings.proofs.filled.Goals as goal

pub loop-i-init : goal.loop-i-init
loop-i-init c = (omega arith, filled-first _ _ c.requires.0)

pub returns-then-not-has_number : goal.returns-then-not-has_number
returns-then-not-has_number c =
    sym (c.loop-i.invariant.1 ∙ filled-one c.args.mem.now c.args.k c.loop-i.i false c.loop-i-test.true
    (sym c.has_number.ensures ∙ c.if-not-has_number.true))

pub loop-i-preserved : goal.loop-i-preserved
loop-i-preserved c = (
  omega arith,
  c.loop-i.invariant.1 ∙ filled-one c.args.mem.now c.args.k c.loop-i.i true c.loop-i-test.true
      (sym c.has_number.ensures ∙ c.if-not-has_number.false),
)

pub returns : goal.returns
returns c = sym (c.loop-i.invariant.1 ∙ filled-end c.args.mem.now c.args.k c.loop-i.i (omega arith))
