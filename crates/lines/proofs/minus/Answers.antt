use native.Mathlib.Omega.{arith}
use Rattle.std.proofs.lemmas.Int.{ints}
use mathlib.Core.Path.{sym, ◌∙◌}
use Rattle.lines.proofs.Words.{no_minus, minus-converted}
use Rattle.lines.proofs.minus.Goals as goal

pub returns-in_err-magnitude : goal.returns-in_err-magnitude
returns-in_err-magnitude c = c.from_residual.ensures ∙ sym (no_minus c.args.digits.now (sym c.magnitude.ensures.value ∙ c.in_err-magnitude.was))

pub returns : goal.returns
returns c = c.ok.ensures.value ∙ minus-converted c.args.digits.now c.in_ok-magnitude.field-0 (sym c.magnitude.ensures.value ∙ c.in_ok-magnitude.was) _ c.try_from.result (omega (arith, ints, c.in_ok-magnitude.ensures.bound)) c.try_from.ensures
