use mathlib.Core.Path.{sym, ◌∙◌}
use Rattle.lines.proofs.Words.{no_plain, plain-converted}
use Rattle.lines.proofs.plain.Goals as goal

pub returns-in_err-magnitude : goal.returns-in_err-magnitude
returns-in_err-magnitude c = c.from_residual.ensures ∙ sym (no_plain c.args.digits.now (sym c.magnitude.ensures.value ∙ c.in_err-magnitude.was))

pub returns : goal.returns
returns c = c.ok.ensures.value ∙ plain-converted c.args.digits.now c.in_ok-magnitude.field-0 (sym c.magnitude.ensures.value ∙ c.in_ok-magnitude.was) c.try_from.result c.try_from.ensures
