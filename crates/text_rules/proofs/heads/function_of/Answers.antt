use mathlib.Core.Path.{ap, ◌∙◌}
use Rattle.text_rules.specs.Spelling.{same_in}
use Rattle.text_rules.specs.Rules as R
use Rattle.text_rules.proofs.Functions.{function-position}
use Rattle.text_rules.proofs.heads.function_of.Goals as goal

pub returns : goal.returns
returns c =
    c.position_of.ensures ∙ function-position (same_in c.args.source.now) c.args.i c.as_slice.result.now ∙ ap (λ hs. R.function_of (same_in c.args.source.now) hs c.args.i) c.as_slice.ensures.heads
