use mathlib.Core.Path.{sym, ◌∙◌}
use Rattle.text_rules.specs.Spelling.{same_in}
use Rattle.text_rules.proofs.Functions.{arity-is}
use Rattle.text_rules.proofs.heads.arity_of.Goals as goal

pub returns-in_err-head : goal.returns-in_err-head
returns-in_err-head c = c.from_residual.ensures ∙ arity-is (same_in c.args.source.now) c.args.i c.as_slice.result.now c.as_slice.ensures.heads (sym c.in_err-head.was ∙ c.named.ensures)

pub returns : goal.returns
returns c = arity-is (same_in c.args.source.now) c.args.i c.as_slice.result.now c.as_slice.ensures.heads (sym c.in_ok-head.was ∙ c.named.ensures)
