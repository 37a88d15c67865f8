use mathlib.Core.Path.{◌∙◌}
use Rattle.lexer.proofs.Bytes.{same-pointwise}
use Rattle.lexer.proofs.same_bytes.Goals as goal

pub returns : goal.returns
returns c = c.eq.ensures ∙ same-pointwise c.args.a.now c.args.b.now
