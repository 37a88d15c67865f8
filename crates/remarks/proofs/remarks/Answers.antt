use native.Mathlib.Omega.{arith}
use mathlib.Core.Path.{subst, ◌∙◌}
use Rattle.std.specs.Prelude.{Result}
use Rattle.syntax.specs.declared.refusal.Refusal.{Refusal}
use Rattle.checker.specs.Check.{checked}
use Rattle.checker.specs.Analysis.{Analyses}
use Rattle.checker.specs.declared.Analysis.{Analysis}
use Rattle.remarks.proofs.Telling.{refused-so, fair-so, counted-so, fifteen, enough}
use Rattle.remarks.proofs.remarks.Goals as goal

-- 15, or as check.
pub returns-then-offsets-lt16 : goal.returns-then-offsets-lt16
returns-then-offsets-lt16 c = fifteen _ _ (omega (arith, c.if-offsets-lt16.true))

pub returns-in-Err : goal.returns-in-Err
returns-in-Err c =
    refused-so (subst (λ (r : Result Analysis Refusal). Analyses c.args.text.now r (checked c.args.text.now)) c.in-Err.is c.analyse.ensures) ∙ enough _ _ (omega (arith, c.if-offsets-lt16.false))

pub list-requires : goal.list-requires
list-requires c =
    (fair-so (subst (λ (r : Result Analysis Refusal). Analyses c.args.text.now r (checked c.args.text.now)) c.in-Ok.is c.analyse.ensures), omega (arith, c.if-offsets-lt16.false))

pub returns-in-Ok : goal.returns-in-Ok
returns-in-Ok c =
    counted-so (subst (λ (r : Result Analysis Refusal). Analyses c.args.text.now r (checked c.args.text.now)) c.in-Ok.is c.analyse.ensures) c.list.ensures ∙ enough _ _ (omega (arith, c.if-offsets-lt16.false))
