use mathlib.Core.Path.{sym, ◌∙◌}
use native.Mathlib.Omega.{arith}
use Rattle.lines.proofs.Good.{good-holds}
use Rattle.respond.proofs.Needed.{enough-not, enough-line}
use Rattle.respond.proofs.is_enough.Goals as goal

pub returns-then-not-line_settled : goal.returns-then-not-line_settled
returns-then-not-line_settled c = enough-not _ (sym c.line_settled.ensures ∙ c.if-not-line_settled.true)

pub is_job_enough-requires : goal.is_job_enough-requires
is_job_enough-requires c = omega (arith, (good-holds _ _ (sym c.job_line.ensures ∙ c.in-Some.is)).near)

pub returns-in-None : goal.returns-in-None
returns-in-None c = enough-line _ _ (sym c.line_settled.ensures ∙ c.if-not-line_settled.false) (sym c.job_line.ensures ∙ c.in-None.is)

pub returns-in-Some : goal.returns-in-Some
returns-in-Some c =
    c.is_job_enough.ensures ∙ enough-line _ _ (sym c.line_settled.ensures ∙ c.if-not-line_settled.false) (sym c.job_line.ensures ∙ c.in-Some.is)
