use mathlib.Core.Path.{sym, ap, ◌∙◌}
use Rattle.printing.proofs.Puts.{put_as}
use Rattle.lines.proofs.Good.{good-holds}
use Rattle.lines.proofs.Words.{whole-rest}
use Rattle.respond.specs.Parts.{printed_for}
use Rattle.respond.proofs.Puts.{put-bad}
use Rattle.respond.proofs.Printed.{bad-answer, job-lines}
use borrow.Author.Rules.{rules}
use Rattle.respond.proofs.print_answer.Goals as goal

pub slice_bounds-print_job-count : goal.slice_bounds-print_job-count
slice_bounds-print_job-count c = (good-holds _ _ (sym c.job_line.ensures ∙ c.in-Some.is)).inside

pub slice_bounds-print_job-start : goal.slice_bounds-print_job-start
slice_bounds-print_job-start c =
    let h = (good-holds _ _ (sym c.job_line.ensures ∙ c.in-Some.is)).inside in
    search rules

pub returns-in-None : goal.returns-in-None
returns-in-None c =
    let x = put-bad c.args.layout (rw c.from.ensures at c.put_refusal.ensures) in
    (put_as (ap (printed_for c.args.layout) (sym (bad-answer _ (sym c.job_line.ensures ∙ c.in-None.is)))) x.0, x.1)

pub returns-in-Some : goal.returns-in-Some
returns-in-Some c =
    let good = sym c.job_line.ensures ∙ c.in-Some.is in
    (put_as (job-lines c.args.layout _ _ _ good (whole-rest c.args.input.now c.in-Some.job.text)) c.print_job.ensures.0, c.print_job.ensures.1)
