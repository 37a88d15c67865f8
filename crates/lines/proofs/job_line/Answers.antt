use Prim.Native.Nat.{ℕ, ◌+◌}
use native.Mathlib.Omega.{arith}
use mathlib.Core.Path.{sym, ◌∙◌, ap}
use lib.ListN.{take}
use Rattle.lines.specs.JobLine.{job_in}
use Rattle.lines.proofs.Words.{found-place, no_place, no_line, a-line}
use Rattle.lines.proofs.job_line.Goals as goal

pub returns-in_err-end : goal.returns-in_err-end
returns-in_err-end c = c.from_residual.ensures ∙ sym (no_line c.args.input.now (no_place 10 c.args.input.now (sym c.find.ensures ∙ c.in_err-end.was)))

pub returns : goal.returns
returns c =
    let f = found-place 10 c.args.input.now c.in_ok-end.end (sym c.find.ensures ∙ c.in_ok-end.was) in
    c.job_in.ensures ∙ ap (λ (n : ℕ). job_in (n + 1) (take n c.args.input.now)) f.0 ∙ sym (a-line c.args.input.now (omega (arith, f.0, f.1)))
