use Rattle.checker.proofs.Passing.{passed}
use Rattle.checker.proofs.Faults.{first-broken, first-kept}
use Rattle.checker.proofs.judge.Goals as goal

pub returns-in_err-judge_first : goal.returns-in_err-judge_first
returns-in_err-judge_first c = rw (passed _ c.from_residual.ensures.1) (first-broken c.in_err-judge_first.ensures)

pub returns : goal.returns
returns c = first-kept c.in_ok-judge_first.ensures c.judge_last.ensures
