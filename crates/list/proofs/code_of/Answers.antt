use Rattle.checker.proofs.Passing.{passed}
use Rattle.list.proofs.Building.{refused-so, ready-so, translated}
use Rattle.list.proofs.code_of.Goals as goal

pub returns-in_err-analysis : goal.returns-in_err-analysis
returns-in_err-analysis c = rw (passed _ c.from_residual.ensures.1) (refused-so c.in_err-analysis.ensures)

pub compile-requires : goal.compile-requires
compile-requires c = ready-so c.in_ok-analysis.ensures _ c.main_number-main.ensures

pub returns : goal.returns
returns c = translated c.in_ok-analysis.ensures _ c.main_number-main.ensures c.compile.ensures
