use mathlib.Core.Path.{refl}
use Rattle.checker.proofs.Passing.{passed}
use Rattle.checker.proofs.Analysing.{is-lexed, listed, few-listed, settled, settled-refused, refused-so}
use Rattle.checker.proofs.analyse.Goals as goal

pub returns-in_err-source : goal.returns-in_err-source
returns-in_err-source c = rw (passed _ c.from_residual.ensures.1) (refused-so c.in_err-source.ensures refl)

pub settle-requires : goal.settle-requires
settle-requires c =
    let x = is-lexed c.in_ok-source.ensures refl in
    (listed x, few-listed x, c.requires.table, c.requires.blank)

pub returns-in_err-root : goal.returns-in_err-root
returns-in_err-root c = rw (passed _ c.from_residual-in_err-root.ensures.1) (settled-refused (is-lexed c.in_ok-source.ensures refl) c.in_err-root.ensures)

pub returns : goal.returns
returns c = settled (is-lexed c.in_ok-source.ensures refl) c.in_ok-root.ensures
