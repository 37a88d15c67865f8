use Rattle.checker.specs.Check.{rules_of, first_broken}
use Rattle.checker.proofs.Passing.{passed}
use Rattle.checker.proofs.Faults.{at, nowhere}
use Rattle.checker.proofs.judge_functions.Goals as goal

pub returns-in_err-keeps : goal.returns-in_err-keeps
unfolding rules_of first_broken
returns-in_err-keeps c =
    let calls = at c.miscalls.ensures c.in_err-keeps.ensures in
    rw (passed _ c.from_residual.ensures.1) (record { is = λ p e. rw (← e, ← c.requires.1, calls.breaks) calls.said })

pub returns-in_err-keeps-2 : goal.returns-in_err-keeps-2
unfolding rules_of first_broken
returns-in_err-keeps-2 c =
    let calls = nowhere c.miscalls.ensures c.in_ok-keeps.ensures in
    let main = at (rw c.len.ensures at c.main_rule.ensures) c.in_err-keeps-2.ensures in
    rw (passed _ c.from_residual-in_err-keeps-2.ensures.1) (record { is = λ p e. rw (← e, ← c.requires.1, calls, main.breaks) main.said })

pub returns : goal.returns
unfolding rules_of first_broken
returns c =
    let calls = nowhere c.miscalls.ensures c.in_ok-keeps.ensures in
    let main = nowhere (rw c.len.ensures at c.main_rule.ensures) c.in_ok-keeps-2.ensures in
    record { is = λ p e. rw (← e, ← c.requires.1, calls, main, ← c.open_ends.ensures) c.keeps-3.ensures.said }
