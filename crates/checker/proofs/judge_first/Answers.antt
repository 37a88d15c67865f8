use Rattle.checker.specs.Check.{rules_of, first_broken}
use Rattle.checker.proofs.Passing.{passed}
use Rattle.checker.proofs.Faults.{at, nowhere, goes_on}
use Rattle.checker.proofs.Naming.{bad-so, meant-so}
use Rattle.checker.proofs.judge_first.Goals as goal

pub returns-in_err-keeps : goal.returns-in_err-keeps
unfolding rules_of first_broken
returns-in_err-keeps c =
    let depth = at c.too_deep.ensures c.in_err-keeps.ensures in
    rw (passed _ c.from_residual.ensures.1) (record { said = λ p e. rw (← e, depth.breaks) depth.said; known = λ p e. tt })

pub returns-in_err-keeps-2 : goal.returns-in_err-keeps-2
unfolding rules_of first_broken
returns-in_err-keeps-2 c =
    let depth = nowhere c.too_deep.ensures c.in_ok-keeps.ensures in
    let names = at (rw c.as_slice.ensures.events at c.resolve.ensures).least c.in_err-keeps-2.ensures in
    rw (passed _ c.from_residual-in_err-keeps-2.ensures.1) (record { said = λ p e. rw (bad-so c.args.source.now p e names.breaks) (rw (← e, depth) names.said); known = λ p e. tt })

pub returns : goal.returns
unfolding rules_of first_broken
returns c =
    let depth = nowhere c.too_deep.ensures c.in_ok-keeps.ensures in
    let names = nowhere (rw c.as_slice.ensures.events at c.resolve.ensures).least c.in_ok-keeps-2.ensures in
    goes_on c.judge_functions.ensures (λ p e. rw (bad-so c.args.source.now p e names) (rw (← e, depth))) (λ p e. (rw (← e) c.collect_heads.ensures, meant-so c.args.source.now p (rw c.as_slice.ensures.events at c.resolve.ensures) e c.requires.1))
