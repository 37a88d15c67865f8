use mathlib.Core.Path.{ap, ◌∙◌}
use Rattle.text_rules.specs.Scan.{least}
use Rattle.checker.specs.Check.{rules_of, first_broken}
use Rattle.checker.proofs.Passing.{passed}
use Rattle.checker.proofs.Faults.{at, nowhere, reversed-so, wide-so}
use Rattle.checker.proofs.judge_last.Goals as goal

pub returns-in_err-keeps : goal.returns-in_err-keeps
unfolding rules_of first_broken
returns-in_err-keeps c =
    rw (passed _ c.from_residual.ensures.1)
    (record {
      is = λ p e.
          let unset = at ((rw c.as_slice.ensures at c.unassigned.ensures).is p e.holds ∙ ap least e.means) c.in_err-keeps.ensures in
          rw unset.breaks unset.said;
    })

pub returns-in_err-keeps-2 : goal.returns-in_err-keeps-2
unfolding rules_of first_broken
returns-in_err-keeps-2 c =
    let counts = at c.too_many.ensures c.in_err-keeps-2.ensures in
    rw (passed _ c.from_residual-in_err-keeps-2.ensures.1)
    (record {
      is = λ p e.
          let unset = nowhere ((rw c.as_slice.ensures at c.unassigned.ensures).is p e.holds ∙ ap least e.means) c.in_ok-keeps.ensures in
          rw (unset, ← e.listed, counts.breaks) counts.said;
    })

pub returns-in_err-keeps-3 : goal.returns-in_err-keeps-3
unfolding rules_of first_broken
returns-in_err-keeps-3 c =
    let counts = nowhere c.too_many.ensures c.in_ok-keeps-2.ensures in
    rw (passed _ c.from_residual-in_err-keeps-3.ensures.1)
    (record {
      is = λ p e.
          let unset = nowhere ((rw c.as_slice.ensures at c.unassigned.ensures).is p e.holds ∙ ap least e.means) c.in_ok-keeps.ensures in
          let turned = at (c.bad_pair.ensures ∙ reversed-so c.args.source.now.kinds c.args.source.now.values p e.shown) c.in_err-keeps-3.ensures in
          rw (unset, ← e.listed, counts, turned.breaks) turned.said;
    })

pub returns : goal.returns
unfolding rules_of first_broken
returns c =
    let counts = nowhere c.too_many.ensures c.in_ok-keeps-2.ensures in
    record {
      is = λ p e.
          let unset = nowhere ((rw c.as_slice.ensures at c.unassigned.ensures).is p e.holds ∙ ap least e.means) c.in_ok-keeps.ensures in
          let turned = nowhere (c.bad_pair.ensures ∙ reversed-so c.args.source.now.kinds c.args.source.now.values p e.shown) c.in_ok-keeps-3.ensures in
          rw (unset, ← e.listed, counts, turned, ← (c.bad_pair-2.ensures ∙ wide-so c.args.source.now.kinds c.args.source.now.values p e.shown)) c.keeps-4.ensures.said;
    }

pub unassigned-requires : goal.unassigned-requires
unassigned-requires c = rw c.as_slice.ensures c.requires.1
