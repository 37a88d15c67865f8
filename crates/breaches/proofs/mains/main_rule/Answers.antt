use mathlib.Core.Path.{sym, ap, ◌∙◌}
use native.Mathlib.Omega.{arith}
use lib.ListN.{length, length-map}
use Rattle.text_rules.specs.Scan.{least, lesser}
use Rattle.text_rules.proofs.Functions.{some-main, bad-none}
use Rattle.breaches.proofs.mains.main_rule.Goals as goal

pub returns-then-main_number-as_slice : goal.returns-then-main_number-as_slice
returns-then-main_number-as_slice c =
    let e = simp length-map at (ap length c.as_slice.ensures.heads) in
    c.mains_with.ensures ∙ ap least (sym (some-main _ _ _ (omega (arith, e, c.main_number.ensures, c.if-main_number-as_slice.true))))

pub returns : goal.returns
unfolding least lesser
returns c =
    let e = simp length-map at (ap length c.as_slice.ensures.heads) in
    sym (ap least (bad-none _ _ _ (omega (arith, e, c.main_number.ensures, c.if-main_number-as_slice.false))))
