use mathlib.Core.Path.{sym, ◌∙◌}
use native.Mathlib.Omega.{arith}
use Rattle.breaches.specs.Pairs.{wide_rule}
use Rattle.breaches.proofs.OwnPairs.{pair-start, pair_turn, pair_end}
use Rattle.breaches.proofs.pairs.bad_pair.Goals as goal

pub loop-i-init : goal.loop-i-init
loop-i-init c = pair-start c.args.source.now.kinds c.args.source.now.values (wide_rule c.args.rule)

pub loop-i-preserved : goal.loop-i-preserved
loop-i-preserved c =
    pair_turn c.args.source.now.kinds c.args.source.now.values (wide_rule c.args.rule) c.loop-i.i _ (omega (arith, c.loop-i-test.true, c.len-i-end.ensures)) c.breach_at-best.ensures ∙ c.loop-i.invariant

pub returns : goal.returns
returns c =
    sym (pair_end c.args.source.now.kinds c.args.source.now.values (wide_rule c.args.rule) c.loop-i.i _ (omega (arith, c.loop-i-test.false, c.len-i-end.ensures))) ∙ c.loop-i.invariant
