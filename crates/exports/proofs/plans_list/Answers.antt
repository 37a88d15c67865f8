use native.Mathlib.Omega.{arith}
use mir.Facts.{to_z-of_z}
use Rattle.exports.proofs.Lists.{list-short, list-fits, list-out}
use Rattle.exports.proofs.plans_list.Goals as goal

pub returns-then-answer-lt5 : goal.returns-then-answer-lt5
returns-then-answer-lt5 c = list-short _ _ _ _ _ _ _ _ _ c.if-answer-lt5.true

pub put_listed-requires : goal.put_listed-requires
put_listed-requires c = (omega (arith, c.if-answer-lt5.false), list-fits _ _ _ _ _ _ _ _ c.args.answer.now c.list.result _ _ (rw (to_z-of_z c.ranges.low, to_z-of_z c.ranges.high) at c.list.ensures) (omega (arith, c.ranges.budget)))

pub returns : goal.returns
returns c = list-out _ _ _ _ _ _ _ _ _ c.list.result _ _ (rw (to_z-of_z c.ranges.low, to_z-of_z c.ranges.high) at c.list.ensures) _ (omega (arith, c.if-answer-lt5.false)) c.put_listed.ensures
