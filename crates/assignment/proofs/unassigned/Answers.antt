use Prim.Native.Nat.{◌+◌}
use mathlib.Core.Path.{ap, ◌∙◌}
use native.Mathlib.Omega.{arith}
use Rattle.text_rules.specs.Scan.{least}
use Rattle.text_rules.specs.Answers.{least_with}
use Rattle.text_rules.specs.Assigned.{unassigned}
use Rattle.assignment.specs.Group.{group_size, of_group}
use Rattle.assignment.specs.Walk.{slot_at}
use Rattle.assignment.proofs.Gathering.{up_start, up-all, up_more}
use Rattle.assignment.proofs.unassigned.Goals as goal

pub loop-base-init : goal.loop-base-init
loop-base-init c = λ p h. up_start (slot_at c.args.slots.now) (unassigned (slot_at c.args.slots.now) p)

pub loop-base-preserved : goal.loop-base-preserved
loop-base-preserved c =
    let M = slot_at c.args.slots.now in
    λ p h. c.functions-best.ensures.found p h ∙ ap (least_with (of_group M c.loop-base.base (unassigned M p))) (c.loop-base.invariant p h) ∙ up_more M c.loop-base.base (unassigned M p)

pub returns : goal.returns
returns c =
    let M = slot_at c.args.slots.now in
    record { is = λ p h. c.loop-base.invariant p h ∙ ap least (up-all M c.loop-base.base (λ i. omega (arith, c.greatest-top.ensures.0 i, c.loop-base-test.false)) (unassigned M p)) }

-- the last group
pub returns-2 : goal.returns-2
returns-2 c =
    let M = slot_at c.args.slots.now in
    record {
      is = λ p h.
          c.functions-best.ensures.found p h ∙ ap (least_with (of_group M c.loop-base.base (unassigned M p))) (c.loop-base.invariant p h) ∙ up_more M c.loop-base.base (unassigned M p)
          ∙ ap least (up-all M (c.loop-base.base + group_size) (λ i. omega (arith, c.greatest-top.ensures.0 i, c.loop-base-test.true)) (unassigned M p));
    }
