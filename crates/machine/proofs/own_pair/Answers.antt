use mathlib.Core.Path.{ap, ◌∙◌}
use lib.Signed.{le_z}
use mir.Syntax.{w32}
use mir.Val.{SFits}
use mir.Facts.{to_z-of_z}
use Rattle.semantics.specs.Search.{to}
use Rattle.intervals.proofs.Narrow.{max-is}
use Rattle.intervals.proofs.Undecided.{true_of}
use Rattle.machine.proofs.Own.{ends}
use Rattle.machine.proofs.own_pair.Goals as goal

pub returns : goal.returns
returns c =
    let f : SFits w32 c.number_at-low.result = record { sfits = c.number_at-low.type_inv } in
    let g : SFits w32 c.number_at-high.result = record { sfits = c.number_at-high.type_inv } in
    let h : SFits w32 c.max.result = record { sfits = c.max.type_inv } in
    let e = simp (to_z-of_z f, to_z-of_z g, max-is) at c.max.ensures.value in
    rw (to_z-of_z f, to_z-of_z h) (
      ap (to c.number_at-low.result) e ∙ ends c.args.code.now c.args.e c.saturating_sub.result c.saturating_sub-2.result c.number_at-low.result c.number_at-high.result c.saturating_sub.ensures c.saturating_sub-2.ensures c.number_at-low.ensures c.number_at-high.ensures,
      true_of (le_z c.number_at-low.result c.max.result) (rw (to_z-of_z f) at c.max.ensures.self_bound).le,
    )
