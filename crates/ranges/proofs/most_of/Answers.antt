use mir.Syntax.{w64}
use mir.Val.{SFits}
use mir.Facts.{to_z-of_z}
use Rattle.intervals.proofs.Narrow.{max-is}
use Rattle.ranges.proofs.most_of.Goals as goal

pub returns : goal.returns
returns c =
    let p : SFits w64 c.max.result = record { sfits = c.max.type_inv } in
    let q : SFits w64 c.max-2.result = record { sfits = c.max-2.type_inv } in
    let r : SFits w64 c.max-3.result = record { sfits = c.max-3.type_inv } in
    let a = simp (to_z-of_z c.ranges.a, to_z-of_z c.ranges.b, max-is) at c.max.ensures.value in
    let b = simp (to_z-of_z c.ranges.c, to_z-of_z c.ranges.d, max-is) at c.max-2.ensures.value in
    rw (to_z-of_z r) (rw (to_z-of_z p, to_z-of_z q, max-is, a, b) at c.max-3.ensures.value)
