use mir.Syntax.{w64}
use mir.Val.{SFits}
use mir.Facts.{to_z-of_z}
use Rattle.intervals.proofs.Narrow.{min-is}
use Rattle.ranges.proofs.least_of.Goals as goal

pub returns : goal.returns
returns c =
    let p : SFits w64 c.min.result = record { sfits = c.min.type_inv } in
    let q : SFits w64 c.min-2.result = record { sfits = c.min-2.type_inv } in
    let r : SFits w64 c.min-3.result = record { sfits = c.min-3.type_inv } in
    let a = simp (to_z-of_z c.ranges.a, to_z-of_z c.ranges.b, min-is) at c.min.ensures.value in
    let b = simp (to_z-of_z c.ranges.c, to_z-of_z c.ranges.d, min-is) at c.min-2.ensures.value in
    rw (to_z-of_z r) (rw (to_z-of_z p, to_z-of_z q, min-is, a, b) at c.min-3.ensures.value)
