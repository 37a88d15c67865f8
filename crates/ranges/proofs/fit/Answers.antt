use mathlib.Core.Path.{sym}
use mir.Facts.{to_z-of_z}
use Rattle.ranges.proofs.Ranges.{low_fits, high_fits, fitted-inside, fitted-over, fitted-under}
use Rattle.ranges.proofs.fit.Goals as goal
use Rattle.ranges.proofs.fit.Goals.{else-low-via-then-low+else-high, else-low-via-else-low}

pub returns-then-high : goal.returns-then-high
returns-then-high c =
    let e = rw (to_z-of_z c.ranges.low) at c.if-low.true in
    let g = rw (to_z-of_z c.ranges.high) at c.if-high.true in
    let p = low_fits c.args.low c.args.high e c.requires g in
    let q = high_fits c.args.low c.args.high e c.requires g in
    simp (to_z-of_z c.ranges.low, to_z-of_z c.ranges.high, to_z-of_z p, to_z-of_z q, fitted-inside c.args.low c.args.high e g)

pub returns-else-low : goal.returns-else-low
returns-else-low c = elim c.else-low.branch [
  | else-low-via-then-low+else-high w ↦ sym (fitted-over c.args.low c.args.high (rw (to_z-of_z c.ranges.high) at w.if-high.false))
  | else-low-via-else-low w ↦ sym (fitted-under c.args.low c.args.high (rw (to_z-of_z c.ranges.low) at w.if-low.false))
]
