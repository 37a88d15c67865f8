use native.Mathlib.Omega.{arith}
use mathlib.Core.Path.{sym, ap, ◌∙◌}
use lib.Seq.{length-take-le}
use mir.Facts.{to_z-of_z}
use Rattle.printing.proofs.Puts.{put_as, put-length}
use Rattle.printing.proofs.Numbers.{integer-length}
use Rattle.pages.specs.Pages.{right}
use Rattle.pages.proofs.Widths.{column-wide, column-shown}
use Rattle.pages.proofs.Lines.{written_count, written-front}
use Rattle.pages.proofs.put_column.Goals as goal

pub returns-then-n-gt8 : goal.returns-then-n-gt8
returns-then-n-gt8 c =
    let z = rw (to_z-of_z c.ranges.z) at c.put_integer-n.ensures in
    let n = written_count z (omega (arith, integer-length _ c.ranges.z)) in
    put_as (column-wide _ (omega (arith, n, c.if-n-gt8.true))) c.put_bytes.ensures

pub slice_bounds-put_right-end : goal.slice_bounds-put_right-end
slice_bounds-put_right-end c =
    let z = rw (to_z-of_z c.ranges.z) at c.put_integer-n.ensures in
    sym (length-take-le _ _ (omega (arith, z.past, integer-length _ c.ranges.z, put-length z)))

pub returns : goal.returns
returns c =
    let z = rw (to_z-of_z c.ranges.z) at c.put_integer-n.ensures in
    let h = integer-length _ c.ranges.z in
    put_as (ap (right 8) (written-front z (omega (arith, h))) ∙ column-shown _ (omega (arith, h, written_count z (omega (arith, h))))) c.put_right.ensures
