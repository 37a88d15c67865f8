use native.Mathlib.Omega.{arith}
use mathlib.Core.Path.{sym, ap}
use lib.Seq.{length-take-le}
use mir.Facts.{to_z-of_z}
use Rattle.printing.proofs.Puts.{put_as, put-length}
use Rattle.printing.proofs.Numbers.{integer-length}
use Rattle.pages.specs.Pages.{right}
use Rattle.pages.proofs.Lines.{written-front}
use Rattle.pages.proofs.put_result.Goals as goal

pub slice_bounds-digits-end : goal.slice_bounds-digits-end
slice_bounds-digits-end c =
    let z = rw (to_z-of_z c.ranges.z) at c.put_integer-n.ensures in
    omega (arith, z.past, integer-length _ c.ranges.z, put-length z)

pub slice_bounds-put_right-end : goal.slice_bounds-put_right-end
slice_bounds-put_right-end c =
    let z = rw (to_z-of_z c.ranges.z) at c.put_integer-n.ensures in
    sym (length-take-le _ _ (omega (arith, z.past, integer-length _ c.ranges.z, put-length z)))

pub returns : goal.returns
returns c =
    let z = rw (to_z-of_z c.ranges.z) at c.put_integer-n.ensures in
    put_as (ap (right 12) (written-front z (omega (arith, integer-length _ c.ranges.z)))) c.put_right.ensures
