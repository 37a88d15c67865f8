use borrow.Author.Rules.{rules}
use native.Mathlib.Omega.{arith}
use mathlib.Core.Path.{ap}
use lib.ListN.{length}
use Prim.Native.Nat.{◌≤◌}
use Rattle.printing.proofs.Puts.{put_as, put-length}
use Rattle.printing.proofs.Numbers.{word-length}
use Rattle.pages.specs.Pages.{right}
use Rattle.pages.proofs.Lines.{written-five}
use Rattle.pages.proofs.put_number.Goals as goal

pub slice_bounds-put_right-end : goal.slice_bounds-put_right-end
slice_bounds-put_right-end c =
    let h : c.put_natural-n.result ≤ length c.put_natural-n.new.out = omega (arith, c.put_natural-n.ensures.past, word-length _ c.ranges.number.fits, put-length c.put_natural-n.ensures) in
    search rules

pub returns : goal.returns
returns c =
    let h = word-length _ c.ranges.number.fits in
    let w = rw c.saturating_sub-first.ensures at c.put_right.ensures in
    put_as (ap (right 5) (written-five c.put_natural-n.ensures (omega (arith, h)))) w
