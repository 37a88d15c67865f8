use Prim.Native.Nat.{◌+◌, ◌-◌}
use native.Mathlib.Omega.{arith}
use borrow.Author.Rules.{rules}
use mathlib.Core.Path.{◌≡◌, ◌∙◌, ap}
use lib.ListN.{get_or, drop}
use lib.IntN.{pos}
use mir.Syntax.{w32}
use mir.Val.{SFits}
use mir.Facts.{to_z-of_z}
use Rattle.printing.proofs.Puts.{and_then, put_as}
use Rattle.printing.proofs.Numbers.{integer-length}
use Rattle.std.proofs.lemmas.List.{length-take}
use Rattle.lines.specs.Written.{count_of}
use Rattle.lines.proofs.Lines.{row-line}
use Rattle.lines.proofs.put_row.Goals as goal

pub returns : goal.returns
returns c =
    let f : SFits w32 (get_or c.args.row.now 0 (pos 0)) = search rules in
    let g : SFits w32 (get_or c.args.row.now 1 (pos 0)) = search rules in
    let n : c.value_count.result ≡ count_of (get_or c.args.row.now 1 (pos 0)) = c.value_count.ensures.0 ∙ ap count_of (to_z-of_z g) in
    let k : 2 + c.value_count.result - 2 ≡ c.value_count.result = omega arith in
    let v = rw k at c.put_values-s.ensures in
    let w = rw (to_z-of_z f) at c.put_integer-p.ensures in (
      put_as (row-line c.args.row.now c.value_count.result n) (and_then (and_then (and_then w c.put_bytes-q.ensures) v.0) c.put_bytes.ensures),
      omega (arith, w.past, integer-length _ f, c.put_bytes-q.ensures.past, v.1, c.value_count.ensures.1, length-take c.value_count.result (drop 2 c.args.row.now), c.put_bytes.ensures.past),
    )
