use Prim.Native.Nat.{◌+◌, ◌-◌}
use native.Mathlib.Omega.{arith}
use borrow.Author.Rules.{rules}
use mathlib.Core.Path.{◌≡◌, ◌∙◌, ap}
use lib.ListN.{get_or}
use lib.IntN.{pos}
use mir.Syntax.{w32}
use mir.Val.{SFits}
use mir.Facts.{to_z-of_z}
use Rattle.printing.proofs.Puts.{and_then, put_as}
use Rattle.printing.proofs.Numbers.{integer-length}
use Rattle.lines.specs.Written.{count_of}
use Rattle.pages.proofs.Lines.{row-line}
use Rattle.pages.proofs.put_row.Goals as goal

pub returns : goal.returns
returns c =
    let f : SFits w32 (get_or c.args.row.now 0 (pos 0)) = search rules in
    let g : SFits w32 (get_or c.args.row.now 1 (pos 0)) = search rules in
    let n : c.value_count-n.result ≡ count_of (get_or c.args.row.now 1 (pos 0)) = c.value_count-n.ensures.0 ∙ ap count_of (to_z-of_z g) in
    let k : 2 + c.value_count-n.result - 2 ≡ c.value_count-n.result = omega arith in
    let v = rw k at c.put_columns-q.ensures in
    let w = rw (to_z-of_z f) at c.put_result-p.ensures in
    put_as (row-line c.args.row.now c.value_count-n.result c.requires (omega (arith, integer-length _ f)) n) (and_then (and_then (and_then w v) c.put_blanks-s.ensures) c.put_byte.ensures)
