use Prim.Native.Nat.{◌/◌}
use native.Mathlib.Omega.{arith}
use lib.ListN.{length}
use Rattle.printing.proofs.Puts.{and_then, put_as}
use Rattle.lines.specs.Written.{rows_of}
use Rattle.pages.specs.Parts.{foot_of}
use Rattle.pages.proofs.Lists.{rows-count}
use Rattle.pages.proofs.Lines.{page-bytes}
use Rattle.pages.proofs.put_page.Goals as goal

pub returns : goal.returns
returns c =
    let n = rows-count (length c.args.rows.now / 10) c.args.rows.now in
    let b = rw (← n) at c.put_blank_lines-s.ensures in
    put_as (page-bytes c.args.number (rows_of c.args.rows.now) (foot_of c.args.ending) (omega (arith, n, c.requires))) (and_then (and_then (and_then c.put_head-p.ensures c.put_rows-q.ensures) b) c.put_foot.ensures)
