use Prim.Native.Nat.{◌*◌}
use native.Mathlib.Omega.{arith}
use mathlib.Core.List.{◌++◌}
use Rattle.semantics.specs.Run.{Row}
use Rattle.printing.proofs.Puts.{and_then, put_as, put-none}
use Rattle.lines.specs.Print.{line_end}
use Rattle.lines.specs.Written.{rows_from}
use Rattle.lines.proofs.Words.{whole-rest}
use Rattle.pages.specs.Pages.{filled, row_across}
use Rattle.pages.specs.Parts.{joined}
use Rattle.pages.proofs.Lists.{rows_more}
use Rattle.pages.proofs.put_rows.Goals as goal

pub loop-k-init : goal.loop-k-init
unfolding joined rows_from
loop-k-init c = put-none _ _ (omega arith) (omega arith)

pub loop-k-preserved : goal.loop-k-preserved
loop-k-preserved c =
    let w = rw (whole-rest c.args.rows.now (10 * c.loop-k.k)) at c.put_row-p.ensures in
    put_as (rows_more (λ (r : Row). filled (row_across r) ++ line_end) c.args.rows.now c.loop-k.k) (and_then c.loop-k.invariant w)
