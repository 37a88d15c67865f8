use Prim.Native.Nat.{◌*◌}
use native.Mathlib.Omega.{arith}
use Rattle.printing.proofs.Puts.{and_then, put_as, put-none}
use Rattle.lines.specs.Print.{row_lines}
use Rattle.lines.specs.Written.{rows_from}
use Rattle.lines.proofs.Words.{whole-rest}
use Rattle.lines.proofs.Lines.{rows_more}
use Rattle.lines.proofs.put_rows.Goals as goal

pub loop-k-init : goal.loop-k-init
unfolding row_lines rows_from
loop-k-init c = (put-none _ _ (omega arith) (omega arith), omega arith)

pub loop-k-preserved : goal.loop-k-preserved
loop-k-preserved c =
    let w = rw (whole-rest c.args.rows.now (10 * c.loop-k.k)) at c.put_row-p.ensures.0 in
    (put_as (rows_more c.args.rows.now c.loop-k.k) (and_then c.loop-k.invariant.0 w), omega (arith, c.loop-k.invariant.1, c.put_row-p.ensures.1))
