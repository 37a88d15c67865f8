use native.Mathlib.Omega.{arith}
use mathlib.Core.Path.{ap}
use lib.ListN.{length}
use Rattle.printing.proofs.Puts.{and_then, put_as}
use Rattle.pages.proofs.Lines.{foot-line, foot-short}
use Rattle.pages.proofs.put_foot.Goals as goal

pub overflow_sub-word : goal.overflow_sub-word
overflow_sub-word c = omega (arith, ap length c.foot_word-word.ensures, foot-short c.args.ending)

pub returns : goal.returns
returns c =
    let w = rw c.foot_word-word.ensures at c.put_bytes-p.ensures in
    let b = rw c.foot_word-word.ensures at c.put_blanks-q.ensures in
    put_as (foot-line c.args.ending) (and_then (and_then w b) c.put_byte.ensures)
