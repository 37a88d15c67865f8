use native.Mathlib.Omega.{arith}
use borrow.Author.Rules.{rules}
use lib.ListN.{get_or}
use lib.IntN.{pos}
use mir.Syntax.{w32}
use mir.Val.{SFits}
use mir.Facts.{to_z-of_z}
use Rattle.printing.proofs.Puts.{and_then, put_as, put-none}
use Rattle.lines.specs.Print.{spaced}
use Rattle.lines.proofs.Lines.{spaced-more}
use Rattle.lines.proofs.put_values.Goals as goal

pub loop-z-init : goal.loop-z-init
unfolding spaced
loop-z-init c = (put-none _ _ (omega arith) (omega arith), omega arith)

pub loop-z-preserved : goal.loop-z-preserved
loop-z-preserved c =
    let f : SFits w32 (get_or c.args.values.now c.loop-z.z-index (pos 0)) = search rules in
    let w = rw (to_z-of_z f) at c.put_value-p.ensures.0 in
    (put_as (spaced-more c.args.values.now c.loop-z.z-index c.loop-z-test.true) (and_then c.loop-z.invariant.0 w), omega (arith, c.loop-z.invariant.1, c.put_value-p.ensures.1))
