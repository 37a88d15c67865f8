use native.Mathlib.Omega.{arith}
use borrow.Author.Rules.{rules}
use mir.Syntax.{w32}
use mir.Val.{SFits}
use mir.Facts.{to_z-of_z}
use Rattle.printing.proofs.Puts.{and_then, put_as, put-none}
use Rattle.lines.specs.Print.{spaced}
use Rattle.lines.proofs.Lines.{offsets-more}
use Rattle.lines.proofs.put_offsets.Goals as goal

pub loop-offset-init : goal.loop-offset-init
unfolding spaced
loop-offset-init c = (put-none _ _ (omega arith) (omega arith), omega arith)

pub loop-offset-preserved : goal.loop-offset-preserved
loop-offset-preserved c =
    let f : SFits w32 c.from.result = search rules in
    let w = rw (to_z-of_z f, c.from.ensures) at c.put_value-p.ensures.0 in
    (put_as (offsets-more c.args.offsets.now c.loop-offset.offset-index c.loop-offset-test.true) (and_then c.loop-offset.invariant.0 w), omega (arith, c.loop-offset.invariant.1, c.put_value-p.ensures.1))
