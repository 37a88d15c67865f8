use native.Mathlib.Omega.{arith}
use borrow.Author.Rules.{rules}
use lib.ListN.{get_or}
use lib.IntN.{pos}
use mir.Syntax.{w32}
use mir.Val.{SFits}
use mir.Facts.{to_z-of_z}
use Rattle.printing.proofs.Puts.{and_then, put_as, put-none}
use Rattle.pages.specs.Pages.{column}
use Rattle.pages.specs.Parts.{joined}
use Rattle.pages.proofs.Lists.{joined-take}
use Rattle.pages.proofs.put_columns.Goals as goal

pub loop-z-init : goal.loop-z-init
unfolding joined
loop-z-init c = put-none _ _ (omega arith) (omega arith)

pub loop-z-preserved : goal.loop-z-preserved
loop-z-preserved c =
    let f : SFits w32 (get_or c.args.values.now c.loop-z.z-index (pos 0)) = search rules in
    let w = rw (to_z-of_z f) at c.put_column-p.ensures in
    put_as (joined-take column c.args.values.now c.loop-z.z-index (pos 0) c.loop-z-test.true) (and_then c.loop-z.invariant w)
