use mir.Syntax.{w32}
use mir.Val.{SFits}
use mir.Facts.{to_z-of_z}
use borrow.Author.Rules.{rules}
use Rattle.checker.proofs.Passing.{passed}
use Rattle.list.proofs.Listing.{groundless, list-grounded, list-refused, list-searched}
use Rattle.list.proofs.list.Goals as goal

pub returns-in-Some : goal.returns-in-Some
returns-in-Some c =
    let l : SFits w32 c.args.terms.low = search rules in
    let h : SFits w32 c.args.terms.high = search rules in
    list-grounded _ _ _ _ _ _ _ _ _ (rw (to_z-of_z l, to_z-of_z h) at c.in-Some.ensures)

pub returns-in_err-code_of : goal.returns-in_err-code_of
returns-in_err-code_of c =
    let l : SFits w32 c.args.terms.low = search rules in
    let h : SFits w32 c.args.terms.high = search rules in
    rw (passed _ c.from_residual.ensures.1) (list-refused _ _ _ _ _ _ _ _ (rw (to_z-of_z l, to_z-of_z h) at c.in_default.ensures) c.in_err-code_of.ensures)

pub explore-requires : goal.explore-requires
explore-requires c =
    let l : SFits w32 c.args.terms.low = search rules in
    let h : SFits w32 c.args.terms.high = search rules in
    let g = groundless _ _ _ _ (rw (to_z-of_z l, to_z-of_z h) at c.in_default.ensures) in
    (g.scratch, g.window, g.limit)

pub returns : goal.returns
returns c =
    let l : SFits w32 c.args.terms.low = search rules in
    let h : SFits w32 c.args.terms.high = search rules in
    list-searched _ _ _ _ _ _ _ _ (rw (to_z-of_z l, to_z-of_z h) at c.in_default.ensures) c.in_ok-code_of.ensures (rw c.code.ensures at c.explore.ensures)
