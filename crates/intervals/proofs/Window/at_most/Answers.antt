use mir.Syntax.{w32}
use mir.Val.{SFits}
use mir.Facts.{to_z-of_z}
use borrow.Author.Rules.{rules}
use Rattle.semantics.specs.Search.{clip}
use Rattle.intervals.proofs.Narrow.{min-is}
use Rattle.intervals.proofs.Window.at_most.Goals as goal

pub returns : goal.returns
unfolding clip
returns c =
    let l : SFits w32 c.args.self.low = search rules in
    let h : SFits w32 c.args.self.high = search rules in
    let m : SFits w32 c.min.result = record { sfits = c.min.type_inv } in
    let e = simp (to_z-of_z h, to_z-of_z c.ranges.k, min-is) at c.min.ensures.value in
    rw (to_z-of_z l, to_z-of_z m, e)
