use mir.Syntax.{w32}
use mir.Val.{SFits}
use mir.Facts.{to_z-of_z}
use borrow.Author.Rules.{rules}
use Rattle.semantics.specs.Search.{clip}
use Rattle.intervals.specs.Meaning.{of_window}
use Rattle.intervals.proofs.Undecided.{over-low}
use Rattle.intervals.proofs.Narrow.{less-one, min-is, pred_fits}
use Rattle.intervals.proofs.Window.below.Goals as goal

pub overflow_sub-k : goal.overflow_sub-k
overflow_sub-k c =
    let l : SFits w32 c.args.self.low = search rules in
    rw (to_z-of_z c.ranges.k) (pred_fits c.args.self.low c.args.k l c.ranges.k (over-low (of_window c.args.self) c.args.k c.requires))

pub returns : goal.returns
unfolding clip
returns c =
    let l : SFits w32 c.args.self.low = search rules in
    let h : SFits w32 c.args.self.high = search rules in
    let m : SFits w32 c.min.result = record { sfits = c.min.type_inv } in
    let p = pred_fits c.args.self.low c.args.k l c.ranges.k (over-low (of_window c.args.self) c.args.k c.requires) in
    let e = simp (to_z-of_z h, to_z-of_z c.ranges.k, to_z-of_z p, min-is) at c.min.ensures.value in
    rw (to_z-of_z l, to_z-of_z m, e, less-one c.args.k)
