use mir.Syntax.{w32}
use mir.Val.{SFits}
use mir.Facts.{to_z-of_z}
use borrow.Author.Rules.{rules}
use Rattle.semantics.specs.Search.{clip}
use Rattle.intervals.specs.Meaning.{of_window}
use Rattle.intervals.proofs.Undecided.{under-high}
use Rattle.intervals.proofs.Narrow.{more-one, max-is, suc-fits}
use Rattle.intervals.proofs.Window.above.Goals as goal

pub overflow_add-k : goal.overflow_add-k
overflow_add-k c =
    let h : SFits w32 c.args.self.high = search rules in
    rw (to_z-of_z c.ranges.k) (suc-fits c.args.k c.args.self.high c.ranges.k h (under-high (of_window c.args.self) c.args.k c.requires))

pub returns : goal.returns
unfolding clip
returns c =
    let l : SFits w32 c.args.self.low = search rules in
    let h : SFits w32 c.args.self.high = search rules in
    let m : SFits w32 c.max.result = record { sfits = c.max.type_inv } in
    let p = suc-fits c.args.k c.args.self.high c.ranges.k h (under-high (of_window c.args.self) c.args.k c.requires) in
    let e = simp (to_z-of_z l, to_z-of_z c.ranges.k, to_z-of_z p, max-is) at c.max.ensures.value in
    rw (to_z-of_z h, to_z-of_z m, e, more-one c.args.k)
