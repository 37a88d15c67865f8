use mathlib.Core.Path.{subst}
use lib.IntN.{ℤ}
use mir.Syntax.{w32}
use mir.Val.{SFits}
use mir.Facts.{to_z-of_z}
use borrow.Author.Rules.{rules}
use Rattle.semantics.specs.Int.{ne}
use Rattle.semantics.proofs.Order.{◌≺◌}
use Rattle.ints.proofs.Fits.{same_bits, other-bits}
use Rattle.intervals.specs.Meaning.{of_window}
use Rattle.intervals.proofs.Undecided.{around}
use Rattle.intervals.proofs.Narrow.{pred_fits, suc-fits, ne-low, ne-high, ne-kept}
use Rattle.intervals.proofs.Window.without.Goals as goal

pub overflow_add-result : goal.overflow_add-result
overflow_add-result c =
    let l : SFits w32 c.args.self.low = search rules in
    let h : SFits w32 c.args.self.high = search rules in
    let e = same_bits l c.ranges.k c.if-self-k.true in
    rw (to_z-of_z c.ranges.k) (suc-fits c.args.k c.args.self.high c.ranges.k h (subst (λ (z : ℤ). z ≺ c.args.self.high) e (around (of_window c.args.self) c.args.k ne c.requires).wide))

pub returns-then-self-k : goal.returns-then-self-k
returns-then-self-k c =
    let l : SFits w32 c.args.self.low = search rules in
    let h : SFits w32 c.args.self.high = search rules in
    let e = same_bits l c.ranges.k c.if-self-k.true in
    let p = suc-fits c.args.k c.args.self.high c.ranges.k h (subst (λ (z : ℤ). z ≺ c.args.self.high) e (around (of_window c.args.self) c.args.k ne c.requires).wide) in
    simp (to_z-of_z h, to_z-of_z c.ranges.k, to_z-of_z p, ne-low (of_window c.args.self) c.args.k c.requires e)

pub overflow_sub-result : goal.overflow_sub-result
overflow_sub-result c =
    let l : SFits w32 c.args.self.low = search rules in
    let h : SFits w32 c.args.self.high = search rules in
    let e = same_bits h c.ranges.k c.if-self-k-2.true in
    rw (to_z-of_z c.ranges.k) (pred_fits c.args.self.low c.args.k l c.ranges.k (subst (λ (z : ℤ). c.args.self.low ≺ z) e (around (of_window c.args.self) c.args.k ne c.requires).wide))

pub returns-then-self-k-2 : goal.returns-then-self-k-2
returns-then-self-k-2 c =
    let l : SFits w32 c.args.self.low = search rules in
    let h : SFits w32 c.args.self.high = search rules in
    let d = other-bits c.args.self.low c.args.k l c.ranges.k c.if-self-k.false in
    let e = same_bits h c.ranges.k c.if-self-k-2.true in
    let p = pred_fits c.args.self.low c.args.k l c.ranges.k (subst (λ (z : ℤ). c.args.self.low ≺ z) e (around (of_window c.args.self) c.args.k ne c.requires).wide) in
    simp (to_z-of_z l, to_z-of_z c.ranges.k, to_z-of_z p, ne-high (of_window c.args.self) c.args.k d e)

pub returns-else-self-k-2 : goal.returns-else-self-k-2
returns-else-self-k-2 c =
    let l : SFits w32 c.args.self.low = search rules in
    let h : SFits w32 c.args.self.high = search rules in
    let d = other-bits c.args.self.low c.args.k l c.ranges.k c.if-self-k.false in
    let e = other-bits c.args.self.high c.args.k h c.ranges.k c.if-self-k-2.false in
    simp (to_z-of_z l, to_z-of_z h, ne-kept (of_window c.args.self) c.args.k d e)
