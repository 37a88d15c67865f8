use mathlib.Core.Path.{◌≡◌, refl, sym, ap, ◌∙◌}
use mathlib.Core.Bool.{Bool, true, false, not, ◌&&◌}
use mir.Syntax.{w32}
use mir.Val.{SFits}
use mir.Facts.{to_z-of_z}
use borrow.Author.Rules.{rules}
use Rattle.semantics.specs.Int.{lt, le, gt, ge, eq, ne}
use Rattle.semantics.specs.Search.{always}
use Rattle.ints.specs.Meaning.{of_comparison}
use Rattle.ints.specs.Numbers.{comparison}
use Rattle.ints.proofs.Chosen.{last-comparison}
use Rattle.intervals.proofs.Undecided.{not-le}
use Rattle.ranges.proofs.always.Goals as goal

-- both, unless the first is none
first : (x y : Bool) → not x ≡ true → not x ≡ not (x && y)
first true y e = cc
first false y e = refl

second : (x y : Bool) → not x ≡ false → not y ≡ not (x && y)
second true y e = refl
second false y e = cc

pub returns-in-0 : goal.returns-in-0
unfolding always
returns-in-0 c =
    let n : of_comparison c.args.c ≡ lt = sym c.from.ensures.0 ∙ ap comparison c.in-0.is in
    let a : SFits w32 c.args.v.high = search rules in
    let b : SFits w32 c.args.w.low = search rules in
    rw (to_z-of_z a, to_z-of_z b, n)

pub returns-in-1 : goal.returns-in-1
unfolding always
returns-in-1 c =
    let n : of_comparison c.args.c ≡ le = sym c.from.ensures.0 ∙ ap comparison c.in-1.is in
    let a : SFits w32 c.args.v.high = search rules in
    let b : SFits w32 c.args.w.low = search rules in
    rw (to_z-of_z a, to_z-of_z b, n)

pub returns-in-2 : goal.returns-in-2
unfolding always
returns-in-2 c =
    let n : of_comparison c.args.c ≡ gt = sym c.from.ensures.0 ∙ ap comparison c.in-2.is in
    let a : SFits w32 c.args.w.high = search rules in
    let b : SFits w32 c.args.v.low = search rules in
    rw (to_z-of_z a, to_z-of_z b, n)

pub returns-in-3 : goal.returns-in-3
unfolding always
returns-in-3 c =
    let n : of_comparison c.args.c ≡ ge = sym c.from.ensures.0 ∙ ap comparison c.in-3.is in
    let a : SFits w32 c.args.w.high = search rules in
    let b : SFits w32 c.args.v.low = search rules in
    rw (to_z-of_z a, to_z-of_z b, n)

pub returns-then-v-w : goal.returns-then-v-w
unfolding always
returns-then-v-w c =
    let n : of_comparison c.args.c ≡ eq = sym c.from.ensures.0 ∙ ap comparison c.in-4.is in
    let a : SFits w32 c.args.v.high = search rules in
    let b : SFits w32 c.args.w.low = search rules in
    let d : SFits w32 c.args.w.high = search rules in
    let f : SFits w32 c.args.v.low = search rules in
    let e = simp (to_z-of_z a, to_z-of_z b) at c.if-v-w.true in
    rw (to_z-of_z d, to_z-of_z f, n, e)

pub returns-else-v-w : goal.returns-else-v-w
unfolding always
returns-else-v-w c =
    let n : of_comparison c.args.c ≡ eq = sym c.from.ensures.0 ∙ ap comparison c.in-4.is in
    let a : SFits w32 c.args.v.high = search rules in
    let b : SFits w32 c.args.w.low = search rules in
    let d : SFits w32 c.args.w.high = search rules in
    let f : SFits w32 c.args.v.low = search rules in
    let e = simp (to_z-of_z a, to_z-of_z b) at c.if-v-w.false in
    rw (to_z-of_z a, to_z-of_z b, n, e)

pub returns-then-v-w-2 : goal.returns-then-v-w-2
unfolding always
returns-then-v-w-2 c =
    let n : of_comparison c.args.c ≡ ne = sym c.from.ensures.0 ∙ last-comparison c.from.result (search rules) (search rules) (search rules) (search rules) (search rules) in
    let a : SFits w32 c.args.v.high = search rules in
    let b : SFits w32 c.args.w.low = search rules in
    let d : SFits w32 c.args.w.high = search rules in
    let f : SFits w32 c.args.v.low = search rules in
    let e = simp (to_z-of_z a, to_z-of_z b) at c.if-v-w-2.true in
    rw (to_z-of_z a, to_z-of_z b, n, not-le c.args.w.low c.args.v.high) (first _ _ (rw (not-le c.args.w.low c.args.v.high) at e))

pub returns-else-v-w-2 : goal.returns-else-v-w-2
unfolding always
returns-else-v-w-2 c =
    let n : of_comparison c.args.c ≡ ne = sym c.from.ensures.0 ∙ last-comparison c.from.result (search rules) (search rules) (search rules) (search rules) (search rules) in
    let a : SFits w32 c.args.v.high = search rules in
    let b : SFits w32 c.args.w.low = search rules in
    let d : SFits w32 c.args.w.high = search rules in
    let f : SFits w32 c.args.v.low = search rules in
    let e = simp (to_z-of_z a, to_z-of_z b) at c.if-v-w-2.false in
    rw (to_z-of_z d, to_z-of_z f, n, not-le c.args.v.low c.args.w.high) (second _ _ (rw (not-le c.args.w.low c.args.v.high) at e))
