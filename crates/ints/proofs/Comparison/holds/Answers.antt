use borrow.Author.Rules.{rules}
use Rattle.std.proofs.Common.{◌≡◌, ap, not, sym, ◌∙◌, to_z-of_z}
use Rattle.semantics.specs.Int.{lt, le, gt, ge, eq, ne, holds}
use Rattle.ints.specs.Meaning.{of_comparison}
use Rattle.ints.specs.Numbers.{comparison}
use Rattle.ints.proofs.Chosen.{last-comparison}
use Rattle.ints.proofs.Fits.{eq-bits}
use Rattle.ints.proofs.Comparison.holds.Goals as goal

pub returns-in-0 : goal.returns-in-0
unfolding holds
returns-in-0 c =
    let e : of_comparison c.args.self ≡ lt = sym c.from.ensures.0 ∙ ap comparison c.in-0.is in
    rw (e, to_z-of_z c.ranges.x, to_z-of_z c.ranges.y)

pub returns-in-1 : goal.returns-in-1
unfolding holds
returns-in-1 c =
    let e : of_comparison c.args.self ≡ le = sym c.from.ensures.0 ∙ ap comparison c.in-1.is in
    rw (e, to_z-of_z c.ranges.x, to_z-of_z c.ranges.y)

pub returns-in-2 : goal.returns-in-2
unfolding holds
returns-in-2 c =
    let e : of_comparison c.args.self ≡ gt = sym c.from.ensures.0 ∙ ap comparison c.in-2.is in
    rw (e, to_z-of_z c.ranges.x, to_z-of_z c.ranges.y)

pub returns-in-3 : goal.returns-in-3
unfolding holds
returns-in-3 c =
    let e : of_comparison c.args.self ≡ ge = sym c.from.ensures.0 ∙ ap comparison c.in-3.is in
    rw (e, to_z-of_z c.ranges.x, to_z-of_z c.ranges.y)

pub returns-in-4 : goal.returns-in-4
unfolding holds
returns-in-4 c =
    let e : of_comparison c.args.self ≡ eq = sym c.from.ensures.0 ∙ ap comparison c.in-4.is in
    rw e (eq-bits c.args.x c.args.y c.ranges.x c.ranges.y)

pub returns-in_default : goal.returns-in_default
unfolding holds
returns-in_default c =
    let e : of_comparison c.args.self ≡ ne = sym c.from.ensures.0 ∙ last-comparison c.from.result (search rules) (search rules) (search rules) (search rules) (search rules) in
    rw e (ap not (eq-bits c.args.x c.args.y c.ranges.x c.ranges.y))
