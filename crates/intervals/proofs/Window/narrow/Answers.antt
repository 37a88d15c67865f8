use mathlib.Core.Path.{◌≡◌, sym, ap, ◌∙◌}
use mathlib.Core.Option.{none}
use lib.IntN.{ℤ}
use mir.Syntax.{w32}
use mir.Val.{to_z, of_z, SFits}
use mir.Facts.{to_z-of_z}
use borrow.Author.Rules.{rules}
use Rattle.semantics.specs.Int.{Cmp, lt, le, gt, ge, eq, ne}
use Rattle.semantics.specs.Program.{Window}
use Rattle.semantics.specs.Search.{to, decided, clip}
use Rattle.ints.specs.Meaning.{of_comparison}
use Rattle.ints.specs.Numbers.{comparison}
use Rattle.ints.proofs.Chosen.{last-comparison}
use Rattle.intervals.specs.Meaning.{of_window}
use Rattle.intervals.proofs.Window.narrow.Goals as goal

-- what an arm's method asks, and what it gives, where the comparison is the arm's
asked : {p q : Cmp} {k : ℤ} (w : Window) → SFits w32 k → q ≡ p → decided q w (to k k) ≡ none → decided p w (to (to_z w32 (of_z w32 k)) (to_z w32 (of_z w32 k))) ≡ none
asked w f e d = rw (to_z-of_z f, ← e) d

given : {p q : Cmp} {v : Window} {k : ℤ} (w : Window) → SFits w32 k → q ≡ p → v ≡ clip p (to_z w32 (of_z w32 k)) w → v ≡ clip q k w
given w f e g = rw e (rw (to_z-of_z f) at g)

pub below-requires : goal.below-requires
below-requires c =
    let e : of_comparison c.args.c ≡ lt = sym c.from.ensures.0 ∙ ap comparison c.in-0.is in
    asked (of_window c.args.self) c.ranges.k e c.requires

pub above-requires : goal.above-requires
above-requires c =
    let e : of_comparison c.args.c ≡ gt = sym c.from.ensures.0 ∙ ap comparison c.in-2.is in
    asked (of_window c.args.self) c.ranges.k e c.requires

pub only-requires : goal.only-requires
only-requires c =
    let e : of_comparison c.args.c ≡ eq = sym c.from.ensures.0 ∙ ap comparison c.in-4.is in
    asked (of_window c.args.self) c.ranges.k e c.requires

pub without-requires : goal.without-requires
without-requires c =
    let e : of_comparison c.args.c ≡ ne = sym c.from.ensures.0 ∙ last-comparison c.from.result (search rules) (search rules) (search rules) (search rules) (search rules) in
    asked (of_window c.args.self) c.ranges.k e c.requires

pub returns-in-0 : goal.returns-in-0
returns-in-0 c =
    let e : of_comparison c.args.c ≡ lt = sym c.from.ensures.0 ∙ ap comparison c.in-0.is in
    given (of_window c.args.self) c.ranges.k e c.below.ensures

pub returns-in-1 : goal.returns-in-1
returns-in-1 c =
    let e : of_comparison c.args.c ≡ le = sym c.from.ensures.0 ∙ ap comparison c.in-1.is in
    given (of_window c.args.self) c.ranges.k e c.at_most.ensures

pub returns-in-2 : goal.returns-in-2
returns-in-2 c =
    let e : of_comparison c.args.c ≡ gt = sym c.from.ensures.0 ∙ ap comparison c.in-2.is in
    given (of_window c.args.self) c.ranges.k e c.above.ensures

pub returns-in-3 : goal.returns-in-3
returns-in-3 c =
    let e : of_comparison c.args.c ≡ ge = sym c.from.ensures.0 ∙ ap comparison c.in-3.is in
    given (of_window c.args.self) c.ranges.k e c.at_least.ensures

pub returns-in-4 : goal.returns-in-4
returns-in-4 c =
    let e : of_comparison c.args.c ≡ eq = sym c.from.ensures.0 ∙ ap comparison c.in-4.is in
    given (of_window c.args.self) c.ranges.k e c.only.ensures

pub returns-in_default : goal.returns-in_default
returns-in_default c =
    let e : of_comparison c.args.c ≡ ne = sym c.from.ensures.0 ∙ last-comparison c.from.result (search rules) (search rules) (search rules) (search rules) (search rules) in
    given (of_window c.args.self) c.ranges.k e c.without.ensures
