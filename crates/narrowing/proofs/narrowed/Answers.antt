use mathlib.Core.Path.{◌≡◌, sym, ap, ap₂, ◌∙◌, subst}
use mathlib.Core.Option.{none}
use mathlib.Core.List.{List}
use mir.Syntax.{w32}
use mir.Val.{SFits}
use mir.Facts.{to_z-of_z}
use borrow.Author.Rules.{rules}
use Rattle.semantics.specs.Program.{Window}
use Rattle.semantics.specs.Search.{mirrored, decided, clipped}
use Rattle.ints.specs.Meaning.{of_comparison}
use Rattle.ints.proofs.Fits.{same_bits, other-bits}
use Rattle.intervals.specs.Meaning.{of_window, of_pairs}
use Rattle.narrowing.specs.Meaning.{range_of, variable_of}
use Rattle.narrowing.proofs.Sides.{left-narrows, right-narrows, none-narrows, asked-left, asked-right}
use Rattle.narrowing.proofs.narrowed.Goals as goal

pub narrow_side-requires : goal.narrow_side-requires
narrow_side-requires c =
    let p = of_comparison c.args.c in
    let ws = of_pairs c.args.ws in
    let l : SFits w32 c.range_of-w.result.low = search rules in
    let h : SFits w32 c.range_of-w.result.high = search rules in
    let d : decided p (range_of ws c.args.a) (of_window c.range_of-w.result) ≡ none = subst (λ (u : Window). decided p (range_of ws c.args.a) u ≡ none) (sym c.range_of-w.ensures) c.requires.undecided in
    (search rules, rw (to_z-of_z l) (asked-left p (range_of ws c.args.a) (of_window c.range_of-w.result) d (same_bits l h c.if-w.true)))

pub returns-then-w : goal.returns-then-w
returns-then-w c =
    let p = of_comparison c.args.c in
    let ws = of_pairs c.args.ws in
    let both : Window → Window → List Window = λ u t. clipped (mirrored p) (variable_of c.args.b) u (clipped p (variable_of c.args.a) t ws) in
    let l : SFits w32 c.range_of-w.result.low = search rules in
    let h : SFits w32 c.range_of-w.result.high = search rules in
    let d : decided p (range_of ws c.args.a) (of_window c.range_of-w.result) ≡ none = subst (λ (u : Window). decided p (range_of ws c.args.a) u ≡ none) (sym c.range_of-w.ensures) c.requires.undecided in
    rw (to_z-of_z l) at c.narrow_side.ensures
    ∙ left-narrows p ws (variable_of c.args.a) (variable_of c.args.b) (range_of ws c.args.a) (of_window c.range_of-w.result) d (same_bits l h c.if-w.true)
    ∙ ap (λ (u : Window). both (range_of ws c.args.a) u) c.range_of-w.ensures

pub narrow_side-requires-then-v : goal.narrow_side-requires-then-v
narrow_side-requires-then-v c =
    let p = of_comparison c.args.c in
    let ws = of_pairs c.args.ws in
    let l : SFits w32 c.range_of-w.result.low = search rules in
    let h : SFits w32 c.range_of-w.result.high = search rules in
    let f : SFits w32 c.range_of-v.result.low = search rules in
    let g : SFits w32 c.range_of-v.result.high = search rules in
    let d : decided p (of_window c.range_of-v.result) (range_of ws c.args.b) ≡ none = subst (λ (u : Window). decided p u (range_of ws c.args.b) ≡ none) (sym c.range_of-v.ensures) c.requires.undecided in
    (search rules, rw (to_z-of_z f, c.mirrored.ensures) (asked-right p (of_window c.range_of-v.result) (range_of ws c.args.b) d (same_bits f g c.if-v.true)))

pub returns-then-v : goal.returns-then-v
returns-then-v c =
    let p = of_comparison c.args.c in
    let ws = of_pairs c.args.ws in
    let both : Window → Window → List Window = λ u t. clipped (mirrored p) (variable_of c.args.b) u (clipped p (variable_of c.args.a) t ws) in
    let l : SFits w32 c.range_of-w.result.low = search rules in
    let h : SFits w32 c.range_of-w.result.high = search rules in
    let f : SFits w32 c.range_of-v.result.low = search rules in
    let g : SFits w32 c.range_of-v.result.high = search rules in
    rw (to_z-of_z f, c.mirrored.ensures) at c.narrow_side-then-v.ensures
    ∙ right-narrows p ws (variable_of c.args.a) (variable_of c.args.b) (of_window c.range_of-v.result) (of_window c.range_of-w.result) (other-bits c.range_of-w.result.low c.range_of-w.result.high l h c.if-w.false) (same_bits f g c.if-v.true)
    ∙ ap₂ both c.range_of-v.ensures c.range_of-w.ensures

pub returns : goal.returns
returns c =
    let p = of_comparison c.args.c in
    let ws = of_pairs c.args.ws in
    let both : Window → Window → List Window = λ u t. clipped (mirrored p) (variable_of c.args.b) u (clipped p (variable_of c.args.a) t ws) in
    let l : SFits w32 c.range_of-w.result.low = search rules in
    let h : SFits w32 c.range_of-w.result.high = search rules in
    let f : SFits w32 c.range_of-v.result.low = search rules in
    let g : SFits w32 c.range_of-v.result.high = search rules in
    none-narrows p ws (variable_of c.args.a) (variable_of c.args.b) (of_window c.range_of-v.result) (of_window c.range_of-w.result) (other-bits c.range_of-w.result.low c.range_of-w.result.high l h c.if-w.false) (other-bits c.range_of-v.result.low c.range_of-v.result.high f g c.if-v.false)
    ∙ ap₂ both c.range_of-v.ensures c.range_of-w.ensures
