use mathlib.Core.Path.{◌≡◌, sym, ap, ◌∙◌, subst}
use mathlib.Core.Option.{none}
use mir.Facts.{to_z-of_z}
use Rattle.semantics.specs.Search.{to, decided, clipped}
use Rattle.ints.specs.Meaning.{of_comparison}
use Rattle.narrowing.specs.declared.Side.{Side}
use Rattle.intervals.specs.Meaning.{of_pairs}
use Rattle.narrowing.specs.Meaning.{range_of, variable_of, AmongEight}
use Rattle.narrowing.proofs.Sides.{placed, free-clipped, other-clipped}
use Rattle.narrowing.proofs.narrow_side.Goals as goal

pub narrow_at-requires : goal.narrow_at-requires
narrow_at-requires c = (
  placed (subst AmongEight c.in-Free.is c.requires.0),
  rw (to_z-of_z c.ranges.k) (subst (λ (t : Side). decided (of_comparison c.args.c) (range_of (of_pairs c.args.ws) t) (to c.args.k c.args.k) ≡ none) c.in-Free.is c.requires.1),
)

pub returns-in-Free : goal.returns-in-Free
returns-in-Free c =
    rw (c.in-Free.is, ← free-clipped (of_comparison c.args.c) c.args.k c.in-Free.i (of_pairs c.args.ws)) (rw (to_z-of_z c.ranges.k) at c.narrow_at.ensures)

pub returns-in-Other : goal.returns-in-Other
returns-in-Other c =
    other-clipped (of_comparison c.args.c) c.args.k c.in-Other.field-0 (of_pairs c.args.ws)
    ∙ ap (λ (t : Side). clipped (of_comparison c.args.c) (variable_of t) (to c.args.k c.args.k) (of_pairs c.args.ws)) (sym c.in-Other.is)
