use mathlib.Core.Path.{ap, ◌∙◌}
use lib.ListN.{set}
use mir.Facts.{to_z-of_z}
use Rattle.semantics.specs.Search.{clip}
use Rattle.ints.specs.Meaning.{of_comparison}
use Rattle.intervals.specs.Meaning.{of_pairs}
use Rattle.narrowing.proofs.Pairs.{pairs_set}
use Rattle.narrowing.proofs.narrow_at.Goals as goal

pub narrow-requires : goal.narrow-requires
narrow-requires c = rw (to_z-of_z c.ranges.k, c.window_at.ensures) c.requires.1

pub returns : goal.returns
returns c =
    ap of_pairs c.with_pair.ensures
    ∙ pairs_set c.args.ws c.args.i c.narrow.result
    ∙ ap (set (of_pairs c.args.ws) c.args.i) (rw (to_z-of_z c.ranges.k) at c.narrow.ensures ∙ ap (clip (of_comparison c.args.c) c.args.k) c.window_at.ensures)
