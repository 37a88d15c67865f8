use mathlib.Core.Path.{◌≡◌}
use mathlib.Core.List.{[], map}
use Rattle.text_rules.specs.Spelling.{same_in}
use Rattle.text_rules.specs.Names.{repeated}
use Rattle.text_rules.specs.Answers.{as_head, least_with}
use Rattle.names.proofs.Walks.{repeats_ahead}
use Rattle.names.proofs.repeats.Given as goal

abbrev pub invariant-loop-k : goal.invariant-loop-k
invariant-loop-k l = repeats_ahead (same_in l.source) l.heads l.k l.best ≡ least_with (repeated (same_in l.source) [] (map as_head l.heads)) l.fn.before
