use mathlib.Core.Path.{◌≡◌}
use mathlib.Core.List.{map}
use Rattle.text_rules.specs.Scan.{least}
use Rattle.text_rules.specs.Rules.{mains, with_parameters}
use Rattle.text_rules.specs.Spelling.{main_in}
use Rattle.text_rules.specs.Answers.{as_head}
use Rattle.text_rules.proofs.Functions.{main_ahead}
use Rattle.breaches.proofs.mains.mains_with.Given as goal

-- The loop over the functions: what was found so far, with what the rest gives, stays the same.
abbrev pub invariant-loop-head : goal.invariant-loop-head
invariant-loop-head l = main_ahead (main_in l.source) l.head-items l.head-index l.best ≡ least (with_parameters (mains (main_in l.source) (map as_head l.head-items)))
