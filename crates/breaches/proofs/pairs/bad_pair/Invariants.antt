use mathlib.Core.Path.{◌≡◌}
use Rattle.text_rules.specs.Scan.{least}
use Rattle.text_rules.specs.Answers.{least_with}
use Rattle.breaches.specs.Pairs.{wide_rule, breaches_from}
use Rattle.breaches.proofs.pairs.bad_pair.Given as goal

-- The loop over the tokens: what was found so far, with what the rest gives, stays the same.
abbrev pub invariant-loop-i : goal.invariant-loop-i
invariant-loop-i l = least_with (breaches_from l.source.kinds l.source.values (wide_rule l.rule) l.i) l.best ≡ least (breaches_from l.source.kinds l.source.values (wide_rule l.rule) 0)
