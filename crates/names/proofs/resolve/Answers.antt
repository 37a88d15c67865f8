use mathlib.Core.Path.{ap}
use mathlib.Core.List.{map}
use native.Mathlib.Omega.{arith}
use lib.ListN.{length, length-map}
use Rattle.events.specs.Read.{as_event}
use Rattle.text_rules.specs.Answers.{as_head}
use Rattle.text_rules.specs.Spelling.{same_in}
use Rattle.names.proofs.Walks.{heads-fewer}
use Rattle.names.proofs.Merging.{judged}
use Rattle.names.proofs.resolve.Goals as goal

pub see_all-best-requires-clause-heads : goal.see_all-best-requires-clause-heads
see_all-best-requires-clause-heads g c =
    omega (arith, ap length c.requires.heads, length-map c.args.heads.now as_head, length-map c.args.events.now as_event, heads-fewer (map as_event c.args.events.now), c.requires.events, c.requires.size)

pub returns : goal.returns
returns g c = judged (same_in c.args.source.now) _ _ _ c.requires.heads c.see_all-best.ensures c.repeats.ensures
