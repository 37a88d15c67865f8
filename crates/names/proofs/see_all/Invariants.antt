use Rattle.text_rules.specs.Spelling.{same_in}
use mathlib.Core.List.{map}
use Rattle.text_rules.specs.Answers.{as_head}
use Rattle.names.proofs.Walks.{Walk}
use Rattle.names.proofs.see_all.Given as goal

abbrev pub invariant-loop-event : goal.invariant-loop-event
invariant-loop-event g l = Walk (same_in l.source) (map as_head l.heads) l.events l.initial.slots l.scopes l.slots l.best l.event-index
