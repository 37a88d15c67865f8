use mathlib.Core.Path.{◌≡◌}
use Rattle.syntax.specs.Ast.{Ast, prog}
use Rattle.syntax.specs.Fetch.{words_of}
use Rattle.syntax.specs.Table.{Holds}
use Rattle.text_rules.specs.Scan.{least}
use Rattle.text_rules.specs.Assigned.{unassigned}
use Rattle.assignment.specs.Walk.{slot_at}
use Rattle.assignment.proofs.Gathering.{up_to}
use Rattle.assignment.proofs.unassigned.Given as goal

-- `unassigned`: the groups below `base` are done, and no variable is past the last one.
abbrev pub invariant-loop-base : goal.invariant-loop-base
invariant-loop-base l = (p : Ast prog) → Holds (words_of l.nodes) l.root p → l.best ≡ least (up_to (slot_at l.slots) l.base (unassigned (slot_at l.slots) p))
