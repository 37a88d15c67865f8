use Prim.Native.Nat.{◌≤◌, ◌+◌}
use Rattle.syntax.specs.Ast.{Ast, params}
use Rattle.syntax.specs.Fetch.{words_of}
use Rattle.syntax.specs.Table.{Holds}
use Rattle.events.proofs.Counting.{Rest}
use Rattle.text_rules.specs.Assigned.{parameter_count}
use Rattle.assignment.proofs.Walk.parameters.Given as goal

-- `parameters` counts the way down the left children.
abbrev pub invariant-loop-node : goal.invariant-loop-node
invariant-loop-node l = (l.count + l.j ≤ l.i) × ((a : Ast params) → Holds (words_of l.self.nodes.now) l.i a → Rest parameter_count (words_of l.self.nodes.now) l.j l.count a)

abbrev pub decreases-loop-node : goal.decreases-loop-node
decreases-loop-node l = l.j
