use Prim.Native.Nat.{◌≤◌, ◌+◌}
use Rattle.syntax.specs.Ast.{Ast, args}
use Rattle.syntax.specs.Table.{Holds}
use Rattle.events.specs.Event.{count}
use Rattle.events.proofs.Counting.{Rest}
use Rattle.events.proofs.arity.Given as goal

-- `arity` counts the way down the left children.
abbrev pub invariant-loop-node : goal.invariant-loop-node
invariant-loop-node l = (l.count + l.j ≤ l.i) × ((a : Ast args) → Holds l.nodes l.i a → Rest count l.nodes l.j l.count a)

abbrev pub decreases-loop-node : goal.decreases-loop-node
decreases-loop-node l = l.j
