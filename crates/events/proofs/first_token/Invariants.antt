use Prim.Native.Nat.{◌≤◌}
use Rattle.syntax.specs.Ast.{Ast, expr}
use Rattle.syntax.specs.Table.{Holds}
use Rattle.events.proofs.Steps.{Left}
use Rattle.events.proofs.first_token.Given as goal

-- `first_token` goes down the left children.
abbrev pub invariant-loop-j : goal.invariant-loop-j
invariant-loop-j l = (l.j ≤ l.i) × ((e : Ast expr) → Holds l.nodes l.i e → Left l.nodes l.j e)

abbrev pub decreases-loop-j : goal.decreases-loop-j
decreases-loop-j l = l.j
