use Rattle.std.proofs.Common.{◌+◌, ◌≤◌}
use Rattle.syntax.specs.Ast.{Ast, prog}
use Rattle.syntax.specs.Table.{Holds}
use Rattle.events.proofs.Counting.{Rest}
use Rattle.compiler.proofs.Parts.{funs}
use Rattle.compiler.proofs.Resolved.functions.Given as goal

-- `functions` counts the way down the left children.
abbrev pub invariant-loop-j : goal.invariant-loop-j
invariant-loop-j l = (l.count + l.j ≤ l.i) × ((a : Ast prog) → Holds l.self.nodes l.i a → Rest funs l.self.nodes l.j l.count a)

abbrev pub decreases-loop-j : goal.decreases-loop-j
decreases-loop-j l = l.j
