-- The count of a program's functions.
use Rattle.std.proofs.Common.{◌≡◌, ℕ, ◌<◌, List, refl, ◌∙◌, arith}
use Rattle.syntax.specs.declared.node.Node.{Node}
use Rattle.syntax.specs.Fetch.{Fetched}
use Rattle.syntax.specs.Ast.{Ast, prog}
use Rattle.syntax.specs.Table.{At, n_more_funs, at-no-funs, at-more-funs}
use Rattle.events.proofs.Nodes.{moved}
use Rattle.events.proofs.Counting.{Rest, Counts}
use Rattle.compiler.proofs.Parts.{funs}

fewer-functions : {l : List ℕ} {j : ℕ} {n : Node} {p : Ast prog} → Fetched l j n → At l prog j n_more_funs p → (n.first < j) × Rest funs l n.first 1 p
unfolding funs
fewer-functions f (at-more-funs {x = x} r p q c e) = (omega (arith, f.first, r.first), record { tree = x; holds = moved (f.first ∙ r.first) c; same = omega arith })

no-functions : {l : List ℕ} {j k : ℕ} {p : Ast prog} → (k ≡ n_more_funs → ⊥) → At l prog j k p → funs p ≡ 0
unfolding funs
no-functions never (at-no-funs r) = refl
no-functions never (at-more-funs r p q x y) = absurd (never refl)

pub counts-functions : Counts funs n_more_funs
counts-functions = record { shorter = fewer-functions; empty = no-functions }
