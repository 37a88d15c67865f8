-- The count of a function's parameters.
use Prim.Native.Nat.{ℕ, ◌<◌}
use mathlib.Core.Path.{◌≡◌, refl, ◌∙◌}
use mathlib.Core.List.{List}
use native.Mathlib.Omega.{arith}
use Rattle.syntax.specs.declared.node.Node.{Node}
use Rattle.syntax.specs.Fetch.{Fetched}
use Rattle.syntax.specs.Ast.{Ast, params}
use Rattle.syntax.specs.Table.{At, n_more_params, at-no-params, at-more-params}
use Rattle.events.proofs.Nodes.{moved}
use Rattle.events.proofs.Counting.{Rest, Counts}
use Rattle.text_rules.specs.Assigned.{parameter_count}

fewer-parameters : {l : List ℕ} {j : ℕ} {n : Node} {a : Ast params} → Fetched l j n → At l params j n_more_params a → (n.first < j) × Rest parameter_count l n.first 1 a
unfolding parameter_count
fewer-parameters f (at-more-params {x = x} r p c) = (omega (arith, f.first, r.first), record { tree = x; holds = moved (f.first ∙ r.first) c; same = omega arith })

no-parameters : {l : List ℕ} {j k : ℕ} {a : Ast params} → (k ≡ n_more_params → ⊥) → At l params j k a → parameter_count a ≡ 0
unfolding parameter_count
no-parameters other (at-no-params r) = refl
no-parameters other (at-more-params r p x) = absurd (other refl)

pub counts-parameters : Counts parameter_count n_more_params
counts-parameters = record { shorter = fewer-parameters; empty = no-parameters }
