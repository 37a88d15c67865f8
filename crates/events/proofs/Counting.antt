-- Counting the items of a list in the tree: a list is empty, or a shorter one and an item more, and then the first part of its node is the shorter one.
use Prim.Native.Nat.{ℕ, ◌+◌, ◌<◌}
use mathlib.Core.Path.{◌≡◌, refl}
use mathlib.Core.List.{List}
use native.Mathlib.Omega.{arith}
use Rattle.syntax.specs.declared.node.Node.{Node}
use Rattle.syntax.specs.NodeKinds.{node_number}
use Rattle.syntax.specs.Fetch.{Fetched}
use Rattle.syntax.specs.Ast.{Sort, Ast}
use Rattle.syntax.specs.Table.{At, Holds}
use Rattle.events.proofs.Nodes.{at-kind}

module _ {s : Sort} (count : Ast s → ℕ) where
  -- the count of a is c and that of the tree at node j
  pub record Rest (l : List ℕ) (j c : ℕ) (a : Ast s) : Type 0 where
    pub tree : Ast s
    pub holds : Holds l j tree
    pub same : count a ≡ c + count tree

  -- `more` is the kind of a node with an item more than its first part; a node of another kind has none
  pub record Counts (more : ℕ) : Type 0 where
    pub shorter : {l : List ℕ} {j : ℕ} {n : Node} {a : Ast s} → Fetched l j n → At l s j more a → (n.first < j) × Rest l n.first 1 a
    pub empty : {l : List ℕ} {j k : ℕ} {a : Ast s} → (k ≡ more → ⊥) → At l s j k a → count a ≡ 0

module _ {s : Sort} {count : Ast s → ℕ} {more : ℕ} (counts : Counts count more) where
  pub rest-step : {l : List ℕ} {j c : ℕ} {n : Node} {a : Ast s} → node_number n.kind ≡ more → Fetched l j n → Rest count l j c a → (n.first < j) × Rest count l n.first (c + 1) a
  rest-step e f v =
      let w = counts.shorter f (at-kind more f e v.holds) in
      (w.0, record { tree = w.1.tree; holds = w.1.holds; same = omega (arith, v.same, w.1.same) })

  pub rest-none : {l : List ℕ} {j c : ℕ} {n : Node} {a : Ast s} → (node_number n.kind ≡ more → ⊥) → Fetched l j n → Rest count l j c a → c ≡ count a
  rest-none {n = n} other f v = omega (arith, v.same, counts.empty other (at-kind (node_number n.kind) f refl v.holds))
