-- The two ends of a condition, by the kind of its node.
use Prim.Native.Nat.{ℕ, ◌<◌}
use mathlib.Core.Path.{◌≡◌, refl, ap, ap₂, ◌∙◌, fun_ext}
use mathlib.Core.Bool.{Bool, true, false, ◌&&◌}
use mathlib.Core.List.{List}
use Rattle.std.proofs.Common.{Option}
use native.Mathlib.Omega.{arith}
use Rattle.syntax.specs.declared.node.Node.{Node}
use Rattle.syntax.specs.Fetch.{Fetched}
use Rattle.syntax.specs.Ast.{Sort, Ast, cond}
use Rattle.syntax.specs.Table.{At, n_always, n_never, n_compare, n_both, n_either, at-always, at-never, at-compare, at_both, at-either}
use Rattle.events.specs.Walk.{Rooted}
use Rattle.events.proofs.Nodes.{moved}
use Rattle.events.proofs.Laws.{rooted-child}
use Rattle.text_rules.specs.Answers.{least_with}
use Rattle.text_rules.specs.Assigned.{at_end, unset}
use Rattle.assignment.specs.Group.{only}
use Rattle.assignment.specs.Walk.{OfExpr, expression, slot_at, Read, Ended, Split}
use Rattle.assignment.proofs.Reading.{then-with, unset_in, Child, child}

-- a condition that is none of the others
pub compares : {l : List ℕ} {i k : ℕ} {c : Ast cond} → At l cond i k c → (k ≡ n_always → ⊥) → (k ≡ n_never → ⊥) → (k ≡ n_both → ⊥) → (k ≡ n_either → ⊥) → k ≡ n_compare
compares (at-always r) w x y z = absurd (w refl)
compares (at-never r) w x y z = absurd (x refl)
compares (at-compare r p q c e) w x y z = refl
compares (at_both r p q c e) w x y z = absurd (y refl)
compares (at-either r p q c e) w x y z = absurd (z refl)

-- ---- a node's parts

-- node a, below i, has a tree of the sort s
pub record Under (s : Sort) (l : List ℕ) (i a : ℕ) : Type 0 where
  pub falls : a < i
  pub rooted : Rooted s l a

pub under : {l : List ℕ} {s s₁ : Sort} {i a b k : ℕ} {x : Ast s₁} → Rooted s l i → b ≡ a → a < i → At l s₁ a k x → Under s₁ l i b
under R e lt c = record { falls = omega arith; rooted = rooted-child R (omega arith) (moved e c) }

pub both_first : {l : List ℕ} {i : ℕ} {n : Node} {c : Ast cond} → Fetched l i n → Rooted cond l i → At l cond i n_both c → Under cond l i n.first
both_first f R (at_both r p q c e) = under R (f.first ∙ r.first) p c

pub both-second : {l : List ℕ} {i : ℕ} {n : Node} {c : Ast cond} → Fetched l i n → Rooted cond l i → At l cond i n_both c → Under cond l i n.second
both-second f R (at_both r p q c e) = under R (f.second ∙ r.second) q e

pub either_first : {l : List ℕ} {i : ℕ} {n : Node} {c : Ast cond} → Fetched l i n → Rooted cond l i → At l cond i n_either c → Under cond l i n.first
either_first f R (at-either r p q c e) = under R (f.first ∙ r.first) p c

pub either_second : {l : List ℕ} {i : ℕ} {n : Node} {c : Ast cond} → Fetched l i n → Rooted cond l i → At l cond i n_either c → Under cond l i n.second
either_second f R (at-either r p q c e) = under R (f.second ∙ r.second) q e

pub compare-first : {l : List ℕ} {i : ℕ} {n : Node} {c : Ast cond} → Fetched l i n → Rooted cond l i → At l cond i n_compare c → Child OfExpr l i n.first
compare-first f R (at-compare r p q c e) = child R expression (f.first ∙ r.first) p c

pub compare-second : {l : List ℕ} {i : ℕ} {n : Node} {c : Ast cond} → Fetched l i n → Rooted cond l i → At l cond i n_compare c → Child OfExpr l i n.second
compare-second f R (at-compare r p q c e) = child R expression (f.second ∙ r.second) q e

-- ---- a node's ends

-- what is found depends only on what is said of each variable
pub read-then : (slots : List ℕ) {s : Sort} (t : Ast s) (p : Option ℕ) {f g : ℕ → Bool} {q : Option ℕ} → ((v : ℕ) → f v ≡ g v) → q ≡ least_with (unset (slot_at slots) t f) p
    → q ≡ least_with (unset (slot_at slots) t g) p
read-then slots t p e h = h ∙ ap (λ (w : ℕ → Bool). least_with (unset (slot_at slots) t w) p) (fun_ext e)

module _ (slots : List ℕ) (base : ℕ) (a : List Bool) where
  pub always-ends : {l : List ℕ} {i : ℕ} {n : List Bool} {c : Ast cond} (p : Option ℕ) → At l cond i n_always c → ((b v : ℕ) → only b n v ≡ true) → Ended slots base a p a n p c
  unfolding at_end unset least_with
  always-ends p (at-always r) e = record { yes = λ v. refl; no = e base; found = refl }

  pub never_ends : {l : List ℕ} {i : ℕ} {y : List Bool} {c : Ast cond} (p : Option ℕ) → At l cond i n_never c → ((b v : ℕ) → only b y v ≡ true) → Ended slots base a p y a p c
  unfolding at_end unset least_with
  never_ends p (at-never r) e = record { yes = e base; no = λ v. refl; found = refl }

  pub compare-ends : {l : List ℕ} {i : ℕ} {n : Node} {c : Ast cond} {p q r : Option ℕ} → Fetched l i n → At l cond i n_compare c → Read l n.first slots base a p q
      → Read l n.second slots base a q r → Ended slots base a p a a r c
  unfolding at_end unset
  compare-ends f (at-compare {x = x} {y = y} r o u c e) R S = record {
    yes = λ v. refl;
    no = λ v. refl;
    found = then-with (unset_in slots base a x) (unset_in slots base a y) _ (R.found expression x (moved (f.first ∙ r.first) c)) (S.found expression y (moved (f.second ∙ r.second) e));
  }

  pub both_ends : {l : List ℕ} {i : ℕ} {n : Node} {c : Ast cond} {p q r : Option ℕ} {y₁ n₁ y₂ n₂ m : List Bool} → Fetched l i n → At l cond i n_both c
      → Split l n.first slots base a p y₁ n₁ q → Split l n.second slots base y₁ q y₂ n₂ r → ((b v : ℕ) → only b m v ≡ (only b n₁ v && only b n₂ v)) → Ended slots base a p y₂ m r c
  unfolding at_end unset
  both_ends f (at_both {x = x} {y = y} r o u c e) S T h =
      let A = S.is x (moved (f.first ∙ r.first) c) in
      let B = T.is y (moved (f.second ∙ r.second) e) in
      record {
        yes = λ v. B.yes v ∙ ap (at_end y true) (A.yes v);
        no = λ v. h base v ∙ ap₂ ◌&&◌ (A.no v) (B.no v ∙ ap (at_end y false) (A.yes v));
        found = then-with (unset_in slots base a x) _ _ A.found (read-then slots y _ A.yes B.found);
      }

  pub either-ends : {l : List ℕ} {i : ℕ} {n : Node} {c : Ast cond} {p q r : Option ℕ} {y₁ n₁ y₂ n₂ m : List Bool} → Fetched l i n → At l cond i n_either c
      → Split l n.first slots base a p y₁ n₁ q → Split l n.second slots base n₁ q y₂ n₂ r → ((b v : ℕ) → only b m v ≡ (only b y₁ v && only b y₂ v)) → Ended slots base a p m n₂ r c
  unfolding at_end unset
  either-ends f (at-either {x = x} {y = y} r o u c e) S T h =
      let A = S.is x (moved (f.first ∙ r.first) c) in
      let B = T.is y (moved (f.second ∙ r.second) e) in
      record {
        yes = λ v. h base v ∙ ap₂ ◌&&◌ (A.yes v) (B.yes v ∙ ap (at_end y true) (A.no v));
        no = λ v. B.no v ∙ ap (at_end y false) (A.no v);
        found = then-with (unset_in slots base a x) _ _ A.found (read-then slots y _ A.no B.found);
      }
