-- What breaks the rule in a function and in a program, by the kind of its node.
use Prim.Native.Nat.{ℕ}
use mathlib.Core.Path.{◌≡◌, refl, sym, ap, ◌∙◌}
use mathlib.Core.Bool.{Bool, false}
use mathlib.Core.List.{List}
use Rattle.std.proofs.Common.{Option}
use native.Mathlib.Omega.{arith}
use lib.Dec.{ltb}
use Rattle.syntax.specs.declared.node.Node.{Node}
use Rattle.syntax.specs.Fetch.{Fetched}
use Rattle.syntax.specs.Ast.{Sort, Ast, params, fun, prog}
use Rattle.syntax.specs.Table.{At, n_more_funs, at-function, at-no-funs, at-more-funs}
use Rattle.events.specs.Walk.{Rooted}
use Rattle.events.proofs.Nodes.{moved}
use Rattle.text_rules.specs.Answers.{least_with}
use Rattle.text_rules.specs.Assigned.{unset}
use Rattle.assignment.specs.Group.{within, only, of_group}
use Rattle.assignment.specs.Walk.{OfRow, braces, slot_at, Counted, Flowed, Finds}
use Rattle.assignment.proofs.Reading.{then-with, Child, child}
use Rattle.assignment.proofs.Splitting.{Under, under, read-then}
use Rattle.assignment.proofs.Gathering.{of-append, group-unset}

pub function-parameters : {l : List ℕ} {i k : ℕ} {n : Node} {t : Ast fun} → Fetched l i n → Rooted fun l i → At l fun i k t → Under params l i n.first
function-parameters f R (at-function r p q c e) = under R (f.first ∙ r.first) p c

pub function-body : {l : List ℕ} {i k : ℕ} {n : Node} {t : Ast fun} → Fetched l i n → Rooted fun l i → At l fun i k t → Child OfRow l i n.second
function-body f R (at-function r p q c e) = child R braces (f.second ∙ r.second) q e

pub more-functions : {l : List ℕ} {i : ℕ} {n : Node} {t : Ast prog} → Fetched l i n → Rooted prog l i → At l prog i n_more_funs t → Under prog l i n.first
more-functions f R (at-more-funs r p q c e) = under R (f.first ∙ r.first) p c

pub last-function : {l : List ℕ} {i : ℕ} {n : Node} {t : Ast prog} → Fetched l i n → Rooted prog l i → At l prog i n_more_funs t → Under fun l i n.second
last-function f R (at-more-funs r p q c e) = under R (f.second ∙ r.second) q e

module _ (slots : List ℕ) (base : ℕ) where
  -- what breaks the rule in a tree, of the group
  abbrev ours : {s : Sort} → Ast s → List ℕ
  ours t = of_group (slot_at slots) base (unset (slot_at slots) t (λ v. false))

  pub function-found : {l : List ℕ} {i k m : ℕ} {n : Node} {t : Ast fun} {a b : List Bool} {p q : Option ℕ} → Fetched l i n → At l fun i k t → Counted l n.first m
      → ((v : ℕ) → only base a v ≡ within base (λ u. ltb u m) v) → Flowed OfRow l n.second slots base a p b q → q ≡ least_with (ours t) p
  unfolding unset
  function-found {p = p} f (at-function {x = x} {y = y} r _ _ c e) N h F =
      let A = F.is braces y (moved (f.second ∙ r.second) e) in
      read-then slots y p (λ v. h v ∙ ap (λ (z : ℕ). within base (λ u. ltb u z) v) (N.is x (moved (f.first ∙ r.first) c))) A.found
      ∙ ap (λ (z : List ℕ). least_with z p) (group-unset (slot_at slots) base y (omega arith) _)

  pub none_found : {l : List ℕ} {i k : ℕ} {t : Ast prog} (p : Option ℕ) → (k ≡ n_more_funs → ⊥) → At l prog i k t → p ≡ least_with (ours t) p
  unfolding unset of_group least_with
  none_found p other (at-no-funs r) = refl
  none_found p other (at-more-funs r _ _ c e) = absurd (other refl)

  pub more-found : {l : List ℕ} {i : ℕ} {n : Node} {t : Ast prog} {p q r : Option ℕ} → Fetched l i n → At l prog i n_more_funs t → Finds prog l n.first slots base p q
      → Finds fun l n.second slots base q r → r ≡ least_with (ours t) p
  unfolding unset
  more-found {p = p} f (at-more-funs {x = x} {y = y} r _ _ c e) S T = then-with (ours x) (ours y) p (S.found x (moved (f.first ∙ r.first) c))
      (T.found y (moved (f.second ∙ r.second) e)) ∙ ap (λ (z : List ℕ). least_with z p) (sym (of-append (slot_at slots) base _ _))
