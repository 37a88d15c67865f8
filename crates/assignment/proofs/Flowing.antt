-- What is assigned after a statement, and what it reads, by the kind of its node.
use Prim.Native.Nat.{ℕ, ◌+◌}
use mathlib.Core.Path.{◌≡◌, refl, sym, ap, ap₂, subst, ◌∙◌}
use mathlib.Core.Logic.{◌⊎◌, inl, inr}
use mathlib.Core.Bool.{Bool, true, ◌&&◌, ◌||◌}
use mathlib.Core.List.{List}
use Rattle.std.proofs.Common.{Option}
use lib.Dec.{eqb}
use Rattle.syntax.specs.declared.node.Node.{Node}
use Rattle.syntax.specs.declared.node.NodeKind.{NodeKind}
use Rattle.syntax.specs.declared.node.NodeKind.TheVariants as kind
use Rattle.syntax.specs.NodeKinds.{node_number}
use Rattle.syntax.specs.Fetch.{Fetched}
use Rattle.syntax.specs.Ast.{Sort, Ast, cond}
use Rattle.syntax.specs.Table.{At, n_declare_free, n_declare_own, n_assign, n_eval, n_block, n_if_else, n_while, n_return, n_fail, n_more_stmts, n_braced, at-empty, at-declare, at-declare-free, at-declare-own, at-assign, at-eval, at_block, at-if-else, at-while, at_return, at-fail, at-no-stmts, at-more-stmts, at-braced}
use Rattle.events.specs.Walk.{Rooted}
use Rattle.events.proofs.Nodes.{moved}
use Rattle.text_rules.specs.Answers.{least_with}
use Rattle.text_rules.specs.Assigned.{after, unset}
use Rattle.assignment.specs.Group.{only}
use Rattle.assignment.specs.Walk.{OfExpr, expression, OfStmt, statement, OfRow, statements, braces, slot_at, Read, Split, Passed, Flowed}
use Rattle.assignment.proofs.Reading.{then-with, unset_in, Child, child}
use Rattle.assignment.proofs.Splitting.{Under, under, read-then}

-- ---- a node's parts

pub assign-child : {l : List ℕ} {s : Sort} {i : ℕ} {n : Node} {t : Ast s} → Fetched l i n → Rooted s l i → At l s i n_assign t → Child OfExpr l i n.first
assign-child f R (at-assign r p c) = child R expression (f.first ∙ r.first) p c

pub eval-child : {l : List ℕ} {s : Sort} {i : ℕ} {n : Node} {t : Ast s} → Fetched l i n → Rooted s l i → At l s i n_eval t → Child OfExpr l i n.first
eval-child f R (at-eval r p c) = child R expression (f.first ∙ r.first) p c

pub return-child : {l : List ℕ} {s : Sort} {i : ℕ} {n : Node} {t : Ast s} → Fetched l i n → Rooted s l i → At l s i n_return t → Child OfExpr l i n.first
return-child f R (at_return r p c) = child R expression (f.first ∙ r.first) p c

pub block-child : {l : List ℕ} {s : Sort} {i : ℕ} {n : Node} {t : Ast s} → Fetched l i n → Rooted s l i → At l s i n_block t → Child OfRow l i n.first
block-child f R (at_block r p c) = child R braces (f.first ∙ r.first) p c

pub braced-child : {l : List ℕ} {s : Sort} {i : ℕ} {n : Node} {t : Ast s} → Fetched l i n → Rooted s l i → At l s i n_braced t → Child OfRow l i n.first
braced-child f R (at-braced r p c) = child R statements (f.first ∙ r.first) p c

pub if-test : {l : List ℕ} {s : Sort} {i : ℕ} {n : Node} {t : Ast s} → Fetched l i n → Rooted s l i → At l s i n_if_else t → Under cond l i n.first
if-test f R (at-if-else r p q o c d e) = under R (f.first ∙ r.first) p c

pub if-first : {l : List ℕ} {s : Sort} {i : ℕ} {n : Node} {t : Ast s} → Fetched l i n → Rooted s l i → At l s i n_if_else t → Child OfStmt l i n.second
if-first f R (at-if-else r p q o c d e) = child R statement (f.second ∙ r.second) q d

pub if-second : {l : List ℕ} {s : Sort} {i : ℕ} {n : Node} {t : Ast s} → Fetched l i n → Rooted s l i → At l s i n_if_else t → Child OfStmt l i n.third
if-second f R (at-if-else r p q o c d e) = child R statement (f.third ∙ r.third) o e

pub while-test : {l : List ℕ} {s : Sort} {i : ℕ} {n : Node} {t : Ast s} → Fetched l i n → Rooted s l i → At l s i n_while t → Under cond l i n.first
while-test f R (at-while r p q c d) = under R (f.first ∙ r.first) p c

pub while-body : {l : List ℕ} {s : Sort} {i : ℕ} {n : Node} {t : Ast s} → Fetched l i n → Rooted s l i → At l s i n_while t → Child OfStmt l i n.second
while-body f R (at-while r p q c d) = child R statement (f.second ∙ r.second) q d

pub more-front : {l : List ℕ} {s : Sort} {i : ℕ} {n : Node} {t : Ast s} → Fetched l i n → Rooted s l i → At l s i n_more_stmts t → Child OfRow l i n.first
more-front f R (at-more-stmts r p q c d) = child R statements (f.first ∙ r.first) p c

pub more-last : {l : List ℕ} {s : Sort} {i : ℕ} {n : Node} {t : Ast s} → Fetched l i n → Rooted s l i → At l s i n_more_stmts t → Child OfStmt l i n.second
more-last f R (at-more-stmts r p q c d) = child R statement (f.second ∙ r.second) q d

-- ---- after a node

-- a free declaration, with a pair of its own or not
pub data Free : ℕ → Type 0 where
  plain : Free n_declare_free
  own : Free n_declare_own

pub free : {k : NodeKind} → (k ≡ kind.DeclareFree) ⊎ (k ≡ kind.DeclareOwn) → Free (node_number k)
free (inl e) = subst Free (sym (ap node_number e)) plain
free (inr e) = subst Free (sym (ap node_number e)) own

module _ (slots : List ℕ) (base : ℕ) (a : List Bool) where
  pub free-passed : {l : List ℕ} {s : Sort} {i k : ℕ} {t : Ast s} {n : Node} {w : ℕ} {b : List Bool} (p : Option ℕ) → Free k → Fetched l i n → At l s i k t → w ≡ slot_at slots (n.token + 1)
      → ((u : ℕ) → only base b u ≡ (eqb w u || only base a u)) → Passed slots base a p b p t
  unfolding after unset least_with
  free-passed p plain f (at-declare-free r) e h = record { set = λ v. h v ∙ ap (λ (x : ℕ). eqb x v || only base a v) (e ∙ ap (λ (j : ℕ). slot_at slots (j + 1)) (f.token ∙ r.token)); found = refl }
  free-passed p own f (at-declare-own r) e h = record { set = λ v. h v ∙ ap (λ (x : ℕ). eqb x v || only base a v) (e ∙ ap (λ (j : ℕ). slot_at slots (j + 1)) (f.token ∙ r.token)); found = refl }

  pub assign-passed : {l : List ℕ} {s : Sort} {i : ℕ} {t : Ast s} {n : Node} {w : ℕ} {b : List Bool} {p q : Option ℕ} → Fetched l i n → At l s i n_assign t → Read l n.first slots base a p q
      → w ≡ slot_at slots n.token → ((u : ℕ) → only base b u ≡ (eqb w u || only base a u)) → Passed slots base a p b q t
  unfolding after unset
  assign-passed f (at-assign {x = x} r o c) R e h = record {
    set = λ v. h v ∙ ap (λ (y : ℕ). eqb y v || only base a v) (e ∙ ap (slot_at slots) (f.token ∙ r.token));
    found = R.found expression x (moved (f.first ∙ r.first) c);
  }

  pub eval-passed : {l : List ℕ} {s : Sort} {i : ℕ} {t : Ast s} {n : Node} {p q : Option ℕ} → Fetched l i n → At l s i n_eval t → Read l n.first slots base a p q → Passed slots base a p a q t
  unfolding after unset
  eval-passed f (at-eval {x = x} r o c) R = record { set = λ v. refl; found = R.found expression x (moved (f.first ∙ r.first) c) }

  pub return-passed : {l : List ℕ} {s : Sort} {i : ℕ} {t : Ast s} {n : Node} {b : List Bool} {p q : Option ℕ} → Fetched l i n → At l s i n_return t → Read l n.first slots base a p q
      → ((c v : ℕ) → only c b v ≡ true) → Passed slots base a p b q t
  unfolding after unset
  return-passed f (at_return {x = x} r o c) R h = record { set = h base; found = R.found expression x (moved (f.first ∙ r.first) c) }

  pub fail-passed : {l : List ℕ} {s : Sort} {i : ℕ} {t : Ast s} {b : List Bool} (p : Option ℕ) → At l s i n_fail t → ((c v : ℕ) → only c b v ≡ true) → Passed slots base a p b p t
  unfolding after unset least_with
  fail-passed p (at-fail r) h = record { set = h base; found = refl }

  pub block-passed : {l : List ℕ} {s : Sort} {i : ℕ} {t : Ast s} {n : Node} {b : List Bool} {p q : Option ℕ} → Fetched l i n → At l s i n_block t → Flowed OfRow l n.first slots base a p b q
      → Passed slots base a p b q t
  unfolding after unset
  block-passed f (at_block {x = x} r o c) S = let A = S.is braces x (moved (f.first ∙ r.first) c) in record { set = A.set; found = A.found }

  pub braced-passed : {l : List ℕ} {s : Sort} {i : ℕ} {t : Ast s} {n : Node} {b : List Bool} {p q : Option ℕ} → Fetched l i n → At l s i n_braced t
      → Flowed OfRow l n.first slots base a p b q → Passed slots base a p b q t
  unfolding after unset
  braced-passed f (at-braced {x = x} r o c) S = let A = S.is statements x (moved (f.first ∙ r.first) c) in record { set = A.set; found = A.found }

  pub if-passed : {l : List ℕ} {s : Sort} {i : ℕ} {t : Ast s} {n : Node} {y m b₁ b₂ b : List Bool} {p q r z : Option ℕ} → Fetched l i n → At l s i n_if_else t
      → Split l n.first slots base a p y m q → Flowed OfStmt l n.second slots base y q b₁ r → Flowed OfStmt l n.third slots base m r b₂ z
      → ((c v : ℕ) → only c b v ≡ (only c b₁ v && only c b₂ v)) → Passed slots base a p b z t
  unfolding after unset
  if-passed f (at-if-else {x = x} {y = y} {z = z} r _ _ _ c d e) S T U h =
      let A = S.is x (moved (f.first ∙ r.first) c) in
      let B = T.is statement y (moved (f.second ∙ r.second) d) in
      let C = U.is statement z (moved (f.third ∙ r.third) e) in
      record {
        set = λ v. h base v ∙ ap₂ ◌&&◌ (B.set v ∙ ap (after (slot_at slots) v y) (A.yes v)) (C.set v ∙ ap (after (slot_at slots) v z) (A.no v));
        found = then-with _ _ _ (then-with (unset_in slots base a x) _ _ A.found (read-then slots y _ A.yes B.found)) (read-then slots z _ A.no C.found);
      }

  pub while-passed : {l : List ℕ} {s : Sort} {i : ℕ} {t : Ast s} {n : Node} {y m b : List Bool} {p q r : Option ℕ} → Fetched l i n → At l s i n_while t → Split l n.first slots base a p y m q
      → Flowed OfStmt l n.second slots base y q b r → Passed slots base a p m r t
  unfolding after unset
  while-passed f (at-while {x = x} {y = y} r _ _ c d) S T =
      let A = S.is x (moved (f.first ∙ r.first) c) in
      let B = T.is statement y (moved (f.second ∙ r.second) d) in
      record { set = A.no; found = then-with (unset_in slots base a x) _ _ A.found (read-then slots y _ A.yes B.found) }

  pub more-passed : {l : List ℕ} {s : Sort} {i : ℕ} {t : Ast s} {n : Node} {b₁ b : List Bool} {p q r : Option ℕ} → Fetched l i n → At l s i n_more_stmts t
      → Flowed OfRow l n.first slots base a p b₁ q → Flowed OfStmt l n.second slots base b₁ q b r → Passed slots base a p b r t
  unfolding after unset
  more-passed f (at-more-stmts {x = x} {y = y} r _ _ c d) S T =
      let A = S.is statements x (moved (f.first ∙ r.first) c) in
      let B = T.is statement y (moved (f.second ∙ r.second) d) in
      record { set = λ v. B.set v ∙ ap (after (slot_at slots) v y) (A.set v); found = then-with (unset_in slots base a x) _ _ A.found (read-then slots y _ A.set B.found) }

  pub nothing-passed : {l : List ℕ} {s : Sort} {i k : ℕ} {t : Ast s} (p : Option ℕ) → OfStmt s → At l s i k t → (k ≡ n_declare_free → ⊥) → (k ≡ n_assign → ⊥) → (k ≡ n_eval → ⊥) → (k ≡ n_block → ⊥)
      → (k ≡ n_if_else → ⊥) → (k ≡ n_while → ⊥) → (k ≡ n_return → ⊥) → (k ≡ n_fail → ⊥) → (k ≡ n_declare_own → ⊥) → Passed slots base a p a p t
  unfolding after unset least_with
  nothing-passed p statement (at-empty r) _ _ _ _ _ _ _ _ _ = record { set = λ v. refl; found = refl }
  nothing-passed p statement (at-declare r) _ _ _ _ _ _ _ _ _ = record { set = λ v. refl; found = refl }
  nothing-passed p statement (at-declare-free r) x _ _ _ _ _ _ _ _ = absurd (x refl)
  nothing-passed p statement (at-declare-own r) _ _ _ _ _ _ _ _ x = absurd (x refl)
  nothing-passed p statement (at-assign r o c) _ x _ _ _ _ _ _ _ = absurd (x refl)
  nothing-passed p statement (at-eval r o c) _ _ x _ _ _ _ _ _ = absurd (x refl)
  nothing-passed p statement (at_block r o c) _ _ _ x _ _ _ _ _ = absurd (x refl)
  nothing-passed p statement (at-if-else r o u w c d e) _ _ _ _ x _ _ _ _ = absurd (x refl)
  nothing-passed p statement (at-while r o u c d) _ _ _ _ _ x _ _ _ = absurd (x refl)
  nothing-passed p statement (at_return r o c) _ _ _ _ _ _ x _ _ = absurd (x refl)
  nothing-passed p statement (at-fail r) _ _ _ _ _ _ _ x _ = absurd (x refl)

  pub no-more-passed : {l : List ℕ} {s : Sort} {i k : ℕ} {t : Ast s} (p : Option ℕ) → OfRow s → At l s i k t → (k ≡ n_braced → ⊥) → (k ≡ n_more_stmts → ⊥) → Passed slots base a p a p t
  unfolding after unset least_with
  no-more-passed p statements (at-no-stmts r) _ _ = record { set = λ v. refl; found = refl }
  no-more-passed p statements (at-more-stmts r o u c d) _ x = absurd (x refl)
  no-more-passed p braces (at-braced r o c) x _ = absurd (x refl)
