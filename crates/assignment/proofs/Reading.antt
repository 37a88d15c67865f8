-- What an expression and arguments read, by the kind of their node.
use Prim.Native.Nat.{ℕ, ◌<◌}
use mathlib.Core.Path.{◌≡◌, refl, sym, ap, subst, ◌∙◌}
use mathlib.Core.Bool.{Bool, true, false}
use mathlib.Core.List.{List, ◌++◌}
use Rattle.std.proofs.Common.{Option}
use mathlib.Core.Logic.{◌⊎◌, inl, inr}
use native.Mathlib.Omega.{arith}
use Rattle.syntax.specs.declared.node.Node.{Node}
use Rattle.syntax.specs.declared.node.NodeKind.{NodeKind}
use Rattle.syntax.specs.declared.node.NodeKind.TheVariants as kind
use Rattle.syntax.specs.NodeKinds.{node_number}
use Rattle.syntax.specs.Fetch.{Fetched}
use Rattle.syntax.specs.Ast.{Sort, Ast}
use Rattle.syntax.specs.Table.{At, n_name, n_call, n_bracket, n_times, n_plus, n_minus, n_more_args, at-number, at-negative, at_name, at_call, at_bracket, at-times, at-plus, at-minus, at_no_args, at-more-args}
use Rattle.events.specs.Walk.{Rooted}
use Rattle.events.proofs.Nodes.{moved}
use Rattle.events.proofs.Laws.{rooted-child}
use Rattle.text_rules.specs.Scan.{lesser}
use Rattle.text_rules.specs.Answers.{least_with}
use Rattle.text_rules.specs.Assigned.{unset}
use Rattle.text_rules.proofs.Scans.{with_append}
use Rattle.assignment.specs.Group.{only}
use Rattle.assignment.specs.Walk.{OfExpr, expression, arguments, PartAt, slot_at, Read}

-- one list after the other
pub then-with : (xs ys : List ℕ) (p : Option ℕ) {q r : Option ℕ} → q ≡ least_with xs p → r ≡ least_with ys q → r ≡ least_with (xs ++ ys) p
then-with xs ys p e f = f ∙ ap (least_with ys) e ∙ sym (with_append xs ys p)

-- ---- the kinds with one part and with two

pub data Single : ℕ → Type 0 where
  call : Single n_call
  bracket : Single n_bracket

pub data Double : ℕ → Type 0 where
  times : Double n_times
  plus : Double n_plus
  minus : Double n_minus
  more : Double n_more_args

pub single : {k : NodeKind} → (k ≡ kind.Call) ⊎ (k ≡ kind.Bracket) → Single (node_number k)
single (inl e) = subst Single (sym (ap node_number e)) call
single (inr e) = subst Single (sym (ap node_number e)) bracket

pub double : {k : NodeKind} → (k ≡ kind.Times) ⊎ ((k ≡ kind.Plus) ⊎ ((k ≡ kind.Minus) ⊎ (k ≡ kind.MoreArgs))) → Double (node_number k)
double (inl e) = subst Double (sym (ap node_number e)) times
double (inr (inl e)) = subst Double (sym (ap node_number e)) plus
double (inr (inr (inl e))) = subst Double (sym (ap node_number e)) minus
double (inr (inr (inr e))) = subst Double (sym (ap node_number e)) more

pub not-single : {k : ℕ} → (k ≡ n_call → ⊥) → (k ≡ n_bracket → ⊥) → Single k → ⊥
not-single n0 _ call = n0 refl
not-single _ n1 bracket = n1 refl

pub not-double : {k : ℕ} → (k ≡ n_times → ⊥) → (k ≡ n_plus → ⊥) → (k ≡ n_minus → ⊥) → (k ≡ n_more_args → ⊥) → Double k → ⊥
not-double n0 _ _ _ times = n0 refl
not-double _ n1 _ _ plus = n1 refl
not-double _ _ n2 _ minus = n2 refl
not-double _ _ _ n3 more = n3 refl

-- ---- a node's parts

-- node a, below i, has a part of such a sort
pub record Child (Of : Sort → Type 0) (l : List ℕ) (i a : ℕ) : Type 0 where
  pub falls : a < i
  pub at : PartAt Of l a

pub child : {Of : Sort → Type 0} {l : List ℕ} {s s₁ : Sort} {i a b k : ℕ} {x : Ast s₁} → Rooted s l i → Of s₁ → b ≡ a → a < i → At l s₁ a k x → Child Of l i b
child {s₁ = s₁} R o e lt c = record { falls = omega arith; at = record { sort = s₁; part = o; rooted = rooted-child R (omega arith) (moved e c) } }

pub single-child : {l : List ℕ} {s : Sort} {i k : ℕ} {n : Node} {t : Ast s} → Single k → Fetched l i n → Rooted s l i → At l s i k t → Child OfExpr l i n.first
single-child call f R (at_call r p c) = child R arguments (f.first ∙ r.first) p c
single-child bracket f R (at_bracket r p c) = child R expression (f.first ∙ r.first) p c

pub double-first : {l : List ℕ} {s : Sort} {i k : ℕ} {n : Node} {t : Ast s} → Double k → Fetched l i n → Rooted s l i → At l s i k t → Child OfExpr l i n.first
double-first times f R (at-times r p q c e) = child R expression (f.first ∙ r.first) p c
double-first plus f R (at-plus r p q c e) = child R expression (f.first ∙ r.first) p c
double-first minus f R (at-minus r p q c e) = child R expression (f.first ∙ r.first) p c
double-first more f R (at-more-args r p q c e) = child R arguments (f.first ∙ r.first) p c

pub double-second : {l : List ℕ} {s : Sort} {i k : ℕ} {n : Node} {t : Ast s} → Double k → Fetched l i n → Rooted s l i → At l s i k t → Child OfExpr l i n.second
double-second times f R (at-times r p q c e) = child R expression (f.second ∙ r.second) q e
double-second plus f R (at-plus r p q c e) = child R expression (f.second ∙ r.second) q e
double-second minus f R (at-minus r p q c e) = child R expression (f.second ∙ r.second) q e
double-second more f R (at-more-args r p q c e) = child R expression (f.second ∙ r.second) q e

-- ---- what a node reads

module _ (slots : List ℕ) (base : ℕ) (a : List Bool) where
  -- the names that a tree reads and that are not assigned
  abbrev pub unset_in : {s : Sort} → Ast s → List ℕ
  unset_in t = unset (slot_at slots) t (only base a)

  pub name_set : {l : List ℕ} {s : Sort} {i v : ℕ} {n : Node} {t : Ast s} {b : Bool} → Fetched l i n → At l s i n_name t → v ≡ slot_at slots n.token → b ≡ only base a v → b ≡ true
      → (p : Option ℕ) → p ≡ least_with (unset_in t) p
  unfolding unset least_with
  name_set f (at_name {t = j} r) e g h p =
      let x : only base a (slot_at slots j) ≡ true = ap (λ (w : ℕ). only base a (slot_at slots w)) (sym (f.token ∙ r.token)) ∙ ap (only base a) (sym e) ∙ sym g ∙ h in
      rw x

  pub name-unset : {l : List ℕ} {s : Sort} {i v : ℕ} {n : Node} {t : Ast s} {b : Bool} → Fetched l i n → At l s i n_name t → v ≡ slot_at slots n.token → b ≡ only base a v → b ≡ false
      → (p : Option ℕ) → lesser n.token p ≡ least_with (unset_in t) p
  unfolding unset least_with
  name-unset f (at_name {t = j} r) e g h p =
      let x : only base a (slot_at slots j) ≡ false = ap (λ (w : ℕ). only base a (slot_at slots w)) (sym (f.token ∙ r.token)) ∙ ap (only base a) (sym e) ∙ sym g ∙ h in
      rw (x, f.token ∙ r.token)

  pub single-read : {l : List ℕ} {s : Sort} {i k : ℕ} {n : Node} {t : Ast s} {p q : Option ℕ} → Single k → Fetched l i n → At l s i k t → Read l n.first slots base a p q
      → q ≡ least_with (unset_in t) p
  unfolding unset
  single-read call f (at_call {x = x} r o c) R = R.found arguments x (moved (f.first ∙ r.first) c)
  single-read bracket f (at_bracket {x = x} r o c) R = R.found expression x (moved (f.first ∙ r.first) c)

  pub double-read : {l : List ℕ} {s : Sort} {i k : ℕ} {n : Node} {t : Ast s} {p q r : Option ℕ} → Double k → Fetched l i n → At l s i k t → Read l n.first slots base a p q
      → Read l n.second slots base a q r → r ≡ least_with (unset_in t) p
  unfolding unset
  double-read times f (at-times {x = x} {y = y} r o u c e) R S = then-with (unset_in x) (unset_in y) _ (R.found expression x (moved (f.first ∙ r.first) c))
      (S.found expression y (moved (f.second ∙ r.second) e))
  double-read plus f (at-plus {x = x} {y = y} r o u c e) R S = then-with (unset_in x) (unset_in y) _ (R.found expression x (moved (f.first ∙ r.first) c))
      (S.found expression y (moved (f.second ∙ r.second) e))
  double-read minus f (at-minus {x = x} {y = y} r o u c e) R S = then-with (unset_in x) (unset_in y) _ (R.found expression x (moved (f.first ∙ r.first) c))
      (S.found expression y (moved (f.second ∙ r.second) e))
  double-read more f (at-more-args {x = x} {y = y} r o u c e) R S = then-with (unset_in x) (unset_in y) _ (R.found arguments x (moved (f.first ∙ r.first) c))
      (S.found expression y (moved (f.second ∙ r.second) e))

  pub nothing_read : {l : List ℕ} {s : Sort} {i k : ℕ} {t : Ast s} → OfExpr s → At l s i k t → (k ≡ n_name → ⊥) → (Single k → ⊥) → (Double k → ⊥) → (p : Option ℕ) → p ≡ least_with (unset_in t) p
  unfolding unset least_with
  nothing_read expression (at-number r) _ _ _ p = refl
  nothing_read expression (at-negative r) _ _ _ p = refl
  nothing_read expression (at_name r) x _ _ p = absurd (x refl)
  nothing_read expression (at_call r o c) _ y _ p = absurd (y call)
  nothing_read expression (at_bracket r o c) _ y _ p = absurd (y bracket)
  nothing_read expression (at-times r o u c e) _ _ z p = absurd (z times)
  nothing_read expression (at-plus r o u c e) _ _ z p = absurd (z plus)
  nothing_read expression (at-minus r o u c e) _ _ z p = absurd (z minus)
  nothing_read arguments (at_no_args r) _ _ _ p = refl
  nothing_read arguments (at-more-args r o u c e) _ _ z p = absurd (z more)
