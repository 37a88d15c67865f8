-- The steps of the loops and the recursion that find a first token, a count of arguments, and whether a statement can reach its end.
use Prim.Native.Nat.{ℕ, ◌<◌}
use mathlib.Core.Path.{◌≡◌, refl, sym, ap, ◌∙◌, subst}
use mathlib.Core.Bool.{Bool, true, false, ◌&&◌}
use mathlib.Core.List.{List}
use mathlib.Core.Logic.{◌⊎◌, inl, inr}
use native.Mathlib.Omega.{arith}
use Rattle.syntax.specs.declared.node.Node.{Node}
use Rattle.syntax.specs.NodeKinds.{node_number}
use Rattle.syntax.specs.declared.node.NodeKind.{NodeKind}
use Rattle.syntax.specs.declared.node.NodeKind.TheVariants as kind
use Rattle.syntax.specs.Fetch.{Fetched}
use Rattle.syntax.specs.Ast.{Sort, Ast, expr, args}
use Rattle.syntax.specs.Ast as A
use Rattle.syntax.specs.Table.{n_block, n_braced, n_fail, n_minus, n_plus, n_return, n_times, At, Holds, n_more_args, n_more_stmts, n_if_else, at-number, at-negative, at_name, at_call, at_bracket, at-times, at-plus, at-minus, at_no_args, at-more-args, at-always, at-never, at-compare, at_both, at-either, at-empty, at-declare, at-declare-free, at-declare-own, at-assign, at-eval, at_block, at-if-else, at-while, at_return, at-fail, at-no-stmts, at-more-stmts, at-braced, at-no-params, at-more-params, at-function, at-no-funs, at-more-funs}
use Rattle.events.specs.Event.{first, count, stops}
use Rattle.events.proofs.Nodes.{at-kind, moved}
use Rattle.events.proofs.Counting.{Rest, Counts}

-- ---- the first token of an expression

-- that of e is that of the tree at node j
pub record Left (l : List ℕ) (j : ℕ) (e : Ast expr) : Type 0 where
  pub tree : Ast expr
  pub holds : Holds l j tree
  pub same : first e ≡ first tree

pub data Sum : ℕ → Type 0 where
  times : Sum n_times
  plus : Sum n_plus
  minus : Sum n_minus

pub sum : {k : NodeKind} → (k ≡ kind.Times) ⊎ ((k ≡ kind.Plus) ⊎ (k ≡ kind.Minus)) → Sum (node_number k)
sum (inl e) = subst Sum (sym (ap node_number e)) times
sum (inr (inl e)) = subst Sum (sym (ap node_number e)) plus
sum (inr (inr e)) = subst Sum (sym (ap node_number e)) minus

pub not-sum : {k : ℕ} → (k ≡ n_times → ⊥) → (k ≡ n_plus → ⊥) → (k ≡ n_minus → ⊥) → Sum k → ⊥
not-sum n0 _ _ times = n0 refl
not-sum _ n1 _ plus = n1 refl
not-sum _ _ n2 minus = n2 refl

left_at : {l : List ℕ} {j k : ℕ} {n : Node} {e : Ast expr} → Sum k → Fetched l j n → At l expr j k e → (n.first < j) × Left l n.first e
unfolding first
left_at times f (at-times {x = x} r p q c e) = (omega (arith, f.first, r.first), record { tree = x; holds = moved (f.first ∙ r.first) c; same = refl })
left_at plus f (at-plus {x = x} r p q c e) = (omega (arith, f.first, r.first), record { tree = x; holds = moved (f.first ∙ r.first) c; same = refl })
left_at minus f (at-minus {x = x} r p q c e) = (omega (arith, f.first, r.first), record { tree = x; holds = moved (f.first ∙ r.first) c; same = refl })

pub left_step : {l : List ℕ} {j : ℕ} {n : Node} {e : Ast expr} → Sum (node_number n.kind) → Fetched l j n → Left l j e → (n.first < j) × Left l n.first e
left_step {n = n} k f v =
    let w = left_at k f (at-kind (node_number n.kind) f refl v.holds) in
    (w.0, record { tree = w.1.tree; holds = w.1.holds; same = v.same ∙ w.1.same })

first-at : {l : List ℕ} {j k : ℕ} {n : Node} {e : Ast expr} → (Sum k → ⊥) → Fetched l j n → At l expr j k e → n.token ≡ first e
unfolding first
first-at never f (at-number r) = f.token ∙ r.token
first-at never f (at-negative r) = f.token ∙ r.token
first-at never f (at_name r) = f.token ∙ r.token
first-at never f (at_call r p x) = f.token ∙ r.token
first-at never f (at_bracket r p x) = f.token ∙ r.token
first-at never f (at-times r p q x y) = absurd (never times)
first-at never f (at-plus r p q x y) = absurd (never plus)
first-at never f (at-minus r p q x y) = absurd (never minus)

pub first-of : {l : List ℕ} {j : ℕ} {n : Node} {e : Ast expr} → (Sum (node_number n.kind) → ⊥) → Fetched l j n → Left l j e → n.token ≡ first e
first-of {n = n} never f v = first-at never f (at-kind (node_number n.kind) f refl v.holds) ∙ sym v.same

-- ---- the count of arguments

fewer-arguments : {l : List ℕ} {j : ℕ} {n : Node} {a : Ast args} → Fetched l j n → At l args j n_more_args a → (n.first < j) × Rest count l n.first 1 a
unfolding count
fewer-arguments f (at-more-args {x = x} r p q c e) = (omega (arith, f.first, r.first), record { tree = x; holds = moved (f.first ∙ r.first) c; same = omega arith })

no_arguments : {l : List ℕ} {j k : ℕ} {a : Ast args} → (k ≡ n_more_args → ⊥) → At l args j k a → count a ≡ 0
unfolding count
no_arguments never (at_no_args r) = refl
no_arguments never (at-more-args r p q x y) = absurd (never refl)

pub counts-arguments : Counts count n_more_args
counts-arguments = record { shorter = fewer-arguments; empty = no_arguments }

-- ---- a statement that can't reach its end

-- node a, below i, has a tree that goes by the same as t
pub record Last (l : List ℕ) (i a : ℕ) {s : Sort} (t : Ast s) : Type 0 where
  pub sort : Sort
  pub tree : Ast sort
  pub falls : a < i
  pub holds : Holds l a tree
  pub same : stops t ≡ stops tree

pub data Inner : ℕ → Type 0 where
  block : Inner n_block
  braced : Inner n_braced

pub inner : {k : NodeKind} → (k ≡ kind.Block) ⊎ (k ≡ kind.Braced) → Inner (node_number k)
inner (inl e) = subst Inner (sym (ap node_number e)) block
inner (inr e) = subst Inner (sym (ap node_number e)) braced

pub inner_last : {l : List ℕ} {s : Sort} {i k : ℕ} {n : Node} {t : Ast s} → Inner k → Fetched l i n → At l s i k t → Last l i n.first t
unfolding stops
inner_last block f (at_block {x = x} r p c) = record { sort = _; tree = x; falls = omega (arith, f.first, r.first); holds = moved (f.first ∙ r.first) c; same = refl }
inner_last braced f (at-braced {x = x} r p c) = record { sort = _; tree = x; falls = omega (arith, f.first, r.first); holds = moved (f.first ∙ r.first) c; same = refl }

pub stmts-last : {l : List ℕ} {s : Sort} {i : ℕ} {n : Node} {t : Ast s} → Fetched l i n → At l s i n_more_stmts t → Last l i n.second t
unfolding stops
stmts-last f (at-more-stmts {y = y} r p q c e) = record { sort = _; tree = y; falls = omega (arith, f.second, r.second); holds = moved (f.second ∙ r.second) e; same = refl }

-- the two arms
pub record Arms (l : List ℕ) (i a b : ℕ) {s : Sort} (t : Ast s) : Type 0 where
  pub y : Ast A.stmt
  pub z : Ast A.stmt
  pub falls : a < i
  pub falls₂ : b < i
  pub holds : Holds l a y
  pub holds₂ : Holds l b z
  pub same : stops t ≡ (stops y && stops z)

pub arms_last : {l : List ℕ} {s : Sort} {i : ℕ} {n : Node} {t : Ast s} → Fetched l i n → At l s i n_if_else t → Arms l i n.second n.third t
unfolding stops
arms_last f (at-if-else {y = y} {z = z} r p q o c e g) = record { y = y; z = z; falls = omega (arith, f.second, r.second); falls₂ = omega (arith, f.third, r.third); holds = moved (f.second ∙ r.second) e; holds₂ = moved (f.third ∙ r.third) g; same = refl }

pub arms-true : (y z : Bool) → true ≡ y → (y && z) ≡ z
arms-true y z f = ap (λ (b : Bool). b && z) (sym f)

pub arms-false : (y z : Bool) → false ≡ y → (y && z) ≡ false
arms-false y z f = ap (λ (b : Bool). b && z) (sym f)

pub data Final : ℕ → Type 0 where
  return : Final n_return
  fail : Final n_fail

pub final : {k : NodeKind} → (k ≡ kind.Return) ⊎ (k ≡ kind.Fail) → Final (node_number k)
final (inl e) = subst Final (sym (ap node_number e)) return
final (inr e) = subst Final (sym (ap node_number e)) fail

pub final-stops : {l : List ℕ} {s : Sort} {i k : ℕ} {t : Ast s} → Final k → At l s i k t → stops t ≡ true
unfolding stops
final-stops return (at_return r p x) = refl
final-stops fail (at-fail r) = refl

-- every other node
pub goes_on : {l : List ℕ} {s : Sort} {i k : ℕ} {t : Ast s} → (k ≡ n_return → ⊥) → (k ≡ n_fail → ⊥) → (k ≡ n_block → ⊥) → (k ≡ n_braced → ⊥) → (k ≡ n_more_stmts → ⊥) → (k ≡ n_if_else → ⊥) → At l s i k t → stops t ≡ false
unfolding stops
goes_on _ _ _ _ _ _ (at-number r) = refl
goes_on _ _ _ _ _ _ (at-negative r) = refl
goes_on _ _ _ _ _ _ (at_name r) = refl
goes_on _ _ _ _ _ _ (at_call r p x) = refl
goes_on _ _ _ _ _ _ (at_bracket r p x) = refl
goes_on _ _ _ _ _ _ (at-times r p q x y) = refl
goes_on _ _ _ _ _ _ (at-plus r p q x y) = refl
goes_on _ _ _ _ _ _ (at-minus r p q x y) = refl
goes_on _ _ _ _ _ _ (at_no_args r) = refl
goes_on _ _ _ _ _ _ (at-more-args r p q x y) = refl
goes_on _ _ _ _ _ _ (at-always r) = refl
goes_on _ _ _ _ _ _ (at-never r) = refl
goes_on _ _ _ _ _ _ (at-compare r p q x y) = refl
goes_on _ _ _ _ _ _ (at_both r p q x y) = refl
goes_on _ _ _ _ _ _ (at-either r p q x y) = refl
goes_on _ _ _ _ _ _ (at-empty r) = refl
goes_on _ _ _ _ _ _ (at-declare r) = refl
goes_on _ _ _ _ _ _ (at-declare-free r) = refl
goes_on _ _ _ _ _ _ (at-declare-own r) = refl
goes_on _ _ _ _ _ _ (at-assign r p x) = refl
goes_on _ _ _ _ _ _ (at-eval r p x) = refl
goes_on _ _ n2 _ _ _ (at_block r p x) = absurd (n2 refl)
goes_on _ _ _ _ _ n5 (at-if-else r p q o x y z) = absurd (n5 refl)
goes_on _ _ _ _ _ _ (at-while r p q x y) = refl
goes_on n0 _ _ _ _ _ (at_return r p x) = absurd (n0 refl)
goes_on _ n1 _ _ _ _ (at-fail r) = absurd (n1 refl)
goes_on _ _ _ _ _ _ (at-no-stmts r) = refl
goes_on _ _ _ _ n4 _ (at-more-stmts r p q x y) = absurd (n4 refl)
goes_on _ _ _ n3 _ _ (at-braced r p x) = absurd (n3 refl)
goes_on _ _ _ _ _ _ (at-no-params r) = refl
goes_on _ _ _ _ _ _ (at-more-params r p x) = refl
goes_on _ _ _ _ _ _ (at-function r p q x y) = refl
goes_on _ _ _ _ _ _ (at-no-funs r) = refl
goes_on _ _ _ _ _ _ (at-more-funs r p q x y) = refl
