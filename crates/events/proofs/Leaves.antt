-- Nodes without children: their events; and nodes without events. The end of a body.
use Prim.Native.Nat.{ℕ, ◌+◌, ◌<◌}
use mathlib.Core.Path.{◌≡◌, refl, sym, ap, ◌∙◌, subst}
use mathlib.Core.Bool.{Bool, not}
use mathlib.Core.List.{List, [], ◌∷◌}
use mathlib.Core.Logic.{◌⊎◌, inl, inr}
use native.Mathlib.Omega.{arith}
use Rattle.syntax.specs.declared.node.Node.{Node}
use Rattle.syntax.specs.NodeKinds.{node_number}
use Rattle.syntax.specs.declared.node.NodeKind.{NodeKind}
use Rattle.syntax.specs.declared.node.NodeKind.TheVariants as kind
use Rattle.syntax.specs.Fetch.{Fetched}
use Rattle.syntax.specs.Ast.{Sort, Ast, body}
use Rattle.syntax.specs.Table.{n_always, n_assign, n_block, n_braced, n_bracket, n_call, n_declare, n_declare_free, n_declare_own, n_empty, n_eval, n_fail, n_function, n_if_else, n_more_args, n_more_funs, n_more_params, n_more_stmts, n_negative, n_never, n_no_args, n_no_funs, n_no_params, n_no_stmts, n_number, n_return, n_while, At, Holds, n_name, at-number, at-negative, at_name, at_call, at_bracket, at-times, at-plus, at-minus, at_no_args, at-more-args, at-always, at-never, at-compare, at_both, at-either, at-empty, at-declare, at-declare-free, at-declare-own, at-assign, at-eval, at_block, at-if-else, at-while, at_return, at-fail, at-no-stmts, at-more-stmts, at-braced, at-no-params, at-more-params, at-function, at-no-funs, at-more-funs}
use Rattle.events.specs.Event.{thing, declares, uses, ends, closing, events_at}
use Rattle.events.specs.Walk.{Below}
use Rattle.events.specs.Visit.{level}
use Rattle.events.proofs.Nodes.{at-kind, Joint, times, plus, minus, compare, both, either}

name-alone : {l : List ℕ} {s : Sort} {i : ℕ} {n : Node} {t : Ast s} (d : ℕ) → Fetched l i n → At l s i n_name t → events_at d t ≡ uses n.token ∷ []
unfolding events_at
name-alone d f (at_name r) = rw (f.token ∙ r.token)

pub name-node : {l : List ℕ} {s : Sort} {i : ℕ} {n : Node} {t : Ast s} (d : ℕ) → Fetched l i n → n.kind ≡ kind.Name → Holds l i t → events_at d t ≡ uses n.token ∷ []
name-node d f e h = name-alone d f (at-kind n_name f (ap node_number e) h)

-- the two statements of one word, and the two declarations
pub data Plain : ℕ → Type 0 where
  empty : Plain n_empty
  fail : Plain n_fail

pub plain : {k : NodeKind} → (k ≡ kind.Empty) ⊎ (k ≡ kind.Fail) → Plain (node_number k)
plain (inl e) = subst Plain (sym (ap node_number e)) empty
plain (inr e) = subst Plain (sym (ap node_number e)) fail

plain-alone : {l : List ℕ} {s : Sort} {i k : ℕ} {n : Node} {t : Ast s} (d : ℕ) → Plain k → Fetched l i n → At l s i k t → events_at d t ≡ thing d n.token ∷ []
unfolding events_at
plain-alone d empty f (at-empty r) = rw (f.token ∙ r.token)
plain-alone d fail f (at-fail r) = rw (f.token ∙ r.token)

pub plain-node : {l : List ℕ} {s : Sort} {i : ℕ} {n : Node} {t : Ast s} (d : ℕ) → Plain (node_number n.kind) → Fetched l i n → Holds l i t → events_at d t ≡ thing d n.token ∷ []
plain-node {n = n} d k f h = plain-alone d k f (at-kind (node_number n.kind) f refl h)

pub data Declaring : ℕ → Type 0 where
  declare : Declaring n_declare
  declare-free : Declaring n_declare_free
  declare-own : Declaring n_declare_own

pub declaring : {k : NodeKind} → (k ≡ kind.Declare) ⊎ ((k ≡ kind.DeclareFree) ⊎ (k ≡ kind.DeclareOwn)) → Declaring (node_number k)
declaring (inl e) = subst Declaring (sym (ap node_number e)) declare
declaring (inr (inl e)) = subst Declaring (sym (ap node_number e)) declare-free
declaring (inr (inr e)) = subst Declaring (sym (ap node_number e)) declare-own

declare-alone : {l : List ℕ} {s : Sort} {i k : ℕ} {n : Node} {t : Ast s} (d : ℕ) → Declaring k → Fetched l i n → At l s i k t → events_at d t ≡ thing d n.token ∷ (declares (n.token + 1) ∷ [])
unfolding events_at
declare-alone d declare f (at-declare r) = rw (f.token ∙ r.token)
declare-alone d declare-free f (at-declare-free r) = rw (f.token ∙ r.token)
declare-alone d declare-own f (at-declare-own r) = rw (f.token ∙ r.token)

pub declare-node : {l : List ℕ} {s : Sort} {i : ℕ} {n : Node} {t : Ast s} (d : ℕ) → Declaring (node_number n.kind) → Fetched l i n → Holds l i t → events_at d t ≡ thing d n.token ∷ (declares (n.token + 1) ∷ [])
declare-node {n = n} d k f h = declare-alone d k f (at-kind (node_number n.kind) f refl h)

declare-token : {l : List ℕ} {s : Sort} {i k : ℕ} {n : Node} {t : Ast s} → Declaring k → Fetched l i n → At l s i k t → Below 65536 t → n.token + 1 < 65536
unfolding Below
declare-token declare f (at-declare r) b = omega (arith, f.token, r.token)
declare-token declare-free f (at-declare-free r) b = omega (arith, f.token, r.token)
declare-token declare-own f (at-declare-own r) b = omega (arith, f.token, r.token)

pub declare-below : {l : List ℕ} {s : Sort} {i : ℕ} {n : Node} {t : Ast s} → Declaring (node_number n.kind) → Fetched l i n → Holds l i t → Below 65536 t → n.token + 1 < 65536
declare-below {n = n} k f h b = declare-token k f (at-kind (node_number n.kind) f refl h) b

-- ---- nodes without events

pub data Silent : ℕ → Type 0 where
  number : Silent n_number
  negative : Silent n_negative
  no-args : Silent n_no_args
  always : Silent n_always
  never : Silent n_never
  no-stmts : Silent n_no_stmts
  no-params : Silent n_no_params
  no-funs : Silent n_no_funs

silent-alone : {l : List ℕ} {s : Sort} {i k : ℕ} {t : Ast s} (d : ℕ) → Silent k → At l s i k t → events_at d t ≡ []
unfolding events_at
silent-alone d number (at-number r) = refl
silent-alone d negative (at-negative r) = refl
silent-alone d no-args (at_no_args r) = refl
silent-alone d always (at-always r) = refl
silent-alone d never (at-never r) = refl
silent-alone d no-stmts (at-no-stmts r) = refl
silent-alone d no-params (at-no-params r) = refl
silent-alone d no-funs (at-no-funs r) = refl

pub silent-node : {l : List ℕ} {s : Sort} {i : ℕ} {n : Node} {t : Ast s} (d : ℕ) → Silent (node_number n.kind) → Fetched l i n → Holds l i t → events_at d t ≡ []
silent-node {n = n} d k f h = silent-alone d k (at-kind (node_number n.kind) f refl h)

pub silent-expression : {l : List ℕ} {s : Sort} {i k : ℕ} {t : Ast s} → level s ≡ 0 → At l s i k t → (k ≡ n_name → ⊥) → (k ≡ n_call → ⊥) → (k ≡ n_bracket → ⊥) → (Joint k → ⊥) → (k ≡ n_more_args → ⊥) → Silent k
silent-expression h (at-number r) _ _ _ _ _ = number
silent-expression h (at-negative r) _ _ _ _ _ = negative
silent-expression h (at_name r) n0 _ _ _ _ = absurd (n0 refl)
silent-expression h (at_call r p x) _ n1 _ _ _ = absurd (n1 refl)
silent-expression h (at_bracket r p x) _ _ n2 _ _ = absurd (n2 refl)
silent-expression h (at-times r p q x y) _ _ _ n3 _ = absurd (n3 times)
silent-expression h (at-plus r p q x y) _ _ _ n3 _ = absurd (n3 plus)
silent-expression h (at-minus r p q x y) _ _ _ n3 _ = absurd (n3 minus)
silent-expression h (at_no_args r) _ _ _ _ _ = no-args
silent-expression h (at-more-args r p q x y) _ _ _ _ n4 = absurd (n4 refl)
silent-expression h (at-always r) _ _ _ _ _ = always
silent-expression h (at-never r) _ _ _ _ _ = never
silent-expression h (at-compare r p q x y) _ _ _ n3 _ = absurd (n3 compare)
silent-expression h (at_both r p q x y) _ _ _ n3 _ = absurd (n3 both)
silent-expression h (at-either r p q x y) _ _ _ n3 _ = absurd (n3 either)
silent-expression h (at-empty r) _ _ _ _ _ = absurd (omega (arith, h))
silent-expression h (at-declare r) _ _ _ _ _ = absurd (omega (arith, h))
silent-expression h (at-declare-free r) _ _ _ _ _ = absurd (omega (arith, h))
silent-expression h (at-declare-own r) _ _ _ _ _ = absurd (omega (arith, h))
silent-expression h (at-assign r p x) _ _ _ _ _ = absurd (omega (arith, h))
silent-expression h (at-eval r p x) _ _ _ _ _ = absurd (omega (arith, h))
silent-expression h (at_block r p x) _ _ _ _ _ = absurd (omega (arith, h))
silent-expression h (at-if-else r p q o x y z) _ _ _ _ _ = absurd (omega (arith, h))
silent-expression h (at-while r p q x y) _ _ _ _ _ = absurd (omega (arith, h))
silent-expression h (at_return r p x) _ _ _ _ _ = absurd (omega (arith, h))
silent-expression h (at-fail r) _ _ _ _ _ = absurd (omega (arith, h))
silent-expression h (at-no-stmts r) _ _ _ _ _ = absurd (omega (arith, h))
silent-expression h (at-more-stmts r p q x y) _ _ _ _ _ = absurd (omega (arith, h))
silent-expression h (at-braced r p x) _ _ _ _ _ = absurd (omega (arith, h))
silent-expression h (at-no-params r) _ _ _ _ _ = absurd (omega (arith, h))
silent-expression h (at-more-params r p x) _ _ _ _ _ = absurd (omega (arith, h))
silent-expression h (at-function r p q x y) _ _ _ _ _ = absurd (omega (arith, h))
silent-expression h (at-no-funs r) _ _ _ _ _ = absurd (omega (arith, h))
silent-expression h (at-more-funs r p q x y) _ _ _ _ _ = absurd (omega (arith, h))

pub silent-statement : {l : List ℕ} {s : Sort} {i k : ℕ} {t : Ast s} → level s ≡ 1 → At l s i k t → (k ≡ n_empty → ⊥) → (k ≡ n_fail → ⊥) → (k ≡ n_declare → ⊥) → (k ≡ n_declare_free → ⊥) → (k ≡ n_declare_own → ⊥) → (k ≡ n_assign → ⊥) → (k ≡ n_eval → ⊥) → (k ≡ n_block → ⊥) → (k ≡ n_if_else → ⊥) → (k ≡ n_while → ⊥) → (k ≡ n_return → ⊥) → (k ≡ n_more_stmts → ⊥) → (k ≡ n_braced → ⊥) → Silent k
silent-statement h (at-number r) _ _ _ _ _ _ _ _ _ _ _ _ _ = absurd (omega (arith, h))
silent-statement h (at-negative r) _ _ _ _ _ _ _ _ _ _ _ _ _ = absurd (omega (arith, h))
silent-statement h (at_name r) _ _ _ _ _ _ _ _ _ _ _ _ _ = absurd (omega (arith, h))
silent-statement h (at_call r p x) _ _ _ _ _ _ _ _ _ _ _ _ _ = absurd (omega (arith, h))
silent-statement h (at_bracket r p x) _ _ _ _ _ _ _ _ _ _ _ _ _ = absurd (omega (arith, h))
silent-statement h (at-times r p q x y) _ _ _ _ _ _ _ _ _ _ _ _ _ = absurd (omega (arith, h))
silent-statement h (at-plus r p q x y) _ _ _ _ _ _ _ _ _ _ _ _ _ = absurd (omega (arith, h))
silent-statement h (at-minus r p q x y) _ _ _ _ _ _ _ _ _ _ _ _ _ = absurd (omega (arith, h))
silent-statement h (at_no_args r) _ _ _ _ _ _ _ _ _ _ _ _ _ = absurd (omega (arith, h))
silent-statement h (at-more-args r p q x y) _ _ _ _ _ _ _ _ _ _ _ _ _ = absurd (omega (arith, h))
silent-statement h (at-always r) _ _ _ _ _ _ _ _ _ _ _ _ _ = absurd (omega (arith, h))
silent-statement h (at-never r) _ _ _ _ _ _ _ _ _ _ _ _ _ = absurd (omega (arith, h))
silent-statement h (at-compare r p q x y) _ _ _ _ _ _ _ _ _ _ _ _ _ = absurd (omega (arith, h))
silent-statement h (at_both r p q x y) _ _ _ _ _ _ _ _ _ _ _ _ _ = absurd (omega (arith, h))
silent-statement h (at-either r p q x y) _ _ _ _ _ _ _ _ _ _ _ _ _ = absurd (omega (arith, h))
silent-statement h (at-empty r) n0 _ _ _ _ _ _ _ _ _ _ _ _ = absurd (n0 refl)
silent-statement h (at-declare r) _ _ n2 _ _ _ _ _ _ _ _ _ _ = absurd (n2 refl)
silent-statement h (at-declare-free r) _ _ _ n3 _ _ _ _ _ _ _ _ _ = absurd (n3 refl)
silent-statement h (at-declare-own r) _ _ _ _ n4 _ _ _ _ _ _ _ _ = absurd (n4 refl)
silent-statement h (at-assign r p x) _ _ _ _ _ n5 _ _ _ _ _ _ _ = absurd (n5 refl)
silent-statement h (at-eval r p x) _ _ _ _ _ _ n6 _ _ _ _ _ _ = absurd (n6 refl)
silent-statement h (at_block r p x) _ _ _ _ _ _ _ n7 _ _ _ _ _ = absurd (n7 refl)
silent-statement h (at-if-else r p q o x y z) _ _ _ _ _ _ _ _ n8 _ _ _ _ = absurd (n8 refl)
silent-statement h (at-while r p q x y) _ _ _ _ _ _ _ _ _ n9 _ _ _ = absurd (n9 refl)
silent-statement h (at_return r p x) _ _ _ _ _ _ _ _ _ _ n10 _ _ = absurd (n10 refl)
silent-statement h (at-fail r) _ n1 _ _ _ _ _ _ _ _ _ _ _ = absurd (n1 refl)
silent-statement h (at-no-stmts r) _ _ _ _ _ _ _ _ _ _ _ _ _ = no-stmts
silent-statement h (at-more-stmts r p q x y) _ _ _ _ _ _ _ _ _ _ _ n11 _ = absurd (n11 refl)
silent-statement h (at-braced r p x) _ _ _ _ _ _ _ _ _ _ _ _ n12 = absurd (n12 refl)
silent-statement h (at-no-params r) _ _ _ _ _ _ _ _ _ _ _ _ _ = absurd (omega (arith, h))
silent-statement h (at-more-params r p x) _ _ _ _ _ _ _ _ _ _ _ _ _ = absurd (omega (arith, h))
silent-statement h (at-function r p q x y) _ _ _ _ _ _ _ _ _ _ _ _ _ = absurd (omega (arith, h))
silent-statement h (at-no-funs r) _ _ _ _ _ _ _ _ _ _ _ _ _ = absurd (omega (arith, h))
silent-statement h (at-more-funs r p q x y) _ _ _ _ _ _ _ _ _ _ _ _ _ = absurd (omega (arith, h))

pub silent-program : {l : List ℕ} {s : Sort} {i k : ℕ} {t : Ast s} → level s ≡ 2 → At l s i k t → (k ≡ n_more_params → ⊥) → (k ≡ n_function → ⊥) → (k ≡ n_more_funs → ⊥) → Silent k
silent-program h (at-number r) _ _ _ = absurd (omega (arith, h))
silent-program h (at-negative r) _ _ _ = absurd (omega (arith, h))
silent-program h (at_name r) _ _ _ = absurd (omega (arith, h))
silent-program h (at_call r p x) _ _ _ = absurd (omega (arith, h))
silent-program h (at_bracket r p x) _ _ _ = absurd (omega (arith, h))
silent-program h (at-times r p q x y) _ _ _ = absurd (omega (arith, h))
silent-program h (at-plus r p q x y) _ _ _ = absurd (omega (arith, h))
silent-program h (at-minus r p q x y) _ _ _ = absurd (omega (arith, h))
silent-program h (at_no_args r) _ _ _ = absurd (omega (arith, h))
silent-program h (at-more-args r p q x y) _ _ _ = absurd (omega (arith, h))
silent-program h (at-always r) _ _ _ = absurd (omega (arith, h))
silent-program h (at-never r) _ _ _ = absurd (omega (arith, h))
silent-program h (at-compare r p q x y) _ _ _ = absurd (omega (arith, h))
silent-program h (at_both r p q x y) _ _ _ = absurd (omega (arith, h))
silent-program h (at-either r p q x y) _ _ _ = absurd (omega (arith, h))
silent-program h (at-empty r) _ _ _ = absurd (omega (arith, h))
silent-program h (at-declare r) _ _ _ = absurd (omega (arith, h))
silent-program h (at-declare-free r) _ _ _ = absurd (omega (arith, h))
silent-program h (at-declare-own r) _ _ _ = absurd (omega (arith, h))
silent-program h (at-assign r p x) _ _ _ = absurd (omega (arith, h))
silent-program h (at-eval r p x) _ _ _ = absurd (omega (arith, h))
silent-program h (at_block r p x) _ _ _ = absurd (omega (arith, h))
silent-program h (at-if-else r p q o x y z) _ _ _ = absurd (omega (arith, h))
silent-program h (at-while r p q x y) _ _ _ = absurd (omega (arith, h))
silent-program h (at_return r p x) _ _ _ = absurd (omega (arith, h))
silent-program h (at-fail r) _ _ _ = absurd (omega (arith, h))
silent-program h (at-no-stmts r) _ _ _ = absurd (omega (arith, h))
silent-program h (at-more-stmts r p q x y) _ _ _ = absurd (omega (arith, h))
silent-program h (at-braced r p x) _ _ _ = absurd (omega (arith, h))
silent-program h (at-no-params r) _ _ _ = no-params
silent-program h (at-more-params r p x) n0 _ _ = absurd (n0 refl)
silent-program h (at-function r p q x y) _ n1 _ = absurd (n1 refl)
silent-program h (at-no-funs r) _ _ _ = no-funs
silent-program h (at-more-funs r p q x y) _ _ n2 = absurd (n2 refl)

-- ---- the end of a body

closing_at : {l : List ℕ} {i k : ℕ} {n : Node} {b : Ast body} → Fetched l i n → At l body i k b → n.token ≡ closing b
closing_at f (at-braced r p x) = f.token ∙ r.token

pub closing-node : {l : List ℕ} {i : ℕ} {n : Node} {b : Ast body} → Fetched l i n → Holds l i b → n.token ≡ closing b
closing-node f h = closing_at f h.at

pub ends-said : {x y : ℕ} {a b : Bool} → x ≡ y → a ≡ b → ends x (not a) ≡ ends y (not b)
ends-said {x} {y} {a} {b} p q = ap (λ (z : ℕ). ends z (not a)) p ∙ ap (λ (c : Bool). ends y (not c)) q
