-- What the kind of a node says of the tree that stands there.
use Prim.Native.Nat.{ℕ, suc, ◌+◌, ◌*◌, ◌<◌}
use mathlib.Core.Path.{◌≡◌, refl, sym, ap, ◌∙◌, subst}
use mathlib.Core.Bool.{not}
use mathlib.Core.List.{List, [], ◌∷◌, ◌++◌, append_assoc}
use mathlib.Core.Logic.{◌⊎◌, inl, inr}
use native.Mathlib.Numerals.{add-one}
use native.Mathlib.Omega.{arith}
use lib.ListN.{get_or}
use Rattle.syntax.specs.declared.node.Node.{Node}
use Rattle.syntax.specs.NodeKinds.{node_number}
use Rattle.syntax.specs.declared.node.NodeKind.{NodeKind}
use Rattle.syntax.specs.declared.node.NodeKind.TheVariants as kind
use Rattle.syntax.proofs.SameKinds.{same-node}
use Rattle.syntax.specs.Fetch.{Fetched}
use Rattle.syntax.specs.Ast.{Sort, Ast, expr, args, cond, stmt, stmts, body, params}
use Rattle.syntax.specs.Ast as A
use Rattle.syntax.specs.Table.{n_both, n_compare, n_either, n_minus, n_plus, n_times, node_token, node_words, At, Holds, n_call, n_bracket, n_more_args, n_assign, n_eval, n_block, n_if_else, n_while, n_return, n_more_stmts, n_braced, n_more_params, n_function, n_more_funs, at-number, at-negative, at_name, at_call, at_bracket, at-times, at-plus, at-minus, at_no_args, at-more-args, at-always, at-never, at-compare, at_both, at-either, at-empty, at-declare, at-declare-free, at-declare-own, at-assign, at-eval, at_block, at-if-else, at-while, at_return, at-fail, at-no-stmts, at-more-stmts, at-braced, at-no-params, at-more-params, at-function, at-no-funs, at-more-funs}
use Rattle.events.specs.Event.{Event, function, parameter, thing, opens, closes, uses, calls, ends, first, count, stops, closing, events_at}
use Rattle.events.specs.Walk.{Below}
use Rattle.events.specs.Visit.{level}

kind-of : {l : List ℕ} {s : Sort} {i k : ℕ} {t : Ast s} → At l s i k t → get_or l (node_words * i) 0 ≡ k
kind-of (at-number r) = r.kind
kind-of (at-negative r) = r.kind
kind-of (at_name r) = r.kind
kind-of (at_call r p x) = r.kind
kind-of (at_bracket r p x) = r.kind
kind-of (at-times r p q x y) = r.kind
kind-of (at-plus r p q x y) = r.kind
kind-of (at-minus r p q x y) = r.kind
kind-of (at_no_args r) = r.kind
kind-of (at-more-args r p q x y) = r.kind
kind-of (at-always r) = r.kind
kind-of (at-never r) = r.kind
kind-of (at-compare r p q x y) = r.kind
kind-of (at_both r p q x y) = r.kind
kind-of (at-either r p q x y) = r.kind
kind-of (at-empty r) = r.kind
kind-of (at-declare r) = r.kind
kind-of (at-declare-free r) = r.kind
kind-of (at-declare-own r) = r.kind
kind-of (at-assign r p x) = r.kind
kind-of (at-eval r p x) = r.kind
kind-of (at_block r p x) = r.kind
kind-of (at-if-else r p q o x y z) = r.kind
kind-of (at-while r p q x y) = r.kind
kind-of (at_return r p x) = r.kind
kind-of (at-fail r) = r.kind
kind-of (at-no-stmts r) = r.kind
kind-of (at-more-stmts r p q x y) = r.kind
kind-of (at-braced r p x) = r.kind
kind-of (at-no-params r) = r.kind
kind-of (at-more-params r p x) = r.kind
kind-of (at-function r p q x y) = r.kind
kind-of (at-no-funs r) = r.kind
kind-of (at-more-funs r p q x y) = r.kind

-- what a kind that isn't k says of its number
pub other : {j k : NodeKind} → (j ≡ k → ⊥) → node_number j ≡ node_number k → ⊥
other f e = f (same-node e)

-- the tree at a node whose kind is k
pub at-kind : {l : List ℕ} {s : Sort} {i : ℕ} {n : Node} {t : Ast s} (k : ℕ) → Fetched l i n → node_number n.kind ≡ k → Holds l i t → At l s i k t
at-kind {l} {s} {i} {n} {t} k f e h = subst (λ (j : ℕ). At l s i j t) (sym (kind-of h.at) ∙ sym f.kind ∙ e) h.at

-- the tokens that a tree below m names
token-at : {l : List ℕ} {s : Sort} {i k : ℕ} {t : Ast s} (m : ℕ) → 0 < m → At l s i k t → Below m t → get_or l (node_words * i + node_token) 0 < m
unfolding Below
token-at m pos (at-number r) b = omega (arith, r.token, b)
token-at m pos (at-negative r) b = omega (arith, r.token, b)
token-at m pos (at_name r) b = omega (arith, r.token, b)
token-at m pos (at_call r p x) b = omega (arith, r.token, b.0)
token-at m pos (at_bracket r p x) b = omega (arith, r.token, b.0)
token-at m pos (at-times r p q x y) b = omega (arith, r.token)
token-at m pos (at-plus r p q x y) b = omega (arith, r.token)
token-at m pos (at-minus r p q x y) b = omega (arith, r.token)
token-at m pos (at_no_args r) b = omega (arith, r.token)
token-at m pos (at-more-args r p q x y) b = omega (arith, r.token)
token-at m pos (at-always r) b = omega (arith, r.token)
token-at m pos (at-never r) b = omega (arith, r.token)
token-at m pos (at-compare r p q x y) b = omega (arith, r.token)
token-at m pos (at_both r p q x y) b = omega (arith, r.token)
token-at m pos (at-either r p q x y) b = omega (arith, r.token)
token-at m pos (at-empty r) b = omega (arith, r.token, b)
token-at m pos (at-declare r) b = omega (arith, r.token, b)
token-at m pos (at-declare-free r) b = omega (arith, r.token, b)
token-at m pos (at-declare-own r) b = omega (arith, r.token, b)
token-at m pos (at-assign r p x) b = omega (arith, r.token, b.0)
token-at m pos (at-eval r p x) b = omega (arith, r.token)
token-at m pos (at_block r p x) b = omega (arith, r.token, b.0)
token-at m pos (at-if-else r p q o x y z) b = omega (arith, r.token, b.0)
token-at m pos (at-while r p q x y) b = omega (arith, r.token, b.0)
token-at m pos (at_return r p x) b = omega (arith, r.token, b.0)
token-at m pos (at-fail r) b = omega (arith, r.token, b)
token-at m pos (at-no-stmts r) b = omega (arith, r.token)
token-at m pos (at-more-stmts r p q x y) b = omega (arith, r.token)
token-at m pos (at-braced r p x) b = omega (arith, r.token, b.1)
token-at m pos (at-no-params r) b = omega (arith, r.token)
token-at m pos (at-more-params r p x) b = omega (arith, r.token, b.1)
token-at m pos (at-function r p q x y) b = omega (arith, r.token, b.0)
token-at m pos (at-no-funs r) b = omega (arith, r.token)
token-at m pos (at-more-funs r p q x y) b = omega (arith, r.token)

pub token-below : {l : List ℕ} {s : Sort} {i : ℕ} {n : Node} {t : Ast s} → Fetched l i n → Holds l i t → Below 65536 t → n.token < 65536
token-below f h b = omega (arith, f.token, token-at 65536 (omega arith) h.at b)

pub first_below : (m : ℕ) (e : Ast expr) → Below m e → first e < m
unfolding Below first
first_below m (A.number i) b = b
first_below m (A.negative i) b = omega (arith, b)
first_below m (A.name i) b = b
first_below m (A.call i a) b = b.0
first_below m (A.bracket i e) b = b.0
first_below m (A.times o x y) b = first_below m x b.0
first_below m (A.plus x y) b = first_below m x b.0
first_below m (A.minus x y) b = first_below m x b.0

-- ---- nodes with one, two and three children

-- the tree t at node i has the child x at node a, which gives its events by f
pub record One (l : List ℕ) (i a : ℕ) {s : Sort} (t : Ast s) (s₁ : Sort) (f : ℕ → Ast s₁ → List Event) : Type 0 where
  pub x : Ast s₁
  pub falls : a < i
  pub holds : Holds l a x
  pub events : (d : ℕ) → events_at d t ≡ f d x
  pub below : Below 65536 t → Below 65536 x

pub record Two (l : List ℕ) (i a b : ℕ) {s : Sort} (t : Ast s) (s₁ s₂ : Sort) (f : ℕ → Ast s₁ → Ast s₂ → List Event) : Type 0 where
  pub x : Ast s₁
  pub y : Ast s₂
  pub falls : a < i
  pub falls₂ : b < i
  pub holds : Holds l a x
  pub holds₂ : Holds l b y
  pub events : (d : ℕ) → events_at d t ≡ f d x y
  pub below : Below 65536 t → Below 65536 x
  pub below₂ : Below 65536 t → Below 65536 y

pub record Three (l : List ℕ) (i a b c : ℕ) {s : Sort} (t : Ast s) (s₁ s₂ s₃ : Sort) (f : ℕ → Ast s₁ → Ast s₂ → Ast s₃ → List Event) : Type 0 where
  pub x : Ast s₁
  pub y : Ast s₂
  pub z : Ast s₃
  pub falls : a < i
  pub falls₂ : b < i
  pub falls₃ : c < i
  pub holds : Holds l a x
  pub holds₂ : Holds l b y
  pub holds₃ : Holds l c z
  pub events : (d : ℕ) → events_at d t ≡ f d x y z
  pub below : Below 65536 t → Below 65536 x
  pub below₂ : Below 65536 t → Below 65536 y
  pub below₃ : Below 65536 t → Below 65536 z

-- two children whose events follow each other
pub record Pair (l : List ℕ) (i a b : ℕ) {s : Sort} (t : Ast s) : Type 0 where
  pub s₁ : Sort
  pub s₂ : Sort
  pub same : level s₁ ≡ level s
  pub same₂ : level s₂ ≡ level s
  pub two : Two l i a b t s₁ s₂ (λ d x y. events_at d x ++ events_at d y)

pub moved : {l : List ℕ} {s : Sort} {a b k : ℕ} {x : Ast s} → b ≡ a → At l s a k x → Holds l b x
moved {l} {s} {a} {b} {k} {x} e c = subst (λ (j : ℕ). Holds l j x) (sym e) (record { kind = k; at = c })

call-child : {l : List ℕ} {s : Sort} {i : ℕ} {n : Node} {t : Ast s} → Fetched l i n → At l s i n_call t → One l i n.first t args (λ d x. calls n.token (count x) ∷ events_at (d + 1) x)
unfolding events_at Below
call-child f (at_call {x = x} r p c) = record { x = x; falls = omega (arith, f.first, r.first); holds = moved (f.first ∙ r.first) c; events = λ d. rw (f.token ∙ r.token, add-one); below = λ b. b.1 }

pub call-node : {l : List ℕ} {s : Sort} {i : ℕ} {n : Node} {t : Ast s} → Fetched l i n → n.kind ≡ kind.Call → Holds l i t → One l i n.first t args (λ d x. calls n.token (count x) ∷ events_at (d + 1) x)
call-node f e h = call-child f (at-kind n_call f (ap node_number e) h)

bracket-child : {l : List ℕ} {s : Sort} {i : ℕ} {n : Node} {t : Ast s} → Fetched l i n → At l s i n_bracket t → One l i n.first t expr (λ d x. thing (d + 1) (first x) ∷ events_at (d + 1) x)
unfolding events_at Below
bracket-child f (at_bracket {x = x} r p c) = record { x = x; falls = omega (arith, f.first, r.first); holds = moved (f.first ∙ r.first) c; events = λ d. rw (add-one); below = λ b. b.1 }

pub bracket-node : {l : List ℕ} {s : Sort} {i : ℕ} {n : Node} {t : Ast s} → Fetched l i n → n.kind ≡ kind.Bracket → Holds l i t → One l i n.first t expr (λ d x. thing (d + 1) (first x) ∷ events_at (d + 1) x)
bracket-node f e h = bracket-child f (at-kind n_bracket f (ap node_number e) h)

more-args-child : {l : List ℕ} {s : Sort} {i : ℕ} {n : Node} {t : Ast s} → Fetched l i n → At l s i n_more_args t → Two l i n.first n.second t args expr (λ d x y. events_at d x ++ (thing d (first y) ∷ events_at d y))
unfolding events_at Below
more-args-child f (at-more-args {x = x} {y = y} r p q c e) = record { x = x; y = y; falls = omega (arith, f.first, r.first); falls₂ = omega (arith, f.second, r.second); holds = moved (f.first ∙ r.first) c; holds₂ = moved (f.second ∙ r.second) e; events = λ d. refl; below = λ b. b.0; below₂ = λ b. b.1 }

pub more-args-node : {l : List ℕ} {s : Sort} {i : ℕ} {n : Node} {t : Ast s} → Fetched l i n → n.kind ≡ kind.MoreArgs → Holds l i t → Two l i n.first n.second t args expr (λ d x y. events_at d x ++ (thing d (first y) ∷ events_at d y))
more-args-node f e h = more-args-child f (at-kind n_more_args f (ap node_number e) h)

assign-child : {l : List ℕ} {s : Sort} {i : ℕ} {n : Node} {t : Ast s} → Fetched l i n → At l s i n_assign t → One l i n.first t expr (λ d x. thing d n.token ∷ (uses n.token ∷ events_at d x))
unfolding events_at Below
assign-child f (at-assign {x = x} r p c) = record { x = x; falls = omega (arith, f.first, r.first); holds = moved (f.first ∙ r.first) c; events = λ d. rw (f.token ∙ r.token); below = λ b. b.1 }

pub assign-node : {l : List ℕ} {s : Sort} {i : ℕ} {n : Node} {t : Ast s} → Fetched l i n → n.kind ≡ kind.Assign → Holds l i t → One l i n.first t expr (λ d x. thing d n.token ∷ (uses n.token ∷ events_at d x))
assign-node f e h = assign-child f (at-kind n_assign f (ap node_number e) h)

eval-child : {l : List ℕ} {s : Sort} {i : ℕ} {n : Node} {t : Ast s} → Fetched l i n → At l s i n_eval t → One l i n.first t expr (λ d x. thing d (first x) ∷ events_at d x)
unfolding events_at Below
eval-child f (at-eval {x = x} r p c) = record { x = x; falls = omega (arith, f.first, r.first); holds = moved (f.first ∙ r.first) c; events = λ d. refl; below = λ b. b }

pub eval-node : {l : List ℕ} {s : Sort} {i : ℕ} {n : Node} {t : Ast s} → Fetched l i n → n.kind ≡ kind.Eval → Holds l i t → One l i n.first t expr (λ d x. thing d (first x) ∷ events_at d x)
eval-node f e h = eval-child f (at-kind n_eval f (ap node_number e) h)

block-child : {l : List ℕ} {s : Sort} {i : ℕ} {n : Node} {t : Ast s} → Fetched l i n → At l s i n_block t → One l i n.first t body (λ d x. thing d n.token ∷ events_at (d + 1) x)
unfolding events_at Below
block-child f (at_block {x = x} r p c) = record { x = x; falls = omega (arith, f.first, r.first); holds = moved (f.first ∙ r.first) c; events = λ d. rw (f.token ∙ r.token, add-one); below = λ b. b.1 }

pub block-node : {l : List ℕ} {s : Sort} {i : ℕ} {n : Node} {t : Ast s} → Fetched l i n → n.kind ≡ kind.Block → Holds l i t → One l i n.first t body (λ d x. thing d n.token ∷ events_at (d + 1) x)
block-node f e h = block-child f (at-kind n_block f (ap node_number e) h)

return-child : {l : List ℕ} {s : Sort} {i : ℕ} {n : Node} {t : Ast s} → Fetched l i n → At l s i n_return t → One l i n.first t expr (λ d x. thing d n.token ∷ events_at d x)
unfolding events_at Below
return-child f (at_return {x = x} r p c) = record { x = x; falls = omega (arith, f.first, r.first); holds = moved (f.first ∙ r.first) c; events = λ d. rw (f.token ∙ r.token); below = λ b. b.1 }

pub return-node : {l : List ℕ} {s : Sort} {i : ℕ} {n : Node} {t : Ast s} → Fetched l i n → n.kind ≡ kind.Return → Holds l i t → One l i n.first t expr (λ d x. thing d n.token ∷ events_at d x)
return-node f e h = return-child f (at-kind n_return f (ap node_number e) h)

braced-child : {l : List ℕ} {s : Sort} {i : ℕ} {n : Node} {t : Ast s} → Fetched l i n → At l s i n_braced t → One l i n.first t stmts (λ d x. opens ∷ (events_at d x ++ closes ∷ []))
unfolding events_at Below
braced-child f (at-braced {x = x} r p c) = record { x = x; falls = omega (arith, f.first, r.first); holds = moved (f.first ∙ r.first) c; events = λ d. refl; below = λ b. b.0 }

pub braced-node : {l : List ℕ} {s : Sort} {i : ℕ} {n : Node} {t : Ast s} → Fetched l i n → n.kind ≡ kind.Braced → Holds l i t → One l i n.first t stmts (λ d x. opens ∷ (events_at d x ++ closes ∷ []))
braced-node f e h = braced-child f (at-kind n_braced f (ap node_number e) h)

more-params-child : {l : List ℕ} {s : Sort} {i : ℕ} {n : Node} {t : Ast s} → Fetched l i n → At l s i n_more_params t → One l i n.first t params (λ d x. events_at d x ++ parameter n.token ∷ [])
unfolding events_at Below
more-params-child f (at-more-params {x = x} r p c) = record { x = x; falls = omega (arith, f.first, r.first); holds = moved (f.first ∙ r.first) c; events = λ d. rw (f.token ∙ r.token); below = λ b. b.0 }

pub more-params-node : {l : List ℕ} {s : Sort} {i : ℕ} {n : Node} {t : Ast s} → Fetched l i n → n.kind ≡ kind.MoreParams → Holds l i t → One l i n.first t params (λ d x. events_at d x ++ parameter n.token ∷ [])
more-params-node f e h = more-params-child f (at-kind n_more_params f (ap node_number e) h)

while-child : {l : List ℕ} {s : Sort} {i : ℕ} {n : Node} {t : Ast s} → Fetched l i n → At l s i n_while t → Two l i n.first n.second t cond stmt (λ d x y. thing d n.token ∷ (events_at d x ++ (opens ∷ (events_at (d + 1) y ++ closes ∷ []))))
unfolding events_at Below
while-child f (at-while {x = x} {y = y} r p q c e) = record { x = x; y = y; falls = omega (arith, f.first, r.first); falls₂ = omega (arith, f.second, r.second); holds = moved (f.first ∙ r.first) c; holds₂ = moved (f.second ∙ r.second) e; events = λ d. rw (f.token ∙ r.token, add-one) (simp append_assoc); below = λ b. b.1.0; below₂ = λ b. b.1.1 }

pub while-node : {l : List ℕ} {s : Sort} {i : ℕ} {n : Node} {t : Ast s} → Fetched l i n → n.kind ≡ kind.While → Holds l i t → Two l i n.first n.second t cond stmt (λ d x y. thing d n.token ∷ (events_at d x ++ (opens ∷ (events_at (d + 1) y ++ closes ∷ []))))
while-node f e h = while-child f (at-kind n_while f (ap node_number e) h)

function-child : {l : List ℕ} {s : Sort} {i : ℕ} {n : Node} {t : Ast s} → Fetched l i n → At l s i n_function t → Two l i n.first n.second t params body (λ d x y. function n.token ∷ (events_at d x ++ (events_at d y ++ ends (closing y) (not (stops y)) ∷ [])))
unfolding events_at Below
function-child f (at-function {x = x} {y = y} r p q c e) = record { x = x; y = y; falls = omega (arith, f.first, r.first); falls₂ = omega (arith, f.second, r.second); holds = moved (f.first ∙ r.first) c; holds₂ = moved (f.second ∙ r.second) e; events = λ d. rw (f.token ∙ r.token) (simp append_assoc); below = λ b. b.1.0; below₂ = λ b. b.1.1 }

pub function-node : {l : List ℕ} {s : Sort} {i : ℕ} {n : Node} {t : Ast s} → Fetched l i n → n.kind ≡ kind.Function → Holds l i t → Two l i n.first n.second t params body (λ d x y. function n.token ∷ (events_at d x ++ (events_at d y ++ ends (closing y) (not (stops y)) ∷ [])))
function-node f e h = function-child f (at-kind n_function f (ap node_number e) h)

regroup : (a : Event) (x y z : List Event) → (a ∷ x) ++ (opens ∷ y) ++ (closes ∷ opens ∷ z) ++ (closes ∷ []) ≡ a ∷ (x ++ ((opens ∷ (y ++ closes ∷ [])) ++ (opens ∷ (z ++ closes ∷ []))))
regroup a x y z =
    append_assoc ((a ∷ x) ++ (opens ∷ y)) (closes ∷ opens ∷ z) (closes ∷ []) ∙ append_assoc (a ∷ x) (opens ∷ y) (closes ∷ (opens ∷ (z ++ closes ∷ []))) ∙ ap (λ (r : List Event). a ∷ (x ++ (opens ∷ r))) (sym (append_assoc y (closes ∷ []) (opens ∷ (z ++ closes ∷ []))))

if-else-child : {l : List ℕ} {s : Sort} {i : ℕ} {n : Node} {t : Ast s} → Fetched l i n → At l s i n_if_else t → Three l i n.first n.second n.third t cond stmt stmt (λ d x y z. thing d n.token ∷ (events_at d x ++ ((opens ∷ (events_at (d + 1) y ++ closes ∷ [])) ++ (opens ∷ (events_at (d + 1) z ++ closes ∷ [])))))
unfolding events_at Below
if-else-child f (at-if-else {x = x} {y = y} {z = z} r p q o c e g) = record { x = x; y = y; z = z; falls = omega (arith, f.first, r.first); falls₂ = omega (arith, f.second, r.second); falls₃ = omega (arith, f.third, r.third); holds = moved (f.first ∙ r.first) c; holds₂ = moved (f.second ∙ r.second) e; holds₃ = moved (f.third ∙ r.third) g; events = λ d. rw (f.token ∙ r.token, add-one) (regroup (thing d _) (events_at d x) (events_at (suc d) y) (events_at (suc d) z)); below = λ b. b.1.0; below₂ = λ b. b.1.1.0; below₃ = λ b. b.1.1.1 }

pub if-else-node : {l : List ℕ} {s : Sort} {i : ℕ} {n : Node} {t : Ast s} → Fetched l i n → n.kind ≡ kind.IfElse → Holds l i t → Three l i n.first n.second n.third t cond stmt stmt (λ d x y z. thing d n.token ∷ (events_at d x ++ ((opens ∷ (events_at (d + 1) y ++ closes ∷ [])) ++ (opens ∷ (events_at (d + 1) z ++ closes ∷ [])))))
if-else-node f e h = if-else-child f (at-kind n_if_else f (ap node_number e) h)

-- ---- pairs

pub pair : {l : List ℕ} {s₀ s₁ s₂ : Sort} {i a b u v j k : ℕ} {t : Ast s₀} {x : Ast s₁} {y : Ast s₂} → level s₁ ≡ level s₀ → level s₂ ≡ level s₀ → u ≡ a → v ≡ b → a < i → b < i → At l s₁ a j x → At l s₂ b k y → ((d : ℕ) → events_at d t ≡ events_at d x ++ events_at d y) → (Below 65536 t → Below 65536 x × Below 65536 y) → Pair l i u v t
pair {s₁ = s₁} {s₂ = s₂} {x = x} {y = y} m o f g p q c e h b = record { s₁ = s₁; s₂ = s₂; same = m; same₂ = o; two = record { x = x; y = y; falls = omega arith; falls₂ = omega arith; holds = moved f c; holds₂ = moved g e; events = h; below = λ z. (b z).0; below₂ = λ z. (b z).1 } }

-- the kinds of pairs in an expression or a condition
pub data Joint : ℕ → Type 0 where
  times : Joint n_times
  plus : Joint n_plus
  minus : Joint n_minus
  compare : Joint n_compare
  both : Joint n_both
  either : Joint n_either

pub joint : {k : NodeKind} → (k ≡ kind.Times) ⊎ ((k ≡ kind.Plus) ⊎ ((k ≡ kind.Minus) ⊎ ((k ≡ kind.Compare) ⊎ ((k ≡ kind.Both) ⊎ (k ≡ kind.Either))))) → Joint (node_number k)
joint (inl e) = subst Joint (sym (ap node_number e)) times
joint (inr (inl e)) = subst Joint (sym (ap node_number e)) plus
joint (inr (inr (inl e))) = subst Joint (sym (ap node_number e)) minus
joint (inr (inr (inr (inl e)))) = subst Joint (sym (ap node_number e)) compare
joint (inr (inr (inr (inr (inl e))))) = subst Joint (sym (ap node_number e)) both
joint (inr (inr (inr (inr (inr e))))) = subst Joint (sym (ap node_number e)) either

pub not-joint : {k : ℕ} → (k ≡ n_times → ⊥) → (k ≡ n_plus → ⊥) → (k ≡ n_minus → ⊥) → (k ≡ n_compare → ⊥) → (k ≡ n_both → ⊥) → (k ≡ n_either → ⊥) → Joint k → ⊥
not-joint n0 _ _ _ _ _ times = n0 refl
not-joint _ n1 _ _ _ _ plus = n1 refl
not-joint _ _ n2 _ _ _ minus = n2 refl
not-joint _ _ _ n3 _ _ compare = n3 refl
not-joint _ _ _ _ n4 _ both = n4 refl
not-joint _ _ _ _ _ n5 either = n5 refl

joint-child : {l : List ℕ} {s : Sort} {i k : ℕ} {n : Node} {t : Ast s} → Joint k → Fetched l i n → At l s i k t → Pair l i n.first n.second t
unfolding events_at Below
joint-child times f (at-times r p q x y) = pair refl refl (f.first ∙ r.first) (f.second ∙ r.second) p q x y (λ d. refl) (λ b. b)
joint-child plus f (at-plus r p q x y) = pair refl refl (f.first ∙ r.first) (f.second ∙ r.second) p q x y (λ d. refl) (λ b. b)
joint-child minus f (at-minus r p q x y) = pair refl refl (f.first ∙ r.first) (f.second ∙ r.second) p q x y (λ d. refl) (λ b. b)
joint-child compare f (at-compare r p q x y) = pair refl refl (f.first ∙ r.first) (f.second ∙ r.second) p q x y (λ d. refl) (λ b. b)
joint-child both f (at_both r p q x y) = pair refl refl (f.first ∙ r.first) (f.second ∙ r.second) p q x y (λ d. refl) (λ b. b)
joint-child either f (at-either r p q x y) = pair refl refl (f.first ∙ r.first) (f.second ∙ r.second) p q x y (λ d. refl) (λ b. b)

pub joint-node : {l : List ℕ} {s : Sort} {i : ℕ} {n : Node} {t : Ast s} → Joint (node_number n.kind) → Fetched l i n → Holds l i t → Pair l i n.first n.second t
joint-node {n = n} j f h = joint-child j f (at-kind (node_number n.kind) f refl h)

more-stmts-child : {l : List ℕ} {s : Sort} {i : ℕ} {n : Node} {t : Ast s} → Fetched l i n → At l s i n_more_stmts t → Pair l i n.first n.second t
unfolding events_at Below
more-stmts-child f (at-more-stmts r p q x y) = pair refl refl (f.first ∙ r.first) (f.second ∙ r.second) p q x y (λ d. refl) (λ b. b)

pub more-stmts-node : {l : List ℕ} {s : Sort} {i : ℕ} {n : Node} {t : Ast s} → Fetched l i n → n.kind ≡ kind.MoreStmts → Holds l i t → Pair l i n.first n.second t
more-stmts-node f e h = more-stmts-child f (at-kind n_more_stmts f (ap node_number e) h)

more-funs-child : {l : List ℕ} {s : Sort} {i : ℕ} {n : Node} {t : Ast s} → Fetched l i n → At l s i n_more_funs t → Pair l i n.first n.second t
unfolding events_at Below
more-funs-child f (at-more-funs r p q x y) = pair refl refl (f.first ∙ r.first) (f.second ∙ r.second) p q x y (λ d. refl) (λ b. b)

pub more-funs-node : {l : List ℕ} {s : Sort} {i : ℕ} {n : Node} {t : Ast s} → Fetched l i n → n.kind ≡ kind.MoreFuns → Holds l i t → Pair l i n.first n.second t
more-funs-node f e h = more-funs-child f (at-kind n_more_funs f (ap node_number e) h)
