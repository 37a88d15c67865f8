-- What the kind of a node says of the tree that stands there, and of its code: expressions, conditions and arguments.
use Rattle.std.proofs.Common.{◌≡◌, ℕ, ◌+◌, ◌<◌, ◌≤◌, true, false, List, [], ◌∷◌, ◌++◌, length, pos, ◌-ℤ◌, ◌⊎◌, inl, inr, sym, refl, ap, subst, ◌∙◌, zero-add, arith}
use Rattle.semantics.specs.Program.{slot, Exprs}
use Rattle.syntax.specs.declared.node.Node.{Node}
use Rattle.syntax.specs.declared.node.NodeKind.{NodeKind}
use Rattle.syntax.specs.declared.node.NodeKind.TheVariants as kind
use Rattle.syntax.specs.NodeKinds.{node_number}
use Rattle.syntax.proofs.SameKinds.{same-node}
use Rattle.syntax.specs.Fetch.{Fetched}
use Rattle.syntax.specs.Tree as T
use Rattle.syntax.specs.Ast.{Sort, Ast, expr, args, cond}
use Rattle.syntax.specs.Table.{At, Holds, cmp_number, n_number, n_negative, n_name, n_call, n_bracket, n_times, n_plus, n_minus, n_no_args, n_more_args, n_always, n_never, n_compare, n_both, n_either, at-number, at-negative, at_name, at_call, at_bracket, at-times, at-plus, at-minus, at_no_args, at-more-args, at-always, at-never, at-compare, at_both, at-either, at-empty, at-declare, at-declare-free, at-declare-own, at-assign, at-eval, at_block, at-if-else, at-while, at_return, at-fail, at-no-stmts, at-more-stmts, at-braced, at-no-params, at-more-params, at-function, at-no-funs, at-more-funs}
use Rattle.events.specs.Event.{count}
use Rattle.events.specs.Visit.{level}
use Rattle.events.proofs.Nodes.{at-kind, moved}
use Rattle.ints.specs.Numbers.{comparison}
use Rattle.text_rules.specs.Resolve.{part}
use Rattle.text_rules.specs.Resolve as R
use Rattle.simulation.specs.Code.{Entry, number, name, operate, compare, call, constant, jump, leaf, argument, act, code_e, code_c}
use Rattle.simulation.specs.Code as Code
use Rattle.compiler.specs.Coded.{coded}
use Rattle.compiler.specs.Sound.{Sound}
use Rattle.compiler.specs.Pass.{operation_of, jump_of}
use Rattle.compiler.proofs.Parts.{args-code, args_count}

module _ (value means : ℕ → ℕ) (m : ℕ) where
  abbrev Ok : {s : Sort} → Ast s → Type 0
  Ok t = Sound m value means t

  -- the code of a node without children is es; a sound tree there has the property Q
  pub record None {s : Sort} (t : Ast s) (es : List Entry) (Q : Type 0) : Type 0 where
    pub code : coded value means t ≡ es
    pub own : Ok t → Q

  -- the tree t at node i has the child x at node a, whose code is within its own
  pub record One (l : List ℕ) (i a : ℕ) {s : Sort} (t : Ast s) (s₁ : Sort) (f : Ast s₁ → List Entry) (Q : Ast s₁ → Type 0) : Type 0 where
    pub x : Ast s₁
    pub falls : a < i
    pub holds : Holds l a x
    pub code : coded value means t ≡ f x
    pub sound : Ok t → Ok x
    pub own : Ok t → Q x

  pub record Two (l : List ℕ) (i a b : ℕ) {s : Sort} (t : Ast s) (s₁ s₂ : Sort) (f : Ast s₁ → Ast s₂ → List Entry) : Type 0 where
    pub x : Ast s₁
    pub y : Ast s₂
    pub falls : a < i
    pub falls₂ : b < i
    pub holds : Holds l a x
    pub holds₂ : Holds l b y
    pub code : coded value means t ≡ f x y
    pub sound : Ok t → Ok x
    pub sound₂ : Ok t → Ok y

  pub record Three (l : List ℕ) (i a b c : ℕ) {s : Sort} (t : Ast s) (s₁ s₂ s₃ : Sort) (f : Ast s₁ → Ast s₂ → Ast s₃ → List Entry) : Type 0 where
    pub x : Ast s₁
    pub y : Ast s₂
    pub z : Ast s₃
    pub falls : a < i
    pub falls₂ : b < i
    pub falls₃ : c < i
    pub holds : Holds l a x
    pub holds₂ : Holds l b y
    pub holds₃ : Holds l c z
    pub code : coded value means t ≡ f x y z
    pub sound : Ok t → Ok x
    pub sound₂ : Ok t → Ok y
    pub sound₃ : Ok t → Ok z

  -- ---- leaves

  number_at : {l : List ℕ} {s : Sort} {i : ℕ} {n : Node} {t : Ast s} → Fetched l i n → At l s i n_number t → None t (leaf (number (pos (value n.token))) ∷ []) ((n.token < m) × (value n.token < 2147483648))
  unfolding part code_e Sound
  number_at f (at-number r) = record { code = rw (f.token ∙ r.token); own = λ b. rw (f.token ∙ r.token) b }

  pub number-node : {l : List ℕ} {s : Sort} {i : ℕ} {n : Node} {t : Ast s} → Fetched l i n → n.kind ≡ kind.Number → Holds l i t → None t (leaf (number (pos (value n.token))) ∷ []) ((n.token < m) × (value n.token < 2147483648))
  number-node f e h = number_at f (at-kind n_number f (ap node_number e) h)

  negative-at : {l : List ℕ} {s : Sort} {i : ℕ} {n : Node} {t : Ast s} → Fetched l i n → At l s i n_negative t → None t (leaf (number (pos 0 -ℤ pos (value (n.token + 1)))) ∷ []) ((n.token + 1 < m) × (value (n.token + 1) < 2147483648))
  unfolding part code_e Sound
  negative-at f (at-negative r) = record { code = rw (f.token ∙ r.token); own = λ b. rw (f.token ∙ r.token) b }

  pub negative-node : {l : List ℕ} {s : Sort} {i : ℕ} {n : Node} {t : Ast s} → Fetched l i n → n.kind ≡ kind.Negative → Holds l i t → None t (leaf (number (pos 0 -ℤ pos (value (n.token + 1)))) ∷ []) ((n.token + 1 < m) × (value (n.token + 1) < 2147483648))
  negative-node f e h = negative-at f (at-kind n_negative f (ap node_number e) h)

  name-at : {l : List ℕ} {s : Sort} {i : ℕ} {n : Node} {t : Ast s} → Fetched l i n → At l s i n_name t → None t (leaf (name (slot (means n.token))) ∷ []) ((n.token < m) × (means n.token < 16))
  unfolding part code_e Sound
  name-at f (at_name r) = record { code = rw (f.token ∙ r.token); own = λ b. rw (f.token ∙ r.token) b }

  pub name-node : {l : List ℕ} {s : Sort} {i : ℕ} {n : Node} {t : Ast s} → Fetched l i n → n.kind ≡ kind.Name → Holds l i t → None t (leaf (name (slot (means n.token))) ∷ []) ((n.token < m) × (means n.token < 16))
  name-node f e h = name-at f (at-kind n_name f (ap node_number e) h)

  no-args-at : {l : List ℕ} {s : Sort} {i : ℕ} {t : Ast s} → At l s i n_no_args t → coded value means t ≡ []
  unfolding part code_e
  no-args-at (at_no_args r) = refl

  pub no-args-node : {l : List ℕ} {s : Sort} {i : ℕ} {n : Node} {t : Ast s} → Fetched l i n → n.kind ≡ kind.NoArgs → Holds l i t → coded value means t ≡ []
  no-args-node f e h = no-args-at (at-kind n_no_args f (ap node_number e) h)

  always-at : {l : List ℕ} {s : Sort} {i : ℕ} {t : Ast s} → At l s i n_always t → coded value means t ≡ act (constant true) ∷ []
  unfolding part code_c
  always-at (at-always r) = refl

  pub always-node : {l : List ℕ} {s : Sort} {i : ℕ} {n : Node} {t : Ast s} → Fetched l i n → n.kind ≡ kind.Always → Holds l i t → coded value means t ≡ act (constant true) ∷ []
  always-node f e h = always-at (at-kind n_always f (ap node_number e) h)

  never-at : {l : List ℕ} {s : Sort} {i : ℕ} {t : Ast s} → At l s i n_never t → coded value means t ≡ act (constant false) ∷ []
  unfolding part code_c
  never-at (at-never r) = refl

  pub never-node : {l : List ℕ} {s : Sort} {i : ℕ} {n : Node} {t : Ast s} → Fetched l i n → n.kind ≡ kind.Never → Holds l i t → coded value means t ≡ act (constant false) ∷ []
  never-node f e h = never-at (at-kind n_never f (ap node_number e) h)

  -- ---- one child

  -- a call, by its function's number and its count of arguments
  call_at : {l : List ℕ} {s : Sort} {i : ℕ} {n : Node} {t : Ast s} → Fetched l i n → At l s i n_call t → One l i n.first t args (λ x. coded value means x ++ act (call (means n.token) (count x)) ∷ []) (λ x. (n.token < m) × (means n.token < 16) × (count x ≤ 4))
  unfolding part code_e Code.count Sound
  call_at f (at_call {x = x} r p c) = record {
    x = x;
    falls = omega (arith, f.first, r.first);
    holds = moved (f.first ∙ r.first) c;
    code = rw (f.token ∙ r.token, args_count value means x Exprs.none 0, zero-add);
    sound = λ b. b.3;
    own = λ b. rw (f.token ∙ r.token) (b.0, b.1, b.2);
  }

  pub call-node : {l : List ℕ} {s : Sort} {i : ℕ} {n : Node} {t : Ast s} → Fetched l i n → n.kind ≡ kind.Call → Holds l i t → One l i n.first t args (λ x. coded value means x ++ act (call (means n.token) (count x)) ∷ []) (λ x. (n.token < m) × (means n.token < 16) × (count x ≤ 4))
  call-node f e h = call_at f (at-kind n_call f (ap node_number e) h)

  bracket-at : {l : List ℕ} {s : Sort} {i : ℕ} {n : Node} {t : Ast s} → Fetched l i n → At l s i n_bracket t → One l i n.first t expr (λ x. coded value means x) (λ x. Unit)
  unfolding part Sound
  bracket-at f (at_bracket {x = x} r p c) = record { x = x; falls = omega (arith, f.first, r.first); holds = moved (f.first ∙ r.first) c; code = refl; sound = λ b. b; own = λ b. tt }

  pub bracket-node : {l : List ℕ} {s : Sort} {i : ℕ} {n : Node} {t : Ast s} → Fetched l i n → n.kind ≡ kind.Bracket → Holds l i t → One l i n.first t expr (λ x. coded value means x) (λ x. Unit)
  bracket-node f e h = bracket-at f (at-kind n_bracket f (ap node_number e) h)

  -- ---- `&&` and `||`

  pub data Junction : ℕ → Type 0 where
    both : Junction n_both
    either : Junction n_either

  junction-at : {l : List ℕ} {s : Sort} {i k : ℕ} {n : Node} {t : Ast s} → Junction k → Fetched l i n → At l s i k t → Two l i n.first n.second t cond cond (λ x y. coded value means x ++ act (jump (jump_of k) (length (coded value means y))) ∷ coded value means y)
  unfolding part code_c Sound jump_of
  junction-at both f (at_both {x = x} {y = y} r p q c e) = record { x = x; y = y; falls = omega (arith, f.first, r.first); falls₂ = omega (arith, f.second, r.second); holds = moved (f.first ∙ r.first) c; holds₂ = moved (f.second ∙ r.second) e; code = refl; sound = λ b. b.0; sound₂ = λ b. b.1 }
  junction-at either f (at-either {x = x} {y = y} r p q c e) = record { x = x; y = y; falls = omega (arith, f.first, r.first); falls₂ = omega (arith, f.second, r.second); holds = moved (f.first ∙ r.first) c; holds₂ = moved (f.second ∙ r.second) e; code = refl; sound = λ b. b.0; sound₂ = λ b. b.1 }

  pub junction-node : {l : List ℕ} {s : Sort} {i : ℕ} {n : Node} {t : Ast s} → Junction (node_number n.kind) → Fetched l i n → Holds l i t → Two l i n.first n.second t cond cond (λ x y. coded value means x ++ act (jump (jump_of (node_number n.kind)) (length (coded value means y))) ∷ coded value means y)
  junction-node {n = n} j f h = junction-at j f (at-kind (node_number n.kind) f refl h)

  -- ---- two operands, or one argument more

  pub data Operation : ℕ → Type 0 where
    times : Operation n_times
    plus : Operation n_plus
    minus : Operation n_minus
    more-args : Operation n_more_args
    comparing : Operation n_compare

  pub record Operated (l : List ℕ) (i a b k c : ℕ) {s : Sort} (t : Ast s) : Type 0 where
    pub s₁ : Sort
    pub s₂ : Sort
    pub same : level s₁ ≡ 0
    pub same₂ : level s₂ ≡ 0
    pub few : c < 6
    pub two : Two l i a b t s₁ s₂ (λ x y. coded value means x ++ (coded value means y ++ operation_of k c (length (coded value means y)) ∷ []))

  comparison-few : (o : T.Cmp) → cmp_number o < 6
  comparison-few T.less = omega arith
  comparison-few T.less_eq = omega arith
  comparison-few T.greater = omega arith
  comparison-few T.greater_eq = omega arith
  comparison-few T.equal = omega arith
  comparison-few T.unequal = omega arith

  comparison-read : (o : T.Cmp) → comparison (cmp_number o) ≡ R.comparison o
  comparison-read T.less = refl
  comparison-read T.less_eq = refl
  comparison-read T.greater = refl
  comparison-read T.greater_eq = refl
  comparison-read T.equal = refl
  comparison-read T.unequal = refl

  operated-at : {l : List ℕ} {s : Sort} {i k : ℕ} {n : Node} {t : Ast s} → Operation k → Fetched l i n → At l s i k t → Operated l i n.first n.second k n.third t
  unfolding part code_e code_c Sound operation_of
  operated-at times f (at-times {o = T.product} {x = x} {y = y} r p q c e) = record {
    s₁ = expr;
    s₂ = expr;
    same = refl;
    same₂ = refl;
    few = omega (arith, f.third, r.third);
    two = record { x = x; y = y; falls = omega (arith, f.first, r.first); falls₂ = omega (arith, f.second, r.second); holds = moved (f.first ∙ r.first) c; holds₂ = moved (f.second ∙ r.second) e; code = refl; sound = λ b. b.0; sound₂ = λ b. b.1 };
  }
  operated-at plus f (at-plus {x = x} {y = y} r p q c e) = record {
    s₁ = expr;
    s₂ = expr;
    same = refl;
    same₂ = refl;
    few = omega (arith, f.third, r.third);
    two = record { x = x; y = y; falls = omega (arith, f.first, r.first); falls₂ = omega (arith, f.second, r.second); holds = moved (f.first ∙ r.first) c; holds₂ = moved (f.second ∙ r.second) e; code = refl; sound = λ b. b.0; sound₂ = λ b. b.1 };
  }
  operated-at minus f (at-minus {x = x} {y = y} r p q c e) = record {
    s₁ = expr;
    s₂ = expr;
    same = refl;
    same₂ = refl;
    few = omega (arith, f.third, r.third);
    two = record { x = x; y = y; falls = omega (arith, f.first, r.first); falls₂ = omega (arith, f.second, r.second); holds = moved (f.first ∙ r.first) c; holds₂ = moved (f.second ∙ r.second) e; code = refl; sound = λ b. b.0; sound₂ = λ b. b.1 };
  }
  operated-at more-args f (at-more-args {x = x} {y = y} r p q c e) = record {
    s₁ = args;
    s₂ = expr;
    same = refl;
    same₂ = refl;
    few = omega (arith, f.third, r.third);
    two = record { x = x; y = y; falls = omega (arith, f.first, r.first); falls₂ = omega (arith, f.second, r.second); holds = moved (f.first ∙ r.first) c; holds₂ = moved (f.second ∙ r.second) e; code = args-code value means x (Exprs.more (part value means y) Exprs.none); sound = λ b. b.0; sound₂ = λ b. b.1 };
  }
  operated-at comparing f (at-compare {o = o} {x = x} {y = y} r p q c e) = record {
    s₁ = expr;
    s₂ = expr;
    same = refl;
    same₂ = refl;
    few = omega (arith, f.third, r.third, comparison-few o);
    two = record { x = x; y = y; falls = omega (arith, f.first, r.first); falls₂ = omega (arith, f.second, r.second); holds = moved (f.first ∙ r.first) c; holds₂ = moved (f.second ∙ r.second) e; code = rw (f.third ∙ r.third, comparison-read o); sound = λ b. b.0; sound₂ = λ b. b.1 };
  }

  pub operated-node : {l : List ℕ} {s : Sort} {i : ℕ} {n : Node} {t : Ast s} → Operation (node_number n.kind) → Fetched l i n → Holds l i t → Operated l i n.first n.second (node_number n.kind) n.third t
  operated-node {n = n} j f h = operated-at j f (at-kind (node_number n.kind) f refl h)

  pub junction : {k : NodeKind} → (k ≡ kind.Both) ⊎ (k ≡ kind.Either) → Junction (node_number k)
  junction (inl e) = subst Junction (sym (ap node_number e)) both
  junction (inr e) = subst Junction (sym (ap node_number e)) either

  pub not-junction : {k : ℕ} → (k ≡ n_both → ⊥) → (k ≡ n_either → ⊥) → Junction k → ⊥
  not-junction a b both = a refl
  not-junction a b either = b refl

  -- the kinds that are left
  pub operation-left : {l : List ℕ} {s : Sort} {i k : ℕ} {t : Ast s} → level s ≡ 0 → At l s i k t → (k ≡ n_number → ⊥) → (k ≡ n_negative → ⊥) → (k ≡ n_name → ⊥) → (k ≡ n_call → ⊥) → (k ≡ n_bracket → ⊥) → (k ≡ n_no_args → ⊥) → (k ≡ n_always → ⊥) → (k ≡ n_never → ⊥) → (Junction k → ⊥) → Operation k
  operation-left h (at-number r) n _ _ _ _ _ _ _ _ = absurd (n refl)
  operation-left h (at-negative r) _ n _ _ _ _ _ _ _ = absurd (n refl)
  operation-left h (at_name r) _ _ n _ _ _ _ _ _ = absurd (n refl)
  operation-left h (at_call r p x) _ _ _ n _ _ _ _ _ = absurd (n refl)
  operation-left h (at_bracket r p x) _ _ _ _ n _ _ _ _ = absurd (n refl)
  operation-left h (at-times r p q x y) _ _ _ _ _ _ _ _ _ = times
  operation-left h (at-plus r p q x y) _ _ _ _ _ _ _ _ _ = plus
  operation-left h (at-minus r p q x y) _ _ _ _ _ _ _ _ _ = minus
  operation-left h (at_no_args r) _ _ _ _ _ n _ _ _ = absurd (n refl)
  operation-left h (at-more-args r p q x y) _ _ _ _ _ _ _ _ _ = more-args
  operation-left h (at-always r) _ _ _ _ _ _ n _ _ = absurd (n refl)
  operation-left h (at-never r) _ _ _ _ _ _ _ n _ = absurd (n refl)
  operation-left h (at-compare r p q x y) _ _ _ _ _ _ _ _ _ = comparing
  operation-left h (at_both r p q x y) _ _ _ _ _ _ _ _ n = absurd (n both)
  operation-left h (at-either r p q x y) _ _ _ _ _ _ _ _ n = absurd (n either)
  operation-left h (at-empty r) _ _ _ _ _ _ _ _ _ = absurd (omega (arith, h))
  operation-left h (at-declare r) _ _ _ _ _ _ _ _ _ = absurd (omega (arith, h))
  operation-left h (at-declare-free r) _ _ _ _ _ _ _ _ _ = absurd (omega (arith, h))
  operation-left h (at-declare-own r) _ _ _ _ _ _ _ _ _ = absurd (omega (arith, h))
  operation-left h (at-assign r p x) _ _ _ _ _ _ _ _ _ = absurd (omega (arith, h))
  operation-left h (at-eval r p x) _ _ _ _ _ _ _ _ _ = absurd (omega (arith, h))
  operation-left h (at_block r p x) _ _ _ _ _ _ _ _ _ = absurd (omega (arith, h))
  operation-left h (at-if-else r p q o x y z) _ _ _ _ _ _ _ _ _ = absurd (omega (arith, h))
  operation-left h (at-while r p q x y) _ _ _ _ _ _ _ _ _ = absurd (omega (arith, h))
  operation-left h (at_return r p x) _ _ _ _ _ _ _ _ _ = absurd (omega (arith, h))
  operation-left h (at-fail r) _ _ _ _ _ _ _ _ _ = absurd (omega (arith, h))
  operation-left h (at-no-stmts r) _ _ _ _ _ _ _ _ _ = absurd (omega (arith, h))
  operation-left h (at-more-stmts r p q x y) _ _ _ _ _ _ _ _ _ = absurd (omega (arith, h))
  operation-left h (at-braced r p x) _ _ _ _ _ _ _ _ _ = absurd (omega (arith, h))
  operation-left h (at-no-params r) _ _ _ _ _ _ _ _ _ = absurd (omega (arith, h))
  operation-left h (at-more-params r p x) _ _ _ _ _ _ _ _ _ = absurd (omega (arith, h))
  operation-left h (at-function r p q x y) _ _ _ _ _ _ _ _ _ = absurd (omega (arith, h))
  operation-left h (at-no-funs r) _ _ _ _ _ _ _ _ _ = absurd (omega (arith, h))
  operation-left h (at-more-funs r p q x y) _ _ _ _ _ _ _ _ _ = absurd (omega (arith, h))

  -- the kind of a node, by the arms that it is none of
  pub operation-node : {l : List ℕ} {s : Sort} {i : ℕ} {n : Node} {t : Ast s} → level s ≡ 0 → Fetched l i n → Holds l i t → (n.kind ≡ kind.Number → ⊥) → (n.kind ≡ kind.Negative → ⊥) → (n.kind ≡ kind.Name → ⊥) → (n.kind ≡ kind.Call → ⊥) → (n.kind ≡ kind.Bracket → ⊥) → (n.kind ≡ kind.NoArgs → ⊥) → (n.kind ≡ kind.Always → ⊥) → (n.kind ≡ kind.Never → ⊥) → (n.kind ≡ kind.Both → ⊥) → (n.kind ≡ kind.Either → ⊥) → Operation (node_number n.kind)
  operation-node {n = n} v fetched w a b c d e f g h j k = operation-left v (at-kind (node_number n.kind) fetched refl w) (λ q. a (same-node q)) (λ q. b (same-node q)) (λ q. c (same-node q)) (λ q. d (same-node q)) (λ q. e (same-node q)) (λ q. f (same-node q)) (λ q. g (same-node q)) (λ q. h (same-node q)) (not-junction (λ q. j (same-node q)) (λ q. k (same-node q)))
