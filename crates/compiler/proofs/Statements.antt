-- What the kind of a node says of the tree that stands there, and of its code: statements.
use Rattle.std.proofs.Common.{◌≡◌, ℕ, suc, ◌+◌, ◌<◌, Bool, false, List, [], ◌∷◌, ◌++◌, length, refl, ap, ◌∙◌, append-nil, arith}
use Rattle.semantics.specs.Program.{slot, Stmts}
use Rattle.syntax.specs.declared.node.Node.{Node}
use Rattle.syntax.specs.declared.node.NodeKind.TheVariants as kind
use Rattle.syntax.specs.NodeKinds.{node_number}
use Rattle.syntax.proofs.SameKinds.{same-node}
use Rattle.syntax.specs.Fetch.{Fetched}
use Rattle.syntax.specs.Ast.{Sort, Ast, expr, cond, stmt, stmts, body, bit, low_first, low_number, high_number}
use Rattle.syntax.specs.Table.{n_no_stmts, At, Holds, n_empty, n_declare, n_declare_free, n_declare_own, n_assign, n_eval, n_block, n_if_else, n_while, n_return, n_fail, n_more_stmts, n_braced, at-number, at-negative, at_name, at_call, at_bracket, at-times, at-plus, at-minus, at_no_args, at-more-args, at-always, at-never, at-compare, at_both, at-either, at-empty, at-declare, at-declare-free, at-declare-own, at-assign, at-eval, at_block, at-if-else, at-while, at_return, at-fail, at-no-stmts, at-more-stmts, at-braced, at-no-params, at-more-params, at-function, at-no-funs, at-more-funs}
use Rattle.events.specs.Visit.{level}
use Rattle.events.proofs.Nodes.{at-kind, moved}
use Rattle.text_rules.specs.Resolve.{part}
use Rattle.simulation.specs.Code.{Entry, jump, skip, again, begin, ask, store, return, fail, act, code_s}
use Rattle.compiler.specs.Coded.{coded}
use Rattle.compiler.specs.Sound.{Sound}
use Rattle.compiler.specs.Pass.{own_code}
use Rattle.compiler.proofs.Parts.{stmts-code}
use Rattle.compiler.proofs.Nodes.{None, One, Two, Three}

module _ (value means : ℕ → ℕ) (m : ℕ) where
  abbrev size : {s : Sort} → Ast s → ℕ
  size x = length (coded value means x)

  -- ---- no child

  empty-at : {l : List ℕ} {s : Sort} {i : ℕ} {n : Node} {t : Ast s} → Fetched l i n → At l s i n_empty t → None value means m t (act begin ∷ []) Unit
  unfolding part code_s Sound
  empty-at f (at-empty r) = record { code = refl; own = λ b. tt }

  pub empty-node : {l : List ℕ} {s : Sort} {i : ℕ} {n : Node} {t : Ast s} → Fetched l i n → n.kind ≡ kind.Empty → Holds l i t → None value means m t (act begin ∷ []) Unit
  empty-node f e h = empty-at f (at-kind n_empty f (ap node_number e) h)

  fail-at : {l : List ℕ} {s : Sort} {i : ℕ} {n : Node} {t : Ast s} → Fetched l i n → At l s i n_fail t → None value means m t (act begin ∷ (act fail ∷ [])) Unit
  unfolding part code_s Sound
  fail-at f (at-fail r) = record { code = refl; own = λ b. tt }

  pub fail-node : {l : List ℕ} {s : Sort} {i : ℕ} {n : Node} {t : Ast s} → Fetched l i n → n.kind ≡ kind.Fail → Holds l i t → None value means m t (act begin ∷ (act fail ∷ [])) Unit
  fail-node f e h = fail-at f (at-kind n_fail f (ap node_number e) h)

  declare-at : {l : List ℕ} {s : Sort} {i : ℕ} {n : Node} {t : Ast s} → Fetched l i n → At l s i n_declare t → None value means m t (act begin ∷ []) Unit
  unfolding part code_s Sound
  declare-at f (at-declare r) = record { code = refl; own = λ b. tt }

  pub declare-node : {l : List ℕ} {s : Sort} {i : ℕ} {n : Node} {t : Ast s} → Fetched l i n → n.kind ≡ kind.Declare → Holds l i t → None value means m t (act begin ∷ []) Unit
  declare-node f e h = declare-at f (at-kind n_declare f (ap node_number e) h)

  free-at : {l : List ℕ} {s : Sort} {i : ℕ} {n : Node} {t : Ast s} → Fetched l i n → At l s i n_declare_free t → None value means m t (act (ask (slot (means (n.token + 1)))) ∷ []) ((n.token + 1 < m) × (means (n.token + 1) < 16))
  unfolding part code_s Sound
  free-at f (at-declare-free r) = record { code = rw (f.token ∙ r.token); own = λ b. rw (f.token ∙ r.token) b }

  pub free-node : {l : List ℕ} {s : Sort} {i : ℕ} {n : Node} {t : Ast s} → Fetched l i n → n.kind ≡ kind.DeclareFree → Holds l i t → None value means m t (act (ask (slot (means (n.token + 1)))) ∷ []) ((n.token + 1 < m) × (means (n.token + 1) < 16))
  free-node f e h = free-at f (at-kind n_declare_free f (ap node_number e) h)

  -- the words of the node say which of the ends have a minus
  pub record OwnNode (n : Node) {s : Sort} (t : Ast s) : Type 0 where
    pub low : Bool
    pub high : Bool
    pub first : n.first ≡ bit low
    pub second : n.second ≡ bit high
    pub code : coded value means t ≡ own_code value means n.token low high
    pub inside : Sound m value means t → (high_number (low_first n.token) low high < m) × (means (n.token + 1) < 16) × (value (low_number (low_first n.token) low) < 2147483648) × (value (high_number (low_first n.token) low high) < 2147483648)

  own_at : {l : List ℕ} {s : Sort} {i : ℕ} {n : Node} {t : Ast s} → Fetched l i n → At l s i n_declare_own t → OwnNode n t
  unfolding part code_s Sound
  own_at f (at-declare-own {a = a} {b = b} r) = record {
    low = a;
    high = b;
    first = f.first ∙ r.first;
    second = f.second ∙ r.second;
    code = rw (f.token ∙ r.token);
    inside = λ s. rw (f.token ∙ r.token) (s.0, s.1, s.2, s.3);
  }

  pub own-node : {l : List ℕ} {s : Sort} {i : ℕ} {n : Node} {t : Ast s} → Fetched l i n → n.kind ≡ kind.DeclareOwn → Holds l i t → OwnNode n t
  own-node f e h = own_at f (at-kind n_declare_own f (ap node_number e) h)

  -- ---- one child

  assign-at : {l : List ℕ} {s : Sort} {i : ℕ} {n : Node} {t : Ast s} → Fetched l i n → At l s i n_assign t → One value means m l i n.first t expr (λ x. act begin ∷ (coded value means x ++ act (store (slot (means n.token))) ∷ [])) (λ x. (n.token < m) × (means n.token < 16))
  unfolding part code_s Sound
  assign-at f (at-assign {x = x} r p c) = record { x = x; falls = omega (arith, f.first, r.first); holds = moved (f.first ∙ r.first) c; code = rw (f.token ∙ r.token); sound = λ b. b.2; own = λ b. rw (f.token ∙ r.token) (b.0, b.1) }

  pub assign-node : {l : List ℕ} {s : Sort} {i : ℕ} {n : Node} {t : Ast s} → Fetched l i n → n.kind ≡ kind.Assign → Holds l i t → One value means m l i n.first t expr (λ x. act begin ∷ (coded value means x ++ act (store (slot (means n.token))) ∷ [])) (λ x. (n.token < m) × (means n.token < 16))
  assign-node f e h = assign-at f (at-kind n_assign f (ap node_number e) h)

  eval-at : {l : List ℕ} {s : Sort} {i : ℕ} {n : Node} {t : Ast s} → Fetched l i n → At l s i n_eval t → One value means m l i n.first t expr (λ x. act begin ∷ coded value means x) (λ x. Unit)
  unfolding part code_s Sound
  eval-at f (at-eval {x = x} r p c) = record { x = x; falls = omega (arith, f.first, r.first); holds = moved (f.first ∙ r.first) c; code = refl; sound = λ b. b; own = λ b. tt }

  pub eval-node : {l : List ℕ} {s : Sort} {i : ℕ} {n : Node} {t : Ast s} → Fetched l i n → n.kind ≡ kind.Eval → Holds l i t → One value means m l i n.first t expr (λ x. act begin ∷ coded value means x) (λ x. Unit)
  eval-node f e h = eval-at f (at-kind n_eval f (ap node_number e) h)

  block_at : {l : List ℕ} {s : Sort} {i : ℕ} {n : Node} {t : Ast s} → Fetched l i n → At l s i n_block t → One value means m l i n.first t body (λ x. act begin ∷ coded value means x) (λ x. Unit)
  unfolding part code_s Sound
  block_at f (at_block {x = x} r p c) = record { x = x; falls = omega (arith, f.first, r.first); holds = moved (f.first ∙ r.first) c; code = refl; sound = λ b. b; own = λ b. tt }

  pub block-node : {l : List ℕ} {s : Sort} {i : ℕ} {n : Node} {t : Ast s} → Fetched l i n → n.kind ≡ kind.Block → Holds l i t → One value means m l i n.first t body (λ x. act begin ∷ coded value means x) (λ x. Unit)
  block-node f e h = block_at f (at-kind n_block f (ap node_number e) h)

  return-at : {l : List ℕ} {s : Sort} {i : ℕ} {n : Node} {t : Ast s} → Fetched l i n → At l s i n_return t → One value means m l i n.first t expr (λ x. act begin ∷ (coded value means x ++ act return ∷ [])) (λ x. Unit)
  unfolding part code_s Sound
  return-at f (at_return {x = x} r p c) = record { x = x; falls = omega (arith, f.first, r.first); holds = moved (f.first ∙ r.first) c; code = refl; sound = λ b. b; own = λ b. tt }

  pub return-node : {l : List ℕ} {s : Sort} {i : ℕ} {n : Node} {t : Ast s} → Fetched l i n → n.kind ≡ kind.Return → Holds l i t → One value means m l i n.first t expr (λ x. act begin ∷ (coded value means x ++ act return ∷ [])) (λ x. Unit)
  return-node f e h = return-at f (at-kind n_return f (ap node_number e) h)

  braced-at : {l : List ℕ} {s : Sort} {i : ℕ} {n : Node} {t : Ast s} → Fetched l i n → At l s i n_braced t → One value means m l i n.first t stmts (λ x. coded value means x) (λ x. Unit)
  unfolding part code_s Sound
  braced-at f (at-braced {x = x} r p c) = record { x = x; falls = omega (arith, f.first, r.first); holds = moved (f.first ∙ r.first) c; code = refl; sound = λ b. b; own = λ b. tt }

  pub braced-node : {l : List ℕ} {s : Sort} {i : ℕ} {n : Node} {t : Ast s} → Fetched l i n → n.kind ≡ kind.Braced → Holds l i t → One value means m l i n.first t stmts (λ x. coded value means x) (λ x. Unit)
  braced-node f e h = braced-at f (at-kind n_braced f (ap node_number e) h)

  -- ---- two and three children

  while-at : {l : List ℕ} {s : Sort} {i : ℕ} {n : Node} {t : Ast s} → Fetched l i n → At l s i n_while t → Two value means m l i n.first n.second t cond stmt (λ x y. act begin ∷ (coded value means x ++ act (jump false (suc (size y))) ∷ (coded value means y ++ act (again (size x + suc (size y))) ∷ [])))
  unfolding part code_s Sound
  while-at f (at-while {x = x} {y = y} r p q c e) = record { x = x; y = y; falls = omega (arith, f.first, r.first); falls₂ = omega (arith, f.second, r.second); holds = moved (f.first ∙ r.first) c; holds₂ = moved (f.second ∙ r.second) e; code = refl; sound = λ b. b.0; sound₂ = λ b. b.1 }

  pub while-node : {l : List ℕ} {s : Sort} {i : ℕ} {n : Node} {t : Ast s} → Fetched l i n → n.kind ≡ kind.While → Holds l i t → Two value means m l i n.first n.second t cond stmt (λ x y. act begin ∷ (coded value means x ++ act (jump false (suc (size y))) ∷ (coded value means y ++ act (again (size x + suc (size y))) ∷ [])))
  while-node f e h = while-at f (at-kind n_while f (ap node_number e) h)

  more-stmts-at : {l : List ℕ} {s : Sort} {i : ℕ} {n : Node} {t : Ast s} → Fetched l i n → At l s i n_more_stmts t → Two value means m l i n.first n.second t stmts stmt (λ x y. coded value means x ++ coded value means y)
  unfolding part code_s Sound
  more-stmts-at f (at-more-stmts {x = x} {y = y} r p q c e) = record { x = x; y = y; falls = omega (arith, f.first, r.first); falls₂ = omega (arith, f.second, r.second); holds = moved (f.first ∙ r.first) c; holds₂ = moved (f.second ∙ r.second) e; code = stmts-code value means x (Stmts.next (part value means y) Stmts.end) ∙ ap (λ (z : List Entry). coded value means x ++ z) (append-nil (coded value means y)); sound = λ b. b.0; sound₂ = λ b. b.1 }

  pub more-stmts-node : {l : List ℕ} {s : Sort} {i : ℕ} {n : Node} {t : Ast s} → Fetched l i n → n.kind ≡ kind.MoreStmts → Holds l i t → Two value means m l i n.first n.second t stmts stmt (λ x y. coded value means x ++ coded value means y)
  more-stmts-node f e h = more-stmts-at f (at-kind n_more_stmts f (ap node_number e) h)

  if-else-at : {l : List ℕ} {s : Sort} {i : ℕ} {n : Node} {t : Ast s} → Fetched l i n → At l s i n_if_else t → Three value means m l i n.first n.second n.third t cond stmt stmt (λ x y z. act begin ∷ (coded value means x ++ act (jump false (suc (size y))) ∷ (coded value means y ++ act (skip (size z)) ∷ coded value means z)))
  unfolding part code_s Sound
  if-else-at f (at-if-else {x = x} {y = y} {z = z} r p q o c e g) = record { x = x; y = y; z = z; falls = omega (arith, f.first, r.first); falls₂ = omega (arith, f.second, r.second); falls₃ = omega (arith, f.third, r.third); holds = moved (f.first ∙ r.first) c; holds₂ = moved (f.second ∙ r.second) e; holds₃ = moved (f.third ∙ r.third) g; code = refl; sound = λ b. b.0; sound₂ = λ b. b.1; sound₃ = λ b. b.2 }

  pub if-else-node : {l : List ℕ} {s : Sort} {i : ℕ} {n : Node} {t : Ast s} → Fetched l i n → n.kind ≡ kind.IfElse → Holds l i t → Three value means m l i n.first n.second n.third t cond stmt stmt (λ x y z. act begin ∷ (coded value means x ++ act (jump false (suc (size y))) ∷ (coded value means y ++ act (skip (size z)) ∷ coded value means z)))
  if-else-node f e h = if-else-at f (at-kind n_if_else f (ap node_number e) h)

  -- ---- the kind that is left

  pub silent : {l : List ℕ} {s : Sort} {i k : ℕ} {t : Ast s} → level s ≡ 1 → At l s i k t → (k ≡ n_empty → ⊥) → (k ≡ n_declare → ⊥) → (k ≡ n_declare_free → ⊥) → (k ≡ n_assign → ⊥) → (k ≡ n_eval → ⊥) → (k ≡ n_block → ⊥) → (k ≡ n_if_else → ⊥) → (k ≡ n_while → ⊥) → (k ≡ n_return → ⊥) → (k ≡ n_fail → ⊥) → (k ≡ n_more_stmts → ⊥) → (k ≡ n_braced → ⊥) → (k ≡ n_declare_own → ⊥) → k ≡ n_no_stmts
  silent h (at-number r) _ _ _ _ _ _ _ _ _ _ _ _ _ = absurd (omega (arith, h))
  silent h (at-negative r) _ _ _ _ _ _ _ _ _ _ _ _ _ = absurd (omega (arith, h))
  silent h (at_name r) _ _ _ _ _ _ _ _ _ _ _ _ _ = absurd (omega (arith, h))
  silent h (at_call r p x) _ _ _ _ _ _ _ _ _ _ _ _ _ = absurd (omega (arith, h))
  silent h (at_bracket r p x) _ _ _ _ _ _ _ _ _ _ _ _ _ = absurd (omega (arith, h))
  silent h (at-times r p q x y) _ _ _ _ _ _ _ _ _ _ _ _ _ = absurd (omega (arith, h))
  silent h (at-plus r p q x y) _ _ _ _ _ _ _ _ _ _ _ _ _ = absurd (omega (arith, h))
  silent h (at-minus r p q x y) _ _ _ _ _ _ _ _ _ _ _ _ _ = absurd (omega (arith, h))
  silent h (at_no_args r) _ _ _ _ _ _ _ _ _ _ _ _ _ = absurd (omega (arith, h))
  silent h (at-more-args r p q x y) _ _ _ _ _ _ _ _ _ _ _ _ _ = absurd (omega (arith, h))
  silent h (at-always r) _ _ _ _ _ _ _ _ _ _ _ _ _ = absurd (omega (arith, h))
  silent h (at-never r) _ _ _ _ _ _ _ _ _ _ _ _ _ = absurd (omega (arith, h))
  silent h (at-compare r p q x y) _ _ _ _ _ _ _ _ _ _ _ _ _ = absurd (omega (arith, h))
  silent h (at_both r p q x y) _ _ _ _ _ _ _ _ _ _ _ _ _ = absurd (omega (arith, h))
  silent h (at-either r p q x y) _ _ _ _ _ _ _ _ _ _ _ _ _ = absurd (omega (arith, h))
  silent h (at-empty r) n _ _ _ _ _ _ _ _ _ _ _ _ = absurd (n refl)
  silent h (at-declare r) _ n _ _ _ _ _ _ _ _ _ _ _ = absurd (n refl)
  silent h (at-declare-free r) _ _ n _ _ _ _ _ _ _ _ _ _ = absurd (n refl)
  silent h (at-declare-own r) _ _ _ _ _ _ _ _ _ _ _ _ n = absurd (n refl)
  silent h (at-assign r p x) _ _ _ n _ _ _ _ _ _ _ _ _ = absurd (n refl)
  silent h (at-eval r p x) _ _ _ _ n _ _ _ _ _ _ _ _ = absurd (n refl)
  silent h (at_block r p x) _ _ _ _ _ n _ _ _ _ _ _ _ = absurd (n refl)
  silent h (at-if-else r p q o x y z) _ _ _ _ _ _ n _ _ _ _ _ _ = absurd (n refl)
  silent h (at-while r p q x y) _ _ _ _ _ _ _ n _ _ _ _ _ = absurd (n refl)
  silent h (at_return r p x) _ _ _ _ _ _ _ _ n _ _ _ _ = absurd (n refl)
  silent h (at-fail r) _ _ _ _ _ _ _ _ _ n _ _ _ = absurd (n refl)
  silent h (at-no-stmts r) _ _ _ _ _ _ _ _ _ _ _ _ _ = refl
  silent h (at-more-stmts r p q x y) _ _ _ _ _ _ _ _ _ _ n _ _ = absurd (n refl)
  silent h (at-braced r p x) _ _ _ _ _ _ _ _ _ _ _ n _ = absurd (n refl)
  silent h (at-no-params r) _ _ _ _ _ _ _ _ _ _ _ _ _ = absurd (omega (arith, h))
  silent h (at-more-params r p x) _ _ _ _ _ _ _ _ _ _ _ _ _ = absurd (omega (arith, h))
  silent h (at-function r p q x y) _ _ _ _ _ _ _ _ _ _ _ _ _ = absurd (omega (arith, h))
  silent h (at-no-funs r) _ _ _ _ _ _ _ _ _ _ _ _ _ = absurd (omega (arith, h))
  silent h (at-more-funs r p q x y) _ _ _ _ _ _ _ _ _ _ _ _ _ = absurd (omega (arith, h))

  no-stmts-at : {l : List ℕ} {s : Sort} {i : ℕ} {t : Ast s} → At l s i n_no_stmts t → coded value means t ≡ []
  unfolding part code_s
  no-stmts-at (at-no-stmts r) = refl

  -- a node of none of the other kinds, where some statement stands, is of that kind
  pub silent-node : {l : List ℕ} {s s₁ : Sort} {i : ℕ} {n : Node} {t : Ast s} {u : Ast s₁} → level s ≡ 1 → Fetched l i n → Holds l i t → (n.kind ≡ kind.Empty → ⊥) → (n.kind ≡ kind.Declare → ⊥) → (n.kind ≡ kind.DeclareFree → ⊥) → (n.kind ≡ kind.Assign → ⊥) → (n.kind ≡ kind.Eval → ⊥) → (n.kind ≡ kind.Block → ⊥) → (n.kind ≡ kind.IfElse → ⊥) → (n.kind ≡ kind.While → ⊥) → (n.kind ≡ kind.Return → ⊥) → (n.kind ≡ kind.Fail → ⊥) → (n.kind ≡ kind.MoreStmts → ⊥) → (n.kind ≡ kind.Braced → ⊥) → (n.kind ≡ kind.DeclareOwn → ⊥) → Holds l i u → coded value means u ≡ []
  silent-node {n = n} v fetched w a b c d e f g h j k m o p q = no-stmts-at (at-kind n_no_stmts fetched (silent v (at-kind (node_number n.kind) fetched refl w) (λ q. a (same-node q)) (λ q. b (same-node q)) (λ q. c (same-node q)) (λ q. d (same-node q)) (λ q. e (same-node q)) (λ q. f (same-node q)) (λ q. g (same-node q)) (λ q. h (same-node q)) (λ q. j (same-node q)) (λ q. k (same-node q)) (λ q. m (same-node q)) (λ q. o (same-node q)) (λ q. p (same-node q))) q)
