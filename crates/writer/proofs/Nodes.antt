-- What the kind of a node says of the bytes of the tree that stands there: those of its parts, in the order in which they are put.
use Prim.Native.Nat.{ℕ, suc, ◌+◌, ◌<◌}
use mathlib.Core.Path.{◌≡◌, refl, sym, ap, ◌∙◌}
use mathlib.Core.List.{List, [], ◌∷◌, ◌++◌, append_assoc, append-nil}
use native.Mathlib.Numerals.{add-one}
use native.Mathlib.Omega.{arith}
use Rattle.syntax.specs.Ast.{Sort, Ast, expr, args, cond, stmt, stmts, body, params, fun, prog}
use Rattle.syntax.specs.Table.{At, Holds, n_call, n_bracket, n_more_args, n_assign, n_eval, n_return, n_block, n_if_else, n_while, n_more_stmts, n_braced, n_more_params, n_function, n_more_funs, at_call, at_bracket, at_no_args, at-more-args, at-assign, at-eval, at_return, at_block, at-if-else, at-while, at-more-stmts, at-braced, at-no-params, at-more-params, at-function, at-more-funs}
use Rattle.syntax.specs.Fetch.{Fetched}
use Rattle.syntax.specs.NodeKinds.{node_number}
use Rattle.syntax.specs.declared.node.Node.{Node}
use Rattle.syntax.specs.declared.node.NodeKind.TheVariants as kind
use Rattle.lexer.specs.Lex.{bytes}
use Rattle.events.specs.Walk.{Below}
use Rattle.events.specs.Visit.{level}
use Rattle.events.proofs.Nodes.{at-kind}
use Rattle.events.proofs.Laws.{rooted-child}
use Rattle.house_style.specs.Named as N
use Rattle.house_style.specs.Named.{Named, strip}
use Rattle.house_style.specs.House.{flat, indent, laid, the, blank, newline, margin, word}
use Rattle.house_style.proofs.Adding.{flat-laid}
use Rattle.writer.specs.Parts.{Part, comma_after, line_bytes}
use Rattle.writer.proofs.Sides.{shown, moved}

-- a child of a part is one
pub child : {v w : ℕ} {l : List ℕ} {i a : ℕ} {s : Sort} {x : Ast s} → Part v l i → level s ≡ w → a < i → Holds l a x → Below 65536 x → Part w l a
child {s = s} p e f h b = record { sort = s; rooted = rooted-child p.rooted f h; part = e; tokens = b }

-- what follows a line
line-then : (d : ℕ) (h w t rest : List ℕ) → line_bytes d h w t ++ rest ≡ indent d ++ (h ++ (w ++ (t ++ rest)))
line-then d h w t rest =
    append_assoc (indent d) (h ++ (w ++ t)) rest ∙ ap (λ (l : List ℕ). indent d ++ l) (append_assoc h (w ++ t) rest ∙ ap (λ (l : List ℕ). h ++ l) (append_assoc w t rest))

module _ (spell : ℕ → List ℕ) (value : ℕ → ℕ) where
  abbrev sh : {s : Sort} → ℕ → Ast s → List ℕ
  sh n x = shown spell value n x

  abbrev bare : {s : Sort} → Ast s → Named s
  bare x = strip spell value x

  -- ---- nodes with one, two and three children, which give the bytes by f

  pub record One (l : List ℕ) (i a : ℕ) {s : Sort} (t : Ast s) (s₁ : Sort) (f : ℕ → Ast s₁ → List ℕ) : Type 0 where
    pub x : Ast s₁
    pub falls : a < i
    pub holds : Holds l a x
    pub below : Below 65536 t → Below 65536 x
    pub is : (n : ℕ) → sh n t ≡ f n x

  pub record Two (l : List ℕ) (i a b : ℕ) {s : Sort} (t : Ast s) (s₁ s₂ : Sort) (f : ℕ → Ast s₁ → Ast s₂ → List ℕ) : Type 0 where
    pub x : Ast s₁
    pub y : Ast s₂
    pub falls : a < i
    pub falls₂ : b < i
    pub holds : Holds l a x
    pub holds₂ : Holds l b y
    pub below : Below 65536 t → Below 65536 x
    pub below₂ : Below 65536 t → Below 65536 y
    pub is : (n : ℕ) → sh n t ≡ f n x y

  pub record Three (l : List ℕ) (i a b c : ℕ) {s : Sort} (t : Ast s) (s₁ s₂ s₃ : Sort) (f : ℕ → Ast s₁ → Ast s₂ → Ast s₃ → List ℕ) : Type 0 where
    pub x : Ast s₁
    pub y : Ast s₂
    pub z : Ast s₃
    pub falls : a < i
    pub falls₂ : b < i
    pub falls₃ : c < i
    pub holds : Holds l a x
    pub holds₂ : Holds l b y
    pub holds₃ : Holds l c z
    pub below : Below 65536 t → Below 65536 x
    pub below₂ : Below 65536 t → Below 65536 y
    pub below₃ : Below 65536 t → Below 65536 z
    pub is : (n : ℕ) → sh n t ≡ f n x y z

  one : {l : List ℕ} {i a b k : ℕ} {s s₁ : Sort} {t : Ast s} {x : Ast s₁} {f : ℕ → Ast s₁ → List ℕ} → b ≡ a → a < i → At l s₁ a k x → (Below 65536 t → Below 65536 x) → ((n : ℕ) → sh n t ≡ f n x) → One l i b t s₁ f
  one {x = x} e p c g h = record { x = x; falls = omega (arith, e, p); holds = moved spell value e c; below = g; is = h }

  two : {l : List ℕ} {i a b u v j k : ℕ} {s s₁ s₂ : Sort} {t : Ast s} {x : Ast s₁} {y : Ast s₂} {f : ℕ → Ast s₁ → Ast s₂ → List ℕ}
      → u ≡ a → a < i → At l s₁ a j x → v ≡ b → b < i → At l s₂ b k y → (Below 65536 t → Below 65536 x × Below 65536 y) → ((n : ℕ) → sh n t ≡ f n x y) → Two l i u v t s₁ s₂ f
  two {x = x} {y = y} e p c m q d g h =
      record { x = x; y = y; falls = omega (arith, e, p); falls₂ = omega (arith, m, q); holds = moved spell value e c; holds₂ = moved spell value m d; below = λ b. (g b).0; below₂ = λ b. (g b).1; is = h }

  -- ---- expressions

  abbrev Call : (l : List ℕ) {s : Sort} (i : ℕ) (n : Node) (t : Ast s) → Type 0
  Call l i n t = One l i n.first t args (λ m x. spell n.token ++ 40 ∷ (sh 0 x ++ 41 ∷ []))

  call_at : {l : List ℕ} {s : Sort} {i : ℕ} {n : Node} {t : Ast s} → Fetched l i n → At l s i n_call t → Call l i n t
  unfolding strip laid flat Below
  call_at {n = n} f (at_call {x = x} r p c) = one (f.first ∙ r.first) p c (λ b. b.1)
      (λ m. ap (λ (z : ℕ). spell z ++ 40 ∷ flat (laid 0 (bare x) (the ")" ∷ []))) (sym (f.token ∙ r.token)) ∙ ap (λ (w : List ℕ). spell n.token ++ 40 ∷ w) (flat-laid 0 (bare x) (the ")" ∷ [])))

  pub call-node : {l : List ℕ} {s : Sort} {i : ℕ} {n : Node} {t : Ast s} → Fetched l i n → n.kind ≡ kind.Call → Holds l i t → Call l i n t
  call-node f e h = call_at f (at-kind n_call f (ap node_number e) h)

  abbrev Bracket : (l : List ℕ) {s : Sort} (i : ℕ) (n : Node) (t : Ast s) → Type 0
  Bracket l i n t = One l i n.first t expr (λ m x. sh m x)

  bracket-at : {l : List ℕ} {s : Sort} {i : ℕ} {n : Node} {t : Ast s} → Fetched l i n → At l s i n_bracket t → Bracket l i n t
  unfolding strip Below
  bracket-at f (at_bracket r p c) = one (f.first ∙ r.first) p c (λ b. b.1) (λ m. refl)

  pub bracket-node : {l : List ℕ} {s : Sort} {i : ℕ} {n : Node} {t : Ast s} → Fetched l i n → n.kind ≡ kind.Bracket → Holds l i t → Bracket l i n t
  bracket-node f e h = bracket-at f (at-kind n_bracket f (ap node_number e) h)

  -- the arguments before one more are those at a node m
  abbrev Arguments : (l : List ℕ) {s : Sort} (i : ℕ) (n m : Node) (t : Ast s) → Type 0
  Arguments l i n m t = Two l i n.first n.second t args expr (λ r x y. sh 0 x ++ (comma_after (node_number m.kind) ++ sh 0 y))

  comma-args : {l : List ℕ} {a k : ℕ} {m : Node} {x : Ast args} (y : Ast expr) → Fetched l a m → At l args a k x → flat (laid 0 (N.more_args (bare x) (bare y)) []) ≡ sh 0 x ++ (comma_after (node_number m.kind) ++ sh 0 y)
  unfolding strip laid flat
  comma-args y f (at_no_args r) = ap (λ (k : ℕ). comma_after k ++ sh 0 y) (sym (f.kind ∙ r.kind))
  comma-args y f (at-more-args {x = u} {y = v} r p q c d) = flat-laid 0 (N.more_args (bare u) (bare v)) (the "," ∷ blank ∷ laid 0 (bare y) []) ∙ ap (λ (k : ℕ). flat (laid 0 (N.more_args (bare u) (bare v)) []) ++ (comma_after k ++ sh 0 y)) (sym (f.kind ∙ r.kind))

  arguments-at : {l : List ℕ} {s : Sort} {i : ℕ} {n m : Node} {t : Ast s} → Fetched l i n → Fetched l n.first m → At l s i n_more_args t → Arguments l i n m t
  unfolding strip laid Below
  arguments-at f g (at-more-args {x = x} {y = y} r p q c d) = two (f.first ∙ r.first) p c (f.second ∙ r.second) q d (λ b. b) (λ k. comma-args {x = x} y g (moved spell value (f.first ∙ r.first) c).at)

  pub arguments-node : {l : List ℕ} {s : Sort} {i : ℕ} {n m : Node} {t : Ast s} → Fetched l i n → Fetched l n.first m → n.kind ≡ kind.MoreArgs → Holds l i t → Arguments l i n m t
  arguments-node f g e h = arguments-at f g (at-kind n_more_args f (ap node_number e) h)

  -- what the first child of such a node is, before it is fetched
  abbrev First : (l : List ℕ) {s : Sort} (i : ℕ) (n : Node) (t : Ast s) (s₁ : Sort) → Type 0
  First l i n t s₁ = One l i n.first t s₁ (λ m x. sh m t)

  arguments-first-at : {l : List ℕ} {s : Sort} {i : ℕ} {n : Node} {t : Ast s} → Fetched l i n → At l s i n_more_args t → First l i n t args
  unfolding Below
  arguments-first-at f (at-more-args r p q c d) = one (f.first ∙ r.first) p c (λ b. b.0) (λ m. refl)

  pub arguments-first : {l : List ℕ} {s : Sort} {i : ℕ} {n : Node} {t : Ast s} → Fetched l i n → n.kind ≡ kind.MoreArgs → Holds l i t → First l i n t args
  arguments-first f e h = arguments-first-at f (at-kind n_more_args f (ap node_number e) h)

  -- ---- statements

  -- the end of a statement's line, behind an expression
  ended : {s : Sort} (x : Ast s) → flat (laid 0 (bare x) (the ";" ∷ newline ∷ [])) ≡ sh 0 x ++ bytes ";\n"
  unfolding flat
  ended x = flat-laid 0 (bare x) (the ";" ∷ newline ∷ [])

  abbrev Assign : (l : List ℕ) {s : Sort} (i : ℕ) (n : Node) (t : Ast s) → Type 0
  Assign l i n t = One l i n.first t expr (λ d x. indent d ++ (spell n.token ++ line_bytes 0 (bytes " = ") (sh 0 x) (bytes ";\n")))

  assign-at : {l : List ℕ} {s : Sort} {i : ℕ} {n : Node} {t : Ast s} → Fetched l i n → At l s i n_assign t → Assign l i n t
  unfolding strip laid flat indent Below
  assign-at {n = n} f (at-assign {x = x} r p c) = one (f.first ∙ r.first) p c (λ b. b.1)
      (λ d. ap (λ (z : ℕ). indent d ++ (spell z ++ (bytes " = " ++ flat (laid 0 (bare x) (the ";" ∷ newline ∷ []))))) (sym (f.token ∙ r.token)) ∙ ap (λ (w : List ℕ). indent d ++ (spell n.token ++ (bytes " = " ++ w))) (ended x))

  pub assign-node : {l : List ℕ} {s : Sort} {i : ℕ} {n : Node} {t : Ast s} → Fetched l i n → n.kind ≡ kind.Assign → Holds l i t → Assign l i n t
  assign-node f e h = assign-at f (at-kind n_assign f (ap node_number e) h)

  abbrev Eval : (l : List ℕ) {s : Sort} (i : ℕ) (n : Node) (t : Ast s) → Type 0
  Eval l i n t = One l i n.first t expr (λ d x. line_bytes d [] (sh 0 x) (bytes ";\n"))

  eval-at : {l : List ℕ} {s : Sort} {i : ℕ} {n : Node} {t : Ast s} → Fetched l i n → At l s i n_eval t → Eval l i n t
  unfolding strip laid flat Below
  eval-at f (at-eval {x = x} r p c) = one (f.first ∙ r.first) p c (λ b. b) (λ d. ap (λ (w : List ℕ). indent d ++ w) (ended x))

  pub eval-node : {l : List ℕ} {s : Sort} {i : ℕ} {n : Node} {t : Ast s} → Fetched l i n → n.kind ≡ kind.Eval → Holds l i t → Eval l i n t
  eval-node f e h = eval-at f (at-kind n_eval f (ap node_number e) h)

  abbrev Return : (l : List ℕ) {s : Sort} (i : ℕ) (n : Node) (t : Ast s) → Type 0
  Return l i n t = One l i n.first t expr (λ d x. line_bytes d (bytes "return ") (sh 0 x) (bytes ";\n"))

  return-at : {l : List ℕ} {s : Sort} {i : ℕ} {n : Node} {t : Ast s} → Fetched l i n → At l s i n_return t → Return l i n t
  unfolding strip laid flat Below
  return-at f (at_return {x = x} r p c) = one (f.first ∙ r.first) p c (λ b. b.1) (λ d. ap (λ (w : List ℕ). indent d ++ (bytes "return " ++ w)) (ended x))

  pub return-node : {l : List ℕ} {s : Sort} {i : ℕ} {n : Node} {t : Ast s} → Fetched l i n → n.kind ≡ kind.Return → Holds l i t → Return l i n t
  return-node f e h = return-at f (at-kind n_return f (ap node_number e) h)

  abbrev Block : (l : List ℕ) {s : Sort} (i : ℕ) (n : Node) (t : Ast s) → Type 0
  Block l i n t = One l i n.first t body (λ d x. sh d x)

  block_at : {l : List ℕ} {s : Sort} {i : ℕ} {n : Node} {t : Ast s} → Fetched l i n → At l s i n_block t → Block l i n t
  unfolding strip laid Below
  block_at f (at_block r p c) = one (f.first ∙ r.first) p c (λ b. b.1) (λ d. refl)

  pub block-node : {l : List ℕ} {s : Sort} {i : ℕ} {n : Node} {t : Ast s} → Fetched l i n → n.kind ≡ kind.Block → Holds l i t → Block l i n t
  block-node f e h = block_at f (at-kind n_block f (ap node_number e) h)

  abbrev Braced : (l : List ℕ) {s : Sort} (i : ℕ) (n : Node) (t : Ast s) → Type 0
  Braced l i n t = One l i n.first t stmts (λ d x. (indent d ++ bytes "{\n") ++ (sh (d + 1) x ++ (indent d ++ bytes "}\n")))

  braced-at : {l : List ℕ} {s : Sort} {i : ℕ} {n : Node} {t : Ast s} → Fetched l i n → At l s i n_braced t → Braced l i n t
  unfolding strip laid flat Below
  braced-at f (at-braced {x = x} r p c) = one (f.first ∙ r.first) p c (λ b. b.0)
      (λ d. ap (λ (w : List ℕ). indent d ++ (bytes "{\n" ++ w)) (flat-laid (suc d) (bare x) (margin d ∷ the "}" ∷ newline ∷ []))
      ∙ sym (append_assoc (indent d) (bytes "{\n") (sh (suc d) x ++ (indent d ++ bytes "}\n")))
      ∙ ap (λ (m : ℕ). (indent d ++ bytes "{\n") ++ (sh m x ++ (indent d ++ bytes "}\n"))) (sym (add-one d)))

  pub braced-node : {l : List ℕ} {s : Sort} {i : ℕ} {n : Node} {t : Ast s} → Fetched l i n → n.kind ≡ kind.Braced → Holds l i t → Braced l i n t
  braced-node f e h = braced-at f (at-kind n_braced f (ap node_number e) h)

  abbrev While : (l : List ℕ) {s : Sort} (i : ℕ) (n : Node) (t : Ast s) → Type 0
  While l i n t = Two l i n.first n.second t cond stmt (λ d x y. line_bytes d (bytes "while (") (sh 0 x) (bytes ")\n") ++ sh (d + 1) y)

  while-at : {l : List ℕ} {s : Sort} {i : ℕ} {n : Node} {t : Ast s} → Fetched l i n → At l s i n_while t → While l i n t
  unfolding strip laid flat Below
  while-at f (at-while {x = x} {y = y} r p q c e) = two (f.first ∙ r.first) p c (f.second ∙ r.second) q e (λ b. b.1)
      (λ d. ap (λ (w : List ℕ). indent d ++ (bytes "while (" ++ w)) (flat-laid 0 (bare x) (the ")" ∷ newline ∷ laid (suc d) (bare y) []))
      ∙ sym (line-then d (bytes "while (") (sh 0 x) (bytes ")\n") (sh (suc d) y))
      ∙ ap (λ (m : ℕ). line_bytes d (bytes "while (") (sh 0 x) (bytes ")\n") ++ sh m y) (sym (add-one d)))

  pub while-node : {l : List ℕ} {s : Sort} {i : ℕ} {n : Node} {t : Ast s} → Fetched l i n → n.kind ≡ kind.While → Holds l i t → While l i n t
  while-node f e h = while-at f (at-kind n_while f (ap node_number e) h)

  abbrev IfElse : (l : List ℕ) {s : Sort} (i : ℕ) (n : Node) (t : Ast s) → Type 0
  IfElse l i n t = Three l i n.first n.second n.third t cond stmt stmt (λ d x y z. line_bytes d (bytes "if (") (sh 0 x) (bytes ")\n") ++ (sh (d + 1) y ++ ((indent d ++ bytes "else\n") ++ sh (d + 1) z)))

  if-bytes : (d : ℕ) (x : Ast cond) (y z : Ast stmt) → flat (laid d (N.if_else (bare x) (bare y) (bare z)) []) ≡ line_bytes d (bytes "if (") (sh 0 x) (bytes ")\n") ++ (sh (d + 1) y ++ ((indent d ++ bytes "else\n") ++ sh (d + 1) z))
  unfolding laid flat
  if-bytes d x y z =
      let e = margin d ∷ the "else" ∷ newline ∷ laid (suc d) (bare z) [] in
      ap (λ (w : List ℕ). indent d ++ (bytes "if (" ++ w)) (flat-laid 0 (bare x) (the ")" ∷ newline ∷ laid (suc d) (bare y) e))
      ∙ ap (λ (w : List ℕ). indent d ++ (bytes "if (" ++ (sh 0 x ++ (bytes ")\n" ++ w)))) (flat-laid (suc d) (bare y) e ∙ ap (λ (w : List ℕ). sh (suc d) y ++ w) (sym (append_assoc (indent d) (bytes "else\n") (sh (suc d) z))))
      ∙ sym (line-then d (bytes "if (") (sh 0 x) (bytes ")\n") (sh (suc d) y ++ ((indent d ++ bytes "else\n") ++ sh (suc d) z)))
      ∙ ap (λ (m : ℕ). line_bytes d (bytes "if (") (sh 0 x) (bytes ")\n") ++ (sh m y ++ ((indent d ++ bytes "else\n") ++ sh m z))) (sym (add-one d))

  if-at : {l : List ℕ} {s : Sort} {i : ℕ} {n : Node} {t : Ast s} → Fetched l i n → At l s i n_if_else t → IfElse l i n t
  unfolding strip Below
  if-at f (at-if-else {x = x} {y = y} {z = z} r p q o c e g) = record {
    x = x;
    y = y;
    z = z;
    falls = omega (arith, f.first, r.first, p);
    falls₂ = omega (arith, f.second, r.second, q);
    falls₃ = omega (arith, f.third, r.third, o);
    holds = moved spell value (f.first ∙ r.first) c;
    holds₂ = moved spell value (f.second ∙ r.second) e;
    holds₃ = moved spell value (f.third ∙ r.third) g;
    below = λ b. b.1.0;
    below₂ = λ b. b.1.1.0;
    below₃ = λ b. b.1.1.1;
    is = λ d. if-bytes d x y z;
  }

  pub if-node : {l : List ℕ} {s : Sort} {i : ℕ} {n : Node} {t : Ast s} → Fetched l i n → n.kind ≡ kind.IfElse → Holds l i t → IfElse l i n t
  if-node f e h = if-at f (at-kind n_if_else f (ap node_number e) h)

  abbrev Statements : (l : List ℕ) {s : Sort} (i : ℕ) (n : Node) (t : Ast s) → Type 0
  Statements l i n t = Two l i n.first n.second t stmts stmt (λ d x y. sh d x ++ sh d y)

  statements-at : {l : List ℕ} {s : Sort} {i : ℕ} {n : Node} {t : Ast s} → Fetched l i n → At l s i n_more_stmts t → Statements l i n t
  unfolding strip laid Below
  statements-at f (at-more-stmts {x = x} {y = y} r p q c e) = two (f.first ∙ r.first) p c (f.second ∙ r.second) q e (λ b. b) (λ d. flat-laid d (bare x) (laid d (bare y) []))

  pub statements-node : {l : List ℕ} {s : Sort} {i : ℕ} {n : Node} {t : Ast s} → Fetched l i n → n.kind ≡ kind.MoreStmts → Holds l i t → Statements l i n t
  statements-node f e h = statements-at f (at-kind n_more_stmts f (ap node_number e) h)

  -- ---- programs

  -- the parameters before one more are those at a node m
  abbrev Parameters : (l : List ℕ) {s : Sort} (i : ℕ) (n m : Node) (t : Ast s) → Type 0
  Parameters l i n m t = One l i n.first t params (λ r x. sh 0 x ++ (comma_after (node_number m.kind) ++ (bytes "int " ++ spell n.token)))

  comma-params : {l : List ℕ} {a k : ℕ} {m : Node} {x : Ast params} (w : List ℕ) → Fetched l a m → At l params a k x → flat (laid 0 (N.more_params (bare x) w) []) ≡ sh 0 x ++ (comma_after (node_number m.kind) ++ (bytes "int " ++ w))
  unfolding strip laid flat
  comma-params w f (at-no-params r) = ap (λ (z : List ℕ). bytes "int " ++ z) (append-nil w) ∙ ap (λ (k : ℕ). comma_after k ++ (bytes "int " ++ w)) (sym (f.kind ∙ r.kind))
  comma-params w f (at-more-params {t = j} {x = u} r p c) =
      flat-laid 0 (N.more_params (bare u) (spell j)) (the "," ∷ blank ∷ the "int" ∷ blank ∷ word w ∷ []) ∙ ap (λ (z : List ℕ). flat (laid 0 (N.more_params (bare u) (spell j)) []) ++ (bytes ", " ++ (bytes "int " ++ z))) (append-nil w)
      ∙ ap (λ (k : ℕ). flat (laid 0 (N.more_params (bare u) (spell j)) []) ++ (comma_after k ++ (bytes "int " ++ w))) (sym (f.kind ∙ r.kind))

  parameters-at : {l : List ℕ} {s : Sort} {i : ℕ} {n m : Node} {t : Ast s} → Fetched l i n → Fetched l n.first m → At l s i n_more_params t → Parameters l i n m t
  unfolding strip laid Below
  parameters-at {m = m} f g (at-more-params {t = j} {x = x} r p c) = one (f.first ∙ r.first) p c (λ b. b.0)
      (λ k. comma-params {x = x} (spell j) g (moved spell value (f.first ∙ r.first) c).at ∙ ap (λ (z : ℕ). sh 0 x ++ (comma_after (node_number m.kind) ++ (bytes "int " ++ spell z))) (sym (f.token ∙ r.token)))

  pub parameters-node : {l : List ℕ} {s : Sort} {i : ℕ} {n m : Node} {t : Ast s} → Fetched l i n → Fetched l n.first m → n.kind ≡ kind.MoreParams → Holds l i t → Parameters l i n m t
  parameters-node f g e h = parameters-at f g (at-kind n_more_params f (ap node_number e) h)

  parameters-first-at : {l : List ℕ} {s : Sort} {i : ℕ} {n : Node} {t : Ast s} → Fetched l i n → At l s i n_more_params t → First l i n t params
  unfolding Below
  parameters-first-at f (at-more-params r p c) = one (f.first ∙ r.first) p c (λ b. b.0) (λ m. refl)

  pub parameters-first : {l : List ℕ} {s : Sort} {i : ℕ} {n : Node} {t : Ast s} → Fetched l i n → n.kind ≡ kind.MoreParams → Holds l i t → First l i n t params
  parameters-first f e h = parameters-first-at f (at-kind n_more_params f (ap node_number e) h)

  abbrev Function : (l : List ℕ) {s : Sort} (i : ℕ) (n : Node) (t : Ast s) → Type 0
  Function l i n t = Two l i n.first n.second t params body (λ d x y. (bytes "int " ++ spell n.token) ++ (bytes "(" ++ (sh 0 x ++ (bytes ")\n" ++ sh 0 y))))

  function-at : {l : List ℕ} {s : Sort} {i : ℕ} {n : Node} {t : Ast s} → Fetched l i n → At l s i n_function t → Function l i n t
  unfolding strip laid flat Below
  function-at {n = n} f (at-function {x = x} {y = y} r p q c e) = two (f.first ∙ r.first) p c (f.second ∙ r.second) q e (λ b. b.1)
      (λ d. ap (λ (z : ℕ). bytes "int " ++ (spell z ++ (bytes "(" ++ flat (laid 0 (bare x) (the ")" ∷ newline ∷ laid 0 (bare y) []))))) (sym (f.token ∙ r.token))
      ∙ ap (λ (w : List ℕ). bytes "int " ++ (spell n.token ++ (bytes "(" ++ w))) (flat-laid 0 (bare x) (the ")" ∷ newline ∷ laid 0 (bare y) [])))

  pub function-node : {l : List ℕ} {s : Sort} {i : ℕ} {n : Node} {t : Ast s} → Fetched l i n → n.kind ≡ kind.Function → Holds l i t → Function l i n t
  function-node f e h = function-at f (at-kind n_function f (ap node_number e) h)

  abbrev Functions : (l : List ℕ) {s : Sort} (i : ℕ) (n : Node) (t : Ast s) → Type 0
  Functions l i n t = Two l i n.first n.second t prog fun (λ d x y. sh 0 x ++ sh 0 y)

  functions-at : {l : List ℕ} {s : Sort} {i : ℕ} {n : Node} {t : Ast s} → Fetched l i n → At l s i n_more_funs t → Functions l i n t
  unfolding strip laid Below
  functions-at f (at-more-funs {x = x} {y = y} r p q c e) = two (f.first ∙ r.first) p c (f.second ∙ r.second) q e (λ b. b) (λ d. flat-laid 0 (bare x) (laid 0 (bare y) []))

  pub functions-node : {l : List ℕ} {s : Sort} {i : ℕ} {n : Node} {t : Ast s} → Fetched l i n → n.kind ≡ kind.MoreFuns → Holds l i t → Functions l i n t
  functions-node f e h = functions-at f (at-kind n_more_funs f (ap node_number e) h)
