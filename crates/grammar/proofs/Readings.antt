-- How each reader goes on over the tokens of a tree: the laws by which a tree is read back (Back).
use Prim.Native.Nat.{ℕ, zero, suc, ◌+◌, ◌*◌, ◌≤◌, ◌<◌}
use mathlib.Core.Path.{◌≡◌, refl, sym, ap, ◌∙◌, subst}
use mathlib.Core.Bool.{Bool, true, false}
use mathlib.Core.List.{List, [], ◌∷◌}
use native.Mathlib.Numerals.{add-one}
use native.Mathlib.Omega.{arith}
use lib.ListN.{length, get_or, drop, length-drop}
use lib.Seq.{drop-cons, drop-drop, drop-append_seam}
use lib.Dec.{eqb}
use borrow.Author.Tests.{eq-eqb, ne_eqb}
use Rattle.syntax.specs.Token.{k_name, k_number, k_open, k_close, k_comma, k_plus, k_minus, k_times, k_true, k_false, k_and, k_or, k_semi, k_assign, k_lbrace, k_rbrace, k_int, k_free, k_if, k_else, k_while, k_return, k_fail, k_dot_dot}
use Rattle.syntax.specs.Tree.{Cat, Tree, Cmp, cmp_kind, onto, width}
use Rattle.syntax.specs.Tree.{operand, term, sum, args, arg_list, atom, conj, cond, less, equal, less_eq, greater, greater_eq, unequal, stmt, stmts, body, params, param_list, fun, prog}
use Rattle.syntax.specs.Tree.{number, negative, name, call, bracket, no_args, some_args, first_arg, next_arg, factor, product, times, addend, plus, minus, cmp_mark, always, never, compare, one_atom, both, one_conj, either, empty, declare, declare_free, declare_own, assign, eval, block, if_else, while, return, fail, no_stmts, more_stmts, braced, no_params, some_params, first_param, next_param, function, no_funs, more_funs}
use Rattle.grammar.specs.Parse.{Res, ok, and_then, expect, read_end, read_own, read_operand, read_args, more_args, read_term, more_term, read_sum, more_sum, read_cmp, read_atom, more_conj, read_conj, more_cond, read_cond, read_guard, read_ended, read_named, read_decl, read_fail, read_stmt, more_body, more_params, read_params, read_fun, more_prog}
use Rattle.grammar.proofs.Lengths.{onto-append}
use Rattle.grammar.proofs.Accept.{Start, s-number, s-minus, s-open, s-name}
use Rattle.grammar.proofs.Steps.{clash}

pub yes : {c : Cat} {j k : ℕ} (A B : Res c) → j ≡ k → elim (eqb j k) [ true ↦ A | false ↦ B ] ≡ A
yes {j = j} {k} A B e = ap (λ (b : Bool). elim b [ true ↦ A | false ↦ B ]) (eq-eqb j k e)

pub no : {c : Cat} {j k : ℕ} (A B : Res c) → (j ≡ k → ⊥) → elim (eqb j k) [ true ↦ A | false ↦ B ] ≡ B
no {j = j} {k} A B e = ap (λ (b : Bool). elim b [ true ↦ A | false ↦ B ]) (ne_eqb j k e)

pub then_ok : {c e : Cat} {v : Res c} {t : Tree c} {x : ℕ} (f : Tree c → ℕ → Res e) → v ≡ ok t x → and_then v f ≡ f t x
then_ok {c} f q = ap (λ (o : Res c). and_then o f) q

module _ (ks : List ℕ) where
  -- token p is k, and r are the tokens after it
  pub record Ahead (p k : ℕ) (r : List ℕ) : Type 0 where
    pub here : get_or ks p 0 ≡ k
    pub next : drop (p + 1) ks ≡ r
    pub inside : p < length ks

  pub ahead : (p : ℕ) {k : ℕ} {r : List ℕ} → drop p ks ≡ k ∷ r → Ahead p k r
  ahead p {k} {r} e =
      let i : p < length ks = omega (arith, ap length e, length-drop p ks) in
      let q : get_or ks p 0 ∷ drop (p + 1) ks ≡ k ∷ r = rw (add-one) (sym (drop-cons ks p 0 i) ∙ e) in
      record { here = cc; next = cc; inside = i }

  pub past : {c : Cat} (t : Tree c) (p : ℕ) {r : List ℕ} → drop p ks ≡ onto t r → drop (p + width t) ks ≡ r
  past t p {r} e = sym (drop-drop (width t) p ks) ∙ ap (drop (width t)) (e ∙ onto-append t [] r) ∙ drop-append_seam (onto t []) r

  pub ends : {c : Cat} (t : Tree c) (p : ℕ) {q k : ℕ} {r : List ℕ} → drop p ks ≡ onto t (k ∷ r) → q ≡ p + width t → Ahead q k r
  ends t p {q} {k} {r} e w = subst (λ (x : ℕ). Ahead x k r) (sym w) (ahead (p + width t) (past t p e))

  abbrev pub Fuel : ℕ → ℕ → ℕ → Type 0
  Fuel rank d p = 8 * length ks + rank ≤ d + 8 * p

  -- v goes on at q, with enough fuel
  pub record Goes {c : Cat} (rank q : ℕ) (v : Res c) (more : ℕ → Res c) : Type 0 where
    pub fuel : ℕ
    pub enough : Fuel rank (suc fuel) q
    pub is : v ≡ more (suc fuel)

  goes : {c : Cat} {rank q : ℕ} {v : Res c} (more : ℕ → Res c) (d : ℕ) → q < length ks → Fuel rank d q → v ≡ more d → Goes rank q v more
  goes more zero i f e = absurd (omega arith)
  goes more (suc d) i f e = record { fuel = d; enough = f; is = e }

  -- what is claimed of a tree with its numbers, whose tokens are those from p to q
  abbrev pub Operand : Tree operand → ℕ → ℕ → Type 0
  Operand t p q = (d : ℕ) → Fuel 2 d p → read_operand ks d p ≡ ok t q

  abbrev pub Args : Tree args → ℕ → ℕ → Type 0
  Args t p q = (d : ℕ) → Fuel 5 d p → read_args ks d p ≡ ok t q

  abbrev pub ArgList : Tree arg_list → ℕ → ℕ → Type 0
  ArgList t p q = (d : ℕ) → Fuel 5 d p → Goes 1 q (read_args ks d p) (λ e. more_args ks e t q)

  abbrev pub Term : Tree term → ℕ → ℕ → Type 0
  Term t p q = (d : ℕ) → Fuel 3 d p → Goes 1 q (read_term ks d p) (λ e. more_term ks e t q)

  abbrev pub Sum : Tree sum → ℕ → ℕ → Type 0
  Sum t p q = (d : ℕ) → Fuel 4 d p → Goes 1 q (read_sum ks d p) (λ e. more_sum ks e t q)

  abbrev SumDone : Tree sum → ℕ → ℕ → Type 0
  SumDone t p q = (d : ℕ) → Fuel 4 d p → read_sum ks d p ≡ ok t q

  abbrev pub Atom : Tree atom → ℕ → ℕ → Type 0
  Atom t p q = (d : ℕ) → Fuel 5 d p → read_atom ks d p ≡ ok t q

  abbrev pub Conj : Tree conj → ℕ → ℕ → Type 0
  Conj t p q = (d : ℕ) → Fuel 6 d p → Goes 1 q (read_conj ks d p) (λ e. more_conj ks e t q)

  abbrev pub Cond : Tree cond → ℕ → ℕ → Type 0
  Cond t p q = (d : ℕ) → Fuel 7 d p → Goes 1 q (read_cond ks d p) (λ e. more_cond ks e t q)

  abbrev pub Stmt : Tree stmt → ℕ → ℕ → Type 0
  Stmt t p q = (d : ℕ) → Fuel 7 d p → read_stmt ks d p ≡ ok t q

  abbrev pub Stmts : Tree stmts → ℕ → ℕ → Type 0
  Stmts t p q = (d : ℕ) → Fuel 8 d p → Goes 8 q (more_body ks d no_stmts p) (λ e. more_body ks e t q)

  abbrev pub Body : Tree body → ℕ → ℕ → Type 0
  Body t p q = (d : ℕ) → Fuel 8 d p → more_body ks d no_stmts p ≡ ok t q

  abbrev pub Params : Tree params → ℕ → ℕ → Type 0
  Params t p q = (d : ℕ) → Fuel 1 d p → read_params ks d p ≡ ok t q

  abbrev pub ParamList : Tree param_list → ℕ → ℕ → Type 0
  ParamList t p q = (d : ℕ) → Fuel 1 d p → Goes 1 q (read_params ks d p) (λ e. more_params ks e t q)

  abbrev pub Fun : Tree fun → ℕ → ℕ → Type 0
  Fun t p q = (d : ℕ) → Fuel 1 d p → read_fun ks d p ≡ ok t q

  abbrev pub Prog : Tree prog → ℕ → ℕ → Type 0
  Prog t p q = (d : ℕ) → Fuel 2 d p → Goes 2 q (more_prog ks d no_funs p) (λ e. more_prog ks e t q)

  -- ---- expressions

  pub number_step : (p q : ℕ) → get_or ks p 0 ≡ k_number → p < length ks → q ≡ p + 1 → Operand (number p) p q
  unfolding read_operand
  number_step p q e i w zero f = absurd (omega arith)
  number_step p q e i w (suc d) f = yes _ _ e ∙ ap (ok (number p)) (sym w)

  pub negative-step : (p q : ℕ) → get_or ks p 0 ≡ k_minus → get_or ks (p + 1) 0 ≡ k_number → p < length ks → q ≡ p + 1 + 1 → Operand (negative p) p q
  unfolding read_operand
  negative-step p q e n i w zero f = absurd (omega arith)
  negative-step p q e n i w (suc d) f = no _ _ (clash e refl) ∙ yes _ _ e ∙ yes _ _ n ∙ ap (ok (negative p)) (sym w)

  pub name-step : (p q : ℕ) → get_or ks p 0 ≡ k_name → (get_or ks (p + 1) 0 ≡ k_open → ⊥) → p < length ks → q ≡ p + 1 → Operand (name p) p q
  unfolding read_operand
  name-step p q e n i w zero f = absurd (omega arith)
  name-step p q e n i w (suc zero) f = absurd (omega arith)
  name-step p q e n i w (suc (suc d)) f = no _ _ (clash e refl) ∙ no _ _ (clash e refl) ∙ yes _ _ e ∙ no _ _ n ∙ ap (ok (name p)) (sym w)

  pub call_step : (p q : ℕ) (a : Tree args) → get_or ks p 0 ≡ k_name → get_or ks (p + 1) 0 ≡ k_open → p < length ks → Args a (p + 1 + 1) q → Operand (call p a) p q
  unfolding read_operand
  call_step p q a e n i h zero f = absurd (omega arith)
  call_step p q a e n i h (suc zero) f = absurd (omega arith)
  call_step p q a e n i h (suc (suc d)) f = no _ _ (clash e refl) ∙ no _ _ (clash e refl) ∙ yes _ _ e ∙ yes _ _ n ∙ then_ok _ (h d (omega arith))

  pub bracket-step : (p q x : ℕ) (s : Tree sum) → get_or ks p 0 ≡ k_open → p < length ks → SumDone s (p + 1) x → get_or ks x 0 ≡ k_close → q ≡ x + 1 → Operand (bracket p s) p q
  unfolding read_operand
  bracket-step p q x s e i h n w zero f = absurd (omega arith)
  bracket-step p q x s e i h n w (suc zero) f = absurd (omega arith)
  bracket-step p q x s e i h n w (suc (suc d)) f = no _ _ (clash e refl) ∙ no _ _ (clash e refl) ∙ no _ _ (clash e refl) ∙ yes _ _ e ∙ then_ok _ (h d (omega arith)) ∙ yes _ _ n ∙ ap (ok (bracket p s)) (sym w)

  pub no-args-step : (p q : ℕ) → get_or ks p 0 ≡ k_close → p < length ks → q ≡ p + 1 → Args no_args p q
  unfolding read_operand
  no-args-step p q e i w zero f = absurd (omega arith)
  no-args-step p q e i w (suc d) f = yes _ _ e ∙ ap (ok no_args) (sym w)

  pub some-args-step : (p q x : ℕ) (l : Tree arg_list) → ArgList l p x → get_or ks x 0 ≡ k_close → q ≡ x + 1 → Args (some_args l) p q
  unfolding read_operand
  some-args-step p q x l h n w d f = (h d f).is ∙ no _ _ (clash n refl) ∙ yes _ _ n ∙ ap (ok (some_args l)) (sym w)

  pub first-arg-step : (p q : ℕ) (s : Tree sum) → (get_or ks p 0 ≡ k_close → ⊥) → p < q → q < length ks → SumDone s p q → ArgList (first_arg s) p q
  unfolding read_operand
  first-arg-step p q s n l i h zero f = absurd (omega arith)
  first-arg-step p q s n l i h (suc d) f = goes (λ e. more_args ks e (first_arg s) q) d i (omega arith) (no _ _ n ∙ then_ok _ (h d (omega arith)))

  pub next-arg-step : (p q x : ℕ) (l : Tree arg_list) (s : Tree sum) → ArgList l p x → get_or ks x 0 ≡ k_comma → x < q → q < length ks → SumDone s (x + 1) q → ArgList (next_arg l s) p q
  unfolding read_operand
  next-arg-step p q x l s h n b i k d f = let g = h d f in goes (λ e. more_args ks e (next_arg l s) q) g.fuel i (omega (arith, g.enough)) (g.is ∙ yes _ _ n ∙ then_ok _ (k g.fuel (omega (arith, g.enough))))

  pub factor-step : (p q : ℕ) (o : Tree operand) → p < q → q < length ks → Operand o p q → Term (factor o) p q
  unfolding read_operand
  factor-step p q o b i h zero f = absurd (omega arith)
  factor-step p q o b i h (suc d) f = goes (λ e. more_term ks e (factor o) q) d i (omega arith) (then_ok _ (h d (omega arith)))

  pub times-step : (p q x : ℕ) (t : Tree term) (o : Tree operand) → Term t p x → get_or ks x 0 ≡ k_times → x < q → q < length ks → Operand o (x + 1) q → Term (times product t o) p q
  unfolding read_operand
  times-step p q x t o h n b i k d f = let g = h d f in goes (λ e. more_term ks e (times product t o) q) g.fuel i (omega (arith, g.enough)) (g.is ∙ yes _ _ n ∙ then_ok _ (k g.fuel (omega (arith, g.enough))))

  term-done : (p q : ℕ) (t : Tree term) → Term t p q → (get_or ks q 0 ≡ k_times → ⊥) → (d : ℕ) → Fuel 3 d p → read_term ks d p ≡ ok t q
  unfolding read_operand
  term-done p q t h n d f = (h d f).is ∙ no _ _ n

  pub addend-step : (p q : ℕ) (t : Tree term) → p < q → q < length ks → Term t p q → (get_or ks q 0 ≡ k_times → ⊥) → Sum (addend t) p q
  unfolding read_operand
  addend-step p q t b i h n zero f = absurd (omega arith)
  addend-step p q t b i h n (suc d) f = goes (λ e. more_sum ks e (addend t) q) d i (omega arith) (then_ok _ (term-done p q t h n d (omega arith)))

  pub plus_step : (p q x : ℕ) (s : Tree sum) (t : Tree term) → Sum s p x → get_or ks x 0 ≡ k_plus → x < q → q < length ks → Term t (x + 1) q → (get_or ks q 0 ≡ k_times → ⊥) → Sum (plus s t) p q
  unfolding read_operand
  plus_step p q x s t h n b i k z d f = let g = h d f in goes (λ e. more_sum ks e (plus s t) q) g.fuel i (omega (arith, g.enough)) (g.is ∙ yes _ _ n ∙ then_ok _ (term-done (x + 1) q t k z g.fuel (omega (arith, g.enough))))

  pub minus-step : (p q x : ℕ) (s : Tree sum) (t : Tree term) → Sum s p x → get_or ks x 0 ≡ k_minus → x < q → q < length ks → Term t (x + 1) q → (get_or ks q 0 ≡ k_times → ⊥) → Sum (minus s t) p q
  unfolding read_operand
  minus-step p q x s t h n b i k z d f = let g = h d f in goes (λ e. more_sum ks e (minus s t) q) g.fuel i (omega (arith, g.enough)) (g.is ∙ no _ _ (clash n refl) ∙ yes _ _ n ∙ then_ok _ (term-done (x + 1) q t k z g.fuel (omega (arith, g.enough))))

  pub sum_done : (p q k : ℕ) (t : Tree sum) → Sum t p q → get_or ks q 0 ≡ k → eqb k k_plus ≡ false → eqb k k_minus ≡ false → SumDone t p q
  unfolding read_operand
  sum_done p q k t h e n m d f = (h d f).is ∙ no _ _ (clash e n) ∙ no _ _ (clash e m)

  -- ---- conditions

  pub cmp_step : (o : Cmp) (x : ℕ) → get_or ks x 0 ≡ cmp_kind o → read_cmp ks x ≡ ok (cmp_mark o) (x + 1)
  unfolding read_cmp
  cmp_step less x e = yes _ _ e
  cmp_step less_eq x e = no _ _ (clash e refl) ∙ yes _ _ e
  cmp_step greater x e = no _ _ (clash e refl) ∙ no _ _ (clash e refl) ∙ yes _ _ e
  cmp_step greater_eq x e = no _ _ (clash e refl) ∙ no _ _ (clash e refl) ∙ no _ _ (clash e refl) ∙ yes _ _ e
  cmp_step equal x e = no _ _ (clash e refl) ∙ no _ _ (clash e refl) ∙ no _ _ (clash e refl) ∙ no _ _ (clash e refl) ∙ yes _ _ e
  cmp_step unequal x e = no _ _ (clash e refl) ∙ no _ _ (clash e refl) ∙ no _ _ (clash e refl) ∙ no _ _ (clash e refl) ∙ no _ _ (clash e refl) ∙ yes _ _ e

  pub always-step : (p q : ℕ) → get_or ks p 0 ≡ k_true → p < length ks → q ≡ p + 1 → Atom always p q
  unfolding read_atom
  always-step p q e i w zero f = absurd (omega arith)
  always-step p q e i w (suc d) f = yes _ _ e ∙ ap (ok always) (sym w)

  pub never-step : (p q : ℕ) → get_or ks p 0 ≡ k_false → p < length ks → q ≡ p + 1 → Atom never p q
  unfolding read_atom
  never-step p q e i w zero f = absurd (omega arith)
  never-step p q e i w (suc d) f = no _ _ (clash e refl) ∙ yes _ _ e ∙ ap (ok never) (sym w)

  pub compare-step : (p q x : ℕ) (a b : Tree sum) (o : Cmp) → (get_or ks p 0 ≡ k_true → ⊥) → (get_or ks p 0 ≡ k_false → ⊥) → p < length ks → p ≤ x → SumDone a p x → get_or ks x 0 ≡ cmp_kind o → SumDone b (x + 1) q → Atom (compare a (cmp_mark o) b) p q
  unfolding read_atom
  compare-step p q x a b o n m i l h e k zero f = absurd (omega arith)
  compare-step p q x a b o n m i l h e k (suc d) f = no _ _ n ∙ no _ _ m ∙ then_ok _ (h d (omega arith)) ∙ then_ok _ (cmp_step o x e) ∙ then_ok _ (k d (omega arith))

  pub one-atom-step : (p q : ℕ) (a : Tree atom) → p < q → q < length ks → Atom a p q → Conj (one_atom a) p q
  unfolding read_conj
  one-atom-step p q a b i h zero f = absurd (omega arith)
  one-atom-step p q a b i h (suc d) f = goes (λ e. more_conj ks e (one_atom a) q) d i (omega arith) (then_ok _ (h d (omega arith)))

  pub both-step : (p q x : ℕ) (c : Tree conj) (a : Tree atom) → Conj c p x → get_or ks x 0 ≡ k_and → x < q → q < length ks → Atom a (x + 1) q → Conj (both c a) p q
  unfolding more_conj
  both-step p q x c a h n b i k d f = let g = h d f in goes (λ e. more_conj ks e (both c a) q) g.fuel i (omega (arith, g.enough)) (g.is ∙ yes _ _ n ∙ then_ok _ (k g.fuel (omega (arith, g.enough))))

  conj-done : (p q : ℕ) (c : Tree conj) → Conj c p q → (get_or ks q 0 ≡ k_and → ⊥) → (d : ℕ) → Fuel 6 d p → read_conj ks d p ≡ ok c q
  unfolding more_conj
  conj-done p q c h n d f = (h d f).is ∙ no _ _ n

  pub one-conj-step : (p q : ℕ) (c : Tree conj) → p < q → q < length ks → Conj c p q → (get_or ks q 0 ≡ k_and → ⊥) → Cond (one_conj c) p q
  unfolding read_cond
  one-conj-step p q c b i h n zero f = absurd (omega arith)
  one-conj-step p q c b i h n (suc d) f = goes (λ e. more_cond ks e (one_conj c) q) d i (omega arith) (then_ok _ (conj-done p q c h n d (omega arith)))

  pub either_step : (p q x : ℕ) (l : Tree cond) (c : Tree conj) → Cond l p x → get_or ks x 0 ≡ k_or → x < q → q < length ks → Conj c (x + 1) q → (get_or ks q 0 ≡ k_and → ⊥) → Cond (either l c) p q
  unfolding more_cond
  either_step p q x l c h n b i k z d f = let g = h d f in goes (λ e. more_cond ks e (either l c) q) g.fuel i (omega (arith, g.enough)) (g.is ∙ yes _ _ n ∙ then_ok _ (conj-done (x + 1) q c k z g.fuel (omega (arith, g.enough))))

  pub guard-step : (p x : ℕ) (c : Tree cond) → get_or ks p 0 ≡ k_open → p < length ks → Cond c (p + 1) x → get_or ks x 0 ≡ k_close → (d : ℕ) → Fuel 1 d p → read_guard ks d p ≡ ok c (x + 1)
  unfolding read_guard more_cond
  guard-step p x c e i h n zero f = absurd (omega arith)
  guard-step p x c e i h n (suc d) f = yes _ _ e ∙ then_ok _ ((h d (omega arith)).is ∙ no _ _ (clash n refl)) ∙ yes _ _ n

  -- ---- statements

  ended-step : (w : Tree sum → Tree stmt) (p q x : ℕ) (s : Tree sum) → p < length ks → SumDone s p x → get_or ks x 0 ≡ k_semi → q ≡ x + 1 → (d : ℕ) → Fuel 5 d p → read_ended ks w d p ≡ ok (w s) q
  unfolding read_ended
  ended-step w p q x s i h n e zero f = absurd (omega arith)
  ended-step w p q x s i h n e (suc d) f = then_ok _ (h d (omega arith)) ∙ yes _ _ n ∙ ap (ok (w s)) (sym e)

  pub empty-step : (p q : ℕ) → get_or ks p 0 ≡ k_semi → p < length ks → q ≡ p + 1 → Stmt (empty p) p q
  unfolding read_stmt
  empty-step p q e i w zero f = absurd (omega arith)
  empty-step p q e i w (suc d) f = yes _ _ e ∙ ap (ok (empty p)) (sym w)

  pub declare-step : (p q : ℕ) → get_or ks p 0 ≡ k_int → p < length ks → get_or ks (p + 1) 0 ≡ k_name → get_or ks (p + 1 + 1) 0 ≡ k_semi → q ≡ p + 1 + 1 + 1 → Stmt (declare p) p q
  unfolding read_stmt read_decl
  declare-step p q e i n s w zero f = absurd (omega arith)
  declare-step p q e i n s w (suc d) f = no _ _ (clash e refl) ∙ yes _ _ e ∙ yes _ _ n ∙ yes _ _ s ∙ ap (ok (declare p)) (sym w)

  pub free_step : (p q : ℕ) → get_or ks p 0 ≡ k_int → p < length ks → get_or ks (p + 1) 0 ≡ k_name → get_or ks (p + 1 + 1) 0 ≡ k_free → get_or ks (p + 1 + 1 + 1) 0 ≡ k_semi → q ≡ p + 1 + 1 + 1 + 1 → Stmt (declare_free p) p q
  unfolding read_stmt read_decl
  free_step p q e i n r s w zero f = absurd (omega arith)
  free_step p q e i n r s w (suc d) f = no _ _ (clash e refl) ∙ yes _ _ e ∙ yes _ _ n ∙ no _ _ (clash r refl) ∙ yes _ _ r ∙ yes _ _ s ∙ ap (ok (declare_free p)) (sym w)

  -- an end of a pair stands at p, with a minus or without, and x is the token after it
  pub data EndAt (p : ℕ) : Bool → ℕ → Type 0 where
    signed : get_or ks p 0 ≡ k_minus → get_or ks (p + 1) 0 ≡ k_number → EndAt p true (p + 1 + 1)
    plain : get_or ks p 0 ≡ k_number → EndAt p false (p + 1)

  end_reads : {c : Cat} {a : Bool} {p x : ℕ} (f : Bool → ℕ → Res c) → EndAt p a x → read_end ks p f ≡ f a x
  end_reads f (signed m n) = yes _ _ m ∙ yes _ _ n
  end_reads f (plain n) = no _ _ (clash n refl) ∙ yes _ _ n

  end-first : {a : Bool} {p x : ℕ} → EndAt p a x → get_or ks p 0 ≡ k_semi → ⊥
  end-first (signed m n) = clash m refl
  end-first (plain n) = clash n refl

  own-reads : (p q x y : ℕ) (a b : Bool) {m : ℕ} → EndAt m a x → get_or ks x 0 ≡ k_dot_dot → EndAt (x + 1) b y → get_or ks y 0 ≡ k_semi → q ≡ y + 1 → read_own ks p m ≡ ok (declare_own p a b) q
  unfolding read_own
  own-reads p q x y a b l o h s w =
      end_reads (λ c u. expect ks k_dot_dot u (read_end ks (u + 1) (λ d v. expect ks k_semi v (ok (declare_own p c d) (v + 1))))) l
      ∙ yes _ _ o
      ∙ end_reads (λ d v. expect ks k_semi v (ok (declare_own p a d) (v + 1))) h
      ∙ yes _ _ s
      ∙ ap (ok (declare_own p a b)) (sym w)

  pub own-step : (p q x y : ℕ) (a b : Bool) → get_or ks p 0 ≡ k_int → p < length ks → get_or ks (p + 1) 0 ≡ k_name → get_or ks (p + 1 + 1) 0 ≡ k_free → EndAt (p + 1 + 1 + 1) a x → get_or ks x 0 ≡ k_dot_dot → EndAt (x + 1) b y → get_or ks y 0 ≡ k_semi → q ≡ y + 1 → Stmt (declare_own p a b) p q
  unfolding read_stmt read_decl
  own-step p q x y a b e i n r l o h s w zero f = absurd (omega arith)
  own-step p q x y a b e i n r l o h s w (suc d) f = no _ _ (clash e refl) ∙ yes _ _ e ∙ yes _ _ n ∙ no _ _ (clash r refl) ∙ yes _ _ r ∙ no _ _ (end-first l) ∙ own-reads p q x y a b l o h s w

  pub assign-step : (p q x : ℕ) (s : Tree sum) → get_or ks p 0 ≡ k_name → get_or ks (p + 1) 0 ≡ k_assign → p + 1 + 1 < length ks → SumDone s (p + 1 + 1) x → get_or ks x 0 ≡ k_semi → q ≡ x + 1 → Stmt (assign p s) p q
  unfolding read_stmt read_named
  assign-step p q x s e n i h m w zero f = absurd (omega arith)
  assign-step p q x s e n i h m w (suc zero) f = absurd (omega arith)
  assign-step p q x s e n i h m w (suc (suc d)) f = no _ _ (clash e refl) ∙ no _ _ (clash e refl) ∙ yes _ _ e ∙ yes _ _ n ∙ ended-step (assign p) (p + 1 + 1) q x s i h m w d (omega arith)

  pub return-step : (p q x : ℕ) (s : Tree sum) → get_or ks p 0 ≡ k_return → p + 1 < length ks → SumDone s (p + 1) x → get_or ks x 0 ≡ k_semi → q ≡ x + 1 → Stmt (return p s) p q
  unfolding read_stmt
  return-step p q x s e i h m w zero f = absurd (omega arith)
  return-step p q x s e i h m w (suc d) f = no _ _ (clash e refl) ∙ no _ _ (clash e refl) ∙ no _ _ (clash e refl) ∙ no _ _ (clash e refl) ∙ no _ _ (clash e refl) ∙ no _ _ (clash e refl) ∙ yes _ _ e ∙ ended-step (return p) (p + 1) q x s i h m w d (omega arith)

  pub fail-step : (p q : ℕ) → get_or ks p 0 ≡ k_fail → p < length ks → get_or ks (p + 1) 0 ≡ k_semi → q ≡ p + 1 + 1 → Stmt (fail p) p q
  unfolding read_stmt read_fail
  fail-step p q e i n w zero f = absurd (omega arith)
  fail-step p q e i n w (suc d) f = no _ _ (clash e refl) ∙ no _ _ (clash e refl) ∙ no _ _ (clash e refl) ∙ no _ _ (clash e refl) ∙ no _ _ (clash e refl) ∙ no _ _ (clash e refl) ∙ no _ _ (clash e refl) ∙ yes _ _ e ∙ yes _ _ n ∙ ap (ok (fail p)) (sym w)

  pub block-step : (p q : ℕ) (b : Tree body) → get_or ks p 0 ≡ k_lbrace → p < length ks → Body b (p + 1) q → Stmt (block p b) p q
  unfolding read_stmt
  block-step p q b e i h zero f = absurd (omega arith)
  block-step p q b e i h (suc zero) f = absurd (omega arith)
  block-step p q b e i h (suc (suc d)) f = no _ _ (clash e refl) ∙ no _ _ (clash e refl) ∙ no _ _ (clash e refl) ∙ yes _ _ e ∙ then_ok _ (h d (omega arith))

  pub while-step : (p q x : ℕ) (c : Tree cond) (s : Tree stmt) → get_or ks p 0 ≡ k_while → p < length ks → ((d : ℕ) → Fuel 1 d (p + 1) → read_guard ks d (p + 1) ≡ ok c x) → p < x → Stmt s x q → Stmt (while p c s) p q
  unfolding read_stmt
  while-step p q x c s e i g l h zero f = absurd (omega arith)
  while-step p q x c s e i g l h (suc zero) f = absurd (omega arith)
  while-step p q x c s e i g l h (suc (suc d)) f = no _ _ (clash e refl) ∙ no _ _ (clash e refl) ∙ no _ _ (clash e refl) ∙ no _ _ (clash e refl) ∙ no _ _ (clash e refl) ∙ yes _ _ e ∙ then_ok _ (g d (omega arith)) ∙ then_ok _ (h d (omega arith))

  pub if-step : (p q x y : ℕ) (c : Tree cond) (s t : Tree stmt) → get_or ks p 0 ≡ k_if → p < length ks → ((d : ℕ) → Fuel 1 d (p + 1) → read_guard ks d (p + 1) ≡ ok c x) → p < x → Stmt s x y → x ≤ y → get_or ks y 0 ≡ k_else → Stmt t (y + 1) q → Stmt (if_else p c s t) p q
  unfolding read_stmt
  if-step p q x y c s t e i g l h m n k zero f = absurd (omega arith)
  if-step p q x y c s t e i g l h m n k (suc zero) f = absurd (omega arith)
  if-step p q x y c s t e i g l h m n k (suc (suc d)) f = no _ _ (clash e refl) ∙ no _ _ (clash e refl) ∙ no _ _ (clash e refl) ∙ no _ _ (clash e refl) ∙ yes _ _ e ∙ then_ok _ (g d (omega arith)) ∙ then_ok _ (h d (omega arith)) ∙ yes _ _ n ∙ then_ok _ (k d (omega arith))

  -- a statement that begins as an expression does is read as one
  eval-start : (p : ℕ) {l : List ℕ} → Start l → drop p ks ≡ l → (d : ℕ) → Fuel 7 d p → Goes 5 p (read_stmt ks d p) (λ e. read_ended ks eval e p)
  unfolding read_stmt read_named
  eval-start p s-number h zero f = absurd (omega (arith, (ahead p h).inside))
  eval-start p s-number h (suc d) f = let a = ahead p h in let e = a.here in goes (λ e. read_ended ks eval e p) d a.inside (omega arith) (no _ _ (clash e refl) ∙ no _ _ (clash e refl) ∙ no _ _ (clash e refl) ∙ no _ _ (clash e refl) ∙ no _ _ (clash e refl) ∙ no _ _ (clash e refl) ∙ no _ _ (clash e refl) ∙ no _ _ (clash e refl))
  eval-start p s-minus h zero f = absurd (omega (arith, (ahead p h).inside))
  eval-start p s-minus h (suc d) f = let a = ahead p h in let e = a.here in goes (λ e. read_ended ks eval e p) d a.inside (omega arith) (no _ _ (clash e refl) ∙ no _ _ (clash e refl) ∙ no _ _ (clash e refl) ∙ no _ _ (clash e refl) ∙ no _ _ (clash e refl) ∙ no _ _ (clash e refl) ∙ no _ _ (clash e refl) ∙ no _ _ (clash e refl))
  eval-start p s-open h zero f = absurd (omega (arith, (ahead p h).inside))
  eval-start p s-open h (suc d) f = let a = ahead p h in let e = a.here in goes (λ e. read_ended ks eval e p) d a.inside (omega arith) (no _ _ (clash e refl) ∙ no _ _ (clash e refl) ∙ no _ _ (clash e refl) ∙ no _ _ (clash e refl) ∙ no _ _ (clash e refl) ∙ no _ _ (clash e refl) ∙ no _ _ (clash e refl) ∙ no _ _ (clash e refl))
  eval-start p (s-name n) h zero f = absurd (omega (arith, (ahead p h).inside))
  eval-start p (s-name n) h (suc zero) f = absurd (omega (arith, (ahead p h).inside))
  eval-start p (s-name n) h (suc (suc d)) f = let a = ahead p h in let e = a.here in goes (λ e. read_ended ks eval e p) d a.inside (omega arith) (no _ _ (clash e refl) ∙ no _ _ (clash e refl) ∙ yes _ _ e ∙ no _ _ (clash (ahead (p + 1) a.next).here n))

  pub eval-step : (p q x : ℕ) {l : List ℕ} (s : Tree sum) → Start l → drop p ks ≡ l → p < length ks → SumDone s p x → get_or ks x 0 ≡ k_semi → q ≡ x + 1 → Stmt (eval s) p q
  eval-step p q x s b r i h m w d f = let g = eval-start p b r d f in g.is ∙ ended-step eval p q x s i h m w (suc g.fuel) g.enough

  pub no-stmts-step : (p q : ℕ) → q < length ks → q ≡ p → Stmts no_stmts p q
  no-stmts-step p q i e d f = goes (λ e. more_body ks e no_stmts q) d i (omega arith) (ap (more_body ks d no_stmts) (sym e))

  pub more-stmts-step : (p q x : ℕ) (l : Tree stmts) (s : Tree stmt) → Stmts l p x → (get_or ks x 0 ≡ k_rbrace → ⊥) → x < q → q < length ks → Stmt s x q → Stmts (more_stmts l s) p q
  unfolding read_stmt
  more-stmts-step p q x l s h n b i k d f = let g = h d f in goes (λ e. more_body ks e (more_stmts l s) q) g.fuel i (omega (arith, g.enough)) (g.is ∙ no _ _ n ∙ then_ok _ (k g.fuel (omega (arith, g.enough))))

  pub braced-step : (p q x : ℕ) (l : Tree stmts) → Stmts l p x → get_or ks x 0 ≡ k_rbrace → q ≡ x + 1 → Body (braced l x) p q
  unfolding read_stmt
  braced-step p q x l h n w d f = (h d f).is ∙ yes _ _ n ∙ ap (ok (braced l x)) (sym w)

  -- ---- functions

  pub no-params-step : (p q : ℕ) → get_or ks p 0 ≡ k_close → p < length ks → q ≡ p + 1 → Params no_params p q
  unfolding read_params
  no-params-step p q e i w zero f = absurd (omega arith)
  no-params-step p q e i w (suc d) f = yes _ _ e ∙ ap (ok no_params) (sym w)

  pub some-params-step : (p q x : ℕ) (l : Tree param_list) → ParamList l p x → get_or ks x 0 ≡ k_close → q ≡ x + 1 → Params (some_params l) p q
  unfolding more_params
  some-params-step p q x l h n w d f = (h d f).is ∙ no _ _ (clash n refl) ∙ yes _ _ n ∙ ap (ok (some_params l)) (sym w)

  pub first-param-step : (p q : ℕ) → get_or ks p 0 ≡ k_int → get_or ks (p + 1) 0 ≡ k_name → q < length ks → q ≡ p + 1 + 1 → ParamList (first_param (p + 1)) p q
  unfolding read_params
  first-param-step p q e n i w zero f = absurd (omega arith)
  first-param-step p q e n i w (suc d) f = goes (λ e. more_params ks e (first_param (p + 1)) q) d i (omega arith) (no _ _ (clash e refl) ∙ yes _ _ e ∙ yes _ _ n ∙ ap (more_params ks d (first_param (p + 1))) (sym w))

  pub next-param-step : (p q x : ℕ) (l : Tree param_list) → ParamList l p x → get_or ks x 0 ≡ k_comma → get_or ks (x + 1) 0 ≡ k_int → get_or ks (x + 1 + 1) 0 ≡ k_name → q < length ks → q ≡ x + 1 + 1 + 1 → ParamList (next_param l (x + 1 + 1)) p q
  unfolding more_params
  next-param-step p q x l h e n m i w d f = let g = h d f in goes (λ e. more_params ks e (next_param l (x + 1 + 1)) q) g.fuel i (omega (arith, g.enough)) (g.is ∙ yes _ _ e ∙ yes _ _ n ∙ yes _ _ m ∙ ap (more_params ks g.fuel (next_param l (x + 1 + 1))) (sym w))

  pub function-step : (p q x : ℕ) (ps : Tree params) (b : Tree body) → get_or ks (p + 1) 0 ≡ k_name → get_or ks (p + 1 + 1) 0 ≡ k_open → p < length ks → Params ps (p + 1 + 1 + 1) x → p + 1 + 1 + 1 < x → get_or ks x 0 ≡ k_lbrace → Body b (x + 1) q → Fun (function (p + 1) ps b) p q
  unfolding read_fun
  function-step p q x ps b n m i h l o k zero f = absurd (omega arith)
  function-step p q x ps b n m i h l o k (suc d) f = yes _ _ n ∙ yes _ _ m ∙ then_ok _ (h d (omega arith)) ∙ yes _ _ o ∙ then_ok _ (k d (omega arith))

  pub no-funs-step : (p q : ℕ) → q < length ks → q ≡ p → Prog no_funs p q
  no-funs-step p q i e d f = goes (λ e. more_prog ks e no_funs q) d i (omega arith) (ap (more_prog ks d no_funs) (sym e))

  pub more-funs-step : (p q x : ℕ) (l : Tree prog) (u : Tree fun) → Prog l p x → get_or ks x 0 ≡ k_int → x < q → q < length ks → Fun u x q → Prog (more_funs l u) p q
  unfolding more_prog
  more-funs-step p q x l u h n b i k d f = let g = h d f in goes (λ e. more_prog ks e (more_funs l u) q) g.fuel i (omega (arith, g.enough)) (g.is ∙ yes _ _ n ∙ then_ok _ (k g.fuel (omega (arith, g.enough))))
