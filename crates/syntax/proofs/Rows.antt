-- What a written row leaves: its own node, and every other node.
use Prim.Native.Nat.{ℕ, ◌+◌, ◌*◌, ◌≤◌, ◌<◌}
use mathlib.Core.Path.{◌≡◌, refl, ◌∙◌}
use mathlib.Core.List.{List}
use mathlib.Core.Logic.{◌⊎◌, inl, inr}
use native.Mathlib.Omega.{arith}
use lib.ListN.{length, get_or, set, length-set}
use lib.Seq.{get_or-set_same, get_or-set_other}
use Rattle.syntax.specs.Ast.{Sort, Ast}
use Rattle.syntax.specs.Table.{node_first, node_second, node_third, node_token, node_words, row, Row, At, at-number, at-negative, at_name, at_call, at_bracket, at-times, at-plus, at-minus, at_no_args, at-more-args, at-always, at-never, at-compare, at_both, at-either, at-empty, at-declare, at-declare-free, at-declare-own, at-assign, at-eval, at_block, at-if-else, at-while, at_return, at-fail, at-no-stmts, at-more-stmts, at-braced, at-no-params, at-more-params, at-function, at-no-funs, at-more-funs}

-- l and m have the same nodes below n
pub record Same (n : ℕ) (l m : List ℕ) : Type 0 where
  pub same : (j : ℕ) → j < node_words * n → get_or m j 0 ≡ get_or l j 0

pub same_refl : (n : ℕ) (l : List ℕ) → Same n l l
same_refl n l = record { same = λ j h. refl }

pub same-trans : {n : ℕ} {l m k : List ℕ} → Same n l m → Same n m k → Same n l k
same-trans p q = record { same = λ j h. q.same j h ∙ p.same j h }

pub same-less : {n k : ℕ} {l m : List ℕ} → n ≤ k → Same k l m → Same n l m
same-less h p = record { same = λ j i. p.same j (omega arith) }

pub kept_row : {n i k t a b c : ℕ} {l m : List ℕ} → i < n → Same n l m → Row l i k t a b c → Row m i k t a b c
kept_row {n} {i} h s r = record {
  kind = s.same (node_words * i) (omega arith) ∙ r.kind;
  token = s.same (node_words * i + node_token) (omega arith) ∙ r.token;
  first = s.same (node_words * i + node_first) (omega arith) ∙ r.first;
  second = s.same (node_words * i + node_second) (omega arith) ∙ r.second;
  third = s.same (node_words * i + node_third) (omega arith) ∙ r.third;
}

-- a tree below n stands in both
pub kept_at : {n : ℕ} {l m : List ℕ} → Same n l m → {s : Sort} {i k : ℕ} {x : Ast s} → i < n → At l s i k x → At m s i k x
kept_at s h (at-number r) = at-number (kept_row h s r)
kept_at s h (at-negative r) = at-negative (kept_row h s r)
kept_at s h (at_name r) = at_name (kept_row h s r)
kept_at s h (at_call r p x) = at_call (kept_row h s r) p (kept_at s (omega arith) x)
kept_at s h (at_bracket r p x) = at_bracket (kept_row h s r) p (kept_at s (omega arith) x)
kept_at s h (at-times r p q x y) = at-times (kept_row h s r) p q (kept_at s (omega arith) x) (kept_at s (omega arith) y)
kept_at s h (at-plus r p q x y) = at-plus (kept_row h s r) p q (kept_at s (omega arith) x) (kept_at s (omega arith) y)
kept_at s h (at-minus r p q x y) = at-minus (kept_row h s r) p q (kept_at s (omega arith) x) (kept_at s (omega arith) y)
kept_at s h (at_no_args r) = at_no_args (kept_row h s r)
kept_at s h (at-more-args r p q x y) = at-more-args (kept_row h s r) p q (kept_at s (omega arith) x) (kept_at s (omega arith) y)
kept_at s h (at-always r) = at-always (kept_row h s r)
kept_at s h (at-never r) = at-never (kept_row h s r)
kept_at s h (at-compare {o = o} r p q x y) = at-compare {o = o} (kept_row h s r) p q (kept_at s (omega arith) x) (kept_at s (omega arith) y)
kept_at s h (at_both r p q x y) = at_both (kept_row h s r) p q (kept_at s (omega arith) x) (kept_at s (omega arith) y)
kept_at s h (at-either r p q x y) = at-either (kept_row h s r) p q (kept_at s (omega arith) x) (kept_at s (omega arith) y)
kept_at s h (at-empty r) = at-empty (kept_row h s r)
kept_at s h (at-declare r) = at-declare (kept_row h s r)
kept_at s h (at-declare-free r) = at-declare-free (kept_row h s r)
kept_at s h (at-declare-own {a = a} {b = b} r) = at-declare-own {a = a} {b = b} (kept_row h s r)
kept_at s h (at-assign r p x) = at-assign (kept_row h s r) p (kept_at s (omega arith) x)
kept_at s h (at-eval r p x) = at-eval (kept_row h s r) p (kept_at s (omega arith) x)
kept_at s h (at_block r p x) = at_block (kept_row h s r) p (kept_at s (omega arith) x)
kept_at s h (at-if-else r p q o x y z) = at-if-else (kept_row h s r) p q o (kept_at s (omega arith) x) (kept_at s (omega arith) y) (kept_at s (omega arith) z)
kept_at s h (at-while r p q x y) = at-while (kept_row h s r) p q (kept_at s (omega arith) x) (kept_at s (omega arith) y)
kept_at s h (at_return r p x) = at_return (kept_row h s r) p (kept_at s (omega arith) x)
kept_at s h (at-fail r) = at-fail (kept_row h s r)
kept_at s h (at-no-stmts r) = at-no-stmts (kept_row h s r)
kept_at s h (at-more-stmts r p q x y) = at-more-stmts (kept_row h s r) p q (kept_at s (omega arith) x) (kept_at s (omega arith) y)
kept_at s h (at-braced r p x) = at-braced (kept_row h s r) p (kept_at s (omega arith) x)
kept_at s h (at-no-params r) = at-no-params (kept_row h s r)
kept_at s h (at-more-params r p x) = at-more-params (kept_row h s r) p (kept_at s (omega arith) x)
kept_at s h (at-function r p q x y) = at-function (kept_row h s r) p q (kept_at s (omega arith) x) (kept_at s (omega arith) y)
kept_at s h (at-no-funs r) = at-no-funs (kept_row h s r)
kept_at s h (at-more-funs r p q x y) = at-more-funs (kept_row h s r) p q (kept_at s (omega arith) x) (kept_at s (omega arith) y)

-- ---- a written row

module _ (l : List ℕ) (i k t a b c : ℕ) where
  pub length-row : length (row l i k t a b c) ≡ length l
  length-row = simp length-set

  abbrev l₁ : List ℕ
  l₁ = set l (node_words * i) k

  abbrev l₂ : List ℕ
  l₂ = set l₁ (node_words * i + node_token) t

  abbrev l₃ : List ℕ
  l₃ = set l₂ (node_words * i + node_first) a

  abbrev l₄ : List ℕ
  l₄ = set l₃ (node_words * i + node_second) b

  at₄ : (j : ℕ) → (j ≡ node_words * i + node_third → ⊥) → get_or (row l i k t a b c) j 0 ≡ get_or l₄ j 0
  at₄ j h = get_or-set_other l₄ (node_words * i + node_third) j c 0 h

  at₃ : (j : ℕ) → (j ≡ node_words * i + node_second → ⊥) → get_or l₄ j 0 ≡ get_or l₃ j 0
  at₃ j h = get_or-set_other l₃ (node_words * i + node_second) j b 0 h

  at₂ : (j : ℕ) → (j ≡ node_words * i + node_first → ⊥) → get_or l₃ j 0 ≡ get_or l₂ j 0
  at₂ j h = get_or-set_other l₂ (node_words * i + node_first) j a 0 h

  at₁ : (j : ℕ) → (j ≡ node_words * i + node_token → ⊥) → get_or l₂ j 0 ≡ get_or l₁ j 0
  at₁ j h = get_or-set_other l₁ (node_words * i + node_token) j t 0 h

  at₀ : (j : ℕ) → (j ≡ node_words * i → ⊥) → get_or l₁ j 0 ≡ get_or l j 0
  at₀ j h = get_or-set_other l (node_words * i) j k 0 h

  -- the words of other nodes are kept
  pub row_other : (j : ℕ) → (j < node_words * i) ⊎ (node_words * i + node_words ≤ j) → get_or (row l i k t a b c) j 0 ≡ get_or l j 0
  row_other j (inl h) = at₄ j (λ e. omega arith) ∙ at₃ j (λ e. omega arith) ∙ at₂ j (λ e. omega arith) ∙ at₁ j (λ e. omega arith) ∙ at₀ j (λ e. omega arith)
  row_other j (inr h) = at₄ j (λ e. omega arith) ∙ at₃ j (λ e. omega arith) ∙ at₂ j (λ e. omega arith) ∙ at₁ j (λ e. omega arith) ∙ at₀ j (λ e. omega arith)

  pub row_same : Same i l (row l i k t a b c)
  row_same = record { same = λ j h. row_other j (inl h) }

  -- the node itself has what was written
  pub row_is : node_words * i + node_words ≤ length l → Row (row l i k t a b c) i k t a b c
  row_is h =
      let e₁ : length l₁ ≡ length l = simp length-set in
      let e₂ : length l₂ ≡ length l = simp length-set in
      let e₃ : length l₃ ≡ length l = simp length-set in
      let e₄ : length l₄ ≡ length l = simp length-set in
      record {
        kind = at₄ (node_words * i) (λ e. omega arith) ∙ at₃ (node_words * i) (λ e. omega arith) ∙ at₂ (node_words * i) (λ e. omega arith) ∙ at₁ (node_words * i) (λ e. omega arith) ∙ get_or-set_same l (node_words * i) k 0 (omega arith);
        token = at₄ (node_words * i + node_token) (λ e. omega arith) ∙ at₃ (node_words * i + node_token) (λ e. omega arith) ∙ at₂ (node_words * i + node_token) (λ e. omega arith) ∙ get_or-set_same l₁ (node_words * i + node_token) t 0 (omega arith);
        first = at₄ (node_words * i + node_first) (λ e. omega arith) ∙ at₃ (node_words * i + node_first) (λ e. omega arith) ∙ get_or-set_same l₂ (node_words * i + node_first) a 0 (omega arith);
        second = at₄ (node_words * i + node_second) (λ e. omega arith) ∙ get_or-set_same l₃ (node_words * i + node_second) b 0 (omega arith);
        third = get_or-set_same l₄ (node_words * i + node_third) c 0 (omega arith);
      }
