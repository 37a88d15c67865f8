-- Nodes that hold no other part: their bytes, by their kind and their token. And declarations with their own pair.
use Prim.Native.Nat.{ℕ, ◌+◌, ◌<◌}
use mathlib.Core.Path.{◌≡◌, refl, sym, ap, ◌∙◌}
use mathlib.Core.Bool.{Bool, true, false, cond}
use mathlib.Core.List.{List, [], ◌∷◌, ◌++◌, append_assoc, append-nil}
use native.Mathlib.Omega.{arith}
use lib.Dec.{ltb}
use Rattle.syntax.specs.Ast.{Sort, Ast, bit, low_first, low_number, high_number}
use Rattle.syntax.specs.Table.{At, Holds, n_call, n_bracket, n_more_args, n_empty, n_declare_own, n_assign, n_eval, n_return, n_block, n_if_else, n_while, n_more_stmts, n_braced, n_no_params, n_more_params, n_function, n_more_funs, at-number, at-negative, at_name, at_call, at_bracket, at-times, at-plus, at-minus, at_no_args, at-more-args, at-always, at-never, at-compare, at_both, at-either, at-empty, at-declare, at-declare-free, at-declare-own, at-assign, at-eval, at_block, at-if-else, at-while, at_return, at-fail, at-no-stmts, at-more-stmts, at-braced, at-no-params, at-more-params, at-function, at-no-funs, at-more-funs}
use Rattle.syntax.specs.Fetch.{Fetched}
use Rattle.syntax.specs.NodeKinds.{node_number}
use Rattle.syntax.specs.declared.node.Node.{Node}
use Rattle.syntax.specs.declared.node.NodeKind.TheVariants as kind
use Rattle.lexer.specs.Lex.{bytes}
use Rattle.events.specs.Visit.{level}
use Rattle.events.proofs.Nodes.{Joint, times, plus, minus, compare, both, either, at-kind}
use Rattle.printing.specs.Decimal.{natural}
use Rattle.house_style.specs.Named.{strip}
use Rattle.house_style.specs.House.{Piece, the, newline, round, flat, indent, signed, laid}
use Rattle.writer.specs.Parts.{leaf_bytes, end_bytes, pair_bytes, declared_bytes, plain_bytes}
use Rattle.writer.proofs.Sides.{shown}

-- the kind of a node says what its tree is a part of
abbrev kind_level : ℕ → ℕ
kind_level k = cond (ltb k n_empty) 0 (cond (ltb k n_no_params) 1 2)

at_level : {l : List ℕ} {s : Sort} {i k : ℕ} {t : Ast s} → At l s i k t → level s ≡ kind_level k
at_level (at-number r) = refl
at_level (at-negative r) = refl
at_level (at_name r) = refl
at_level (at_call r p x) = refl
at_level (at_bracket r p x) = refl
at_level (at-times r p q x y) = refl
at_level (at-plus r p q x y) = refl
at_level (at-minus r p q x y) = refl
at_level (at_no_args r) = refl
at_level (at-more-args r p q x y) = refl
at_level (at-always r) = refl
at_level (at-never r) = refl
at_level (at-compare r p q x y) = refl
at_level (at_both r p q x y) = refl
at_level (at-either r p q x y) = refl
at_level (at-empty r) = refl
at_level (at-declare r) = refl
at_level (at-declare-free r) = refl
at_level (at-declare-own r) = refl
at_level (at-assign r p x) = refl
at_level (at-eval r p x) = refl
at_level (at_block r p x) = refl
at_level (at-if-else r p q o x y z) = refl
at_level (at-while r p q x y) = refl
at_level (at_return r p x) = refl
at_level (at-fail r) = refl
at_level (at-no-stmts r) = refl
at_level (at-more-stmts r p q x y) = refl
at_level (at-braced r p x) = refl
at_level (at-no-params r) = refl
at_level (at-more-params r p x) = refl
at_level (at-function r p q x y) = refl
at_level (at-no-funs r) = refl
at_level (at-more-funs r p q x y) = refl

pub level-of : {l : List ℕ} {s u : Sort} {i v : ℕ} {n : Node} {x : Ast u} {t : Ast s} → Fetched l i n → Holds l i x → level u ≡ v → Holds l i t → level s ≡ v
level-of {n = n} f h e g = at_level (at-kind (node_number n.kind) f refl g) ∙ sym (at_level (at-kind (node_number n.kind) f refl h)) ∙ e

module _ (spell : ℕ → List ℕ) (value : ℕ → ℕ) where
  pub leaf-at : {l : List ℕ} {s : Sort} {i k : ℕ} {m : Node} {t : Ast s} → level s ≡ 0 → Fetched l i m → At l s i k t → (k ≡ n_call → ⊥) → (k ≡ n_bracket → ⊥) → (k ≡ n_more_args → ⊥) → (Joint k → ⊥)
      → (n : ℕ) → shown spell value n t ≡ leaf_bytes spell value k m.token
  unfolding strip laid flat
  leaf-at h f (at-number r) _ _ _ _ n = append-nil (natural (value _)) ∙ ap (λ (z : ℕ). natural (value z)) (sym (f.token ∙ r.token))
  leaf-at h f (at-negative r) _ _ _ _ n = ap (45 ∷◌) (append-nil (natural (value (_ + 1)))) ∙ ap (λ (z : ℕ). 45 ∷ natural (value (z + 1))) (sym (f.token ∙ r.token))
  leaf-at h f (at_name r) _ _ _ _ n = append-nil (spell _) ∙ ap spell (sym (f.token ∙ r.token))
  leaf-at h f (at_call r p x) w _ _ _ n = absurd (w refl)
  leaf-at h f (at_bracket r p x) _ w _ _ n = absurd (w refl)
  leaf-at h f (at-times r p q x y) _ _ _ w n = absurd (w times)
  leaf-at h f (at-plus r p q x y) _ _ _ w n = absurd (w plus)
  leaf-at h f (at-minus r p q x y) _ _ _ w n = absurd (w minus)
  leaf-at h f (at_no_args r) _ _ _ _ n = refl
  leaf-at h f (at-more-args r p q x y) _ _ w _ n = absurd (w refl)
  leaf-at h f (at-always r) _ _ _ _ n = refl
  leaf-at h f (at-never r) _ _ _ _ n = refl
  leaf-at h f (at-compare r p q x y) _ _ _ w n = absurd (w compare)
  leaf-at h f (at_both r p q x y) _ _ _ w n = absurd (w both)
  leaf-at h f (at-either r p q x y) _ _ _ w n = absurd (w either)
  leaf-at h f (at-empty r) _ _ _ _ n = absurd (omega (arith, h))
  leaf-at h f (at-declare r) _ _ _ _ n = absurd (omega (arith, h))
  leaf-at h f (at-declare-free r) _ _ _ _ n = absurd (omega (arith, h))
  leaf-at h f (at-declare-own r) _ _ _ _ n = absurd (omega (arith, h))
  leaf-at h f (at-assign r p x) _ _ _ _ n = absurd (omega (arith, h))
  leaf-at h f (at-eval r p x) _ _ _ _ n = absurd (omega (arith, h))
  leaf-at h f (at_block r p x) _ _ _ _ n = absurd (omega (arith, h))
  leaf-at h f (at-if-else r p q o x y z) _ _ _ _ n = absurd (omega (arith, h))
  leaf-at h f (at-while r p q x y) _ _ _ _ n = absurd (omega (arith, h))
  leaf-at h f (at_return r p x) _ _ _ _ n = absurd (omega (arith, h))
  leaf-at h f (at-fail r) _ _ _ _ n = absurd (omega (arith, h))
  leaf-at h f (at-no-stmts r) _ _ _ _ n = absurd (omega (arith, h))
  leaf-at h f (at-more-stmts r p q x y) _ _ _ _ n = absurd (omega (arith, h))
  leaf-at h f (at-braced r p x) _ _ _ _ n = absurd (omega (arith, h))
  leaf-at h f (at-no-params r) _ _ _ _ n = absurd (omega (arith, h))
  leaf-at h f (at-more-params r p x) _ _ _ _ n = absurd (omega (arith, h))
  leaf-at h f (at-function r p q x y) _ _ _ _ n = absurd (omega (arith, h))
  leaf-at h f (at-no-funs r) _ _ _ _ n = absurd (omega (arith, h))
  leaf-at h f (at-more-funs r p q x y) _ _ _ _ n = absurd (omega (arith, h))

  pub plain_at : {l : List ℕ} {s : Sort} {i k : ℕ} {m : Node} {t : Ast s} → level s ≡ 1 → Fetched l i m → At l s i k t → (k ≡ n_declare_own → ⊥) → (k ≡ n_assign → ⊥) → (k ≡ n_eval → ⊥) → (k ≡ n_return → ⊥) → (k ≡ n_block → ⊥) → (k ≡ n_if_else → ⊥) → (k ≡ n_while → ⊥) → (k ≡ n_more_stmts → ⊥) → (k ≡ n_braced → ⊥)
      → (n : ℕ) → shown spell value n t ≡ plain_bytes spell n k m.token
  unfolding strip laid flat
  plain_at h f (at-number r) _ _ _ _ _ _ _ _ _ n = absurd (omega (arith, h))
  plain_at h f (at-negative r) _ _ _ _ _ _ _ _ _ n = absurd (omega (arith, h))
  plain_at h f (at_name r) _ _ _ _ _ _ _ _ _ n = absurd (omega (arith, h))
  plain_at h f (at_call r p x) _ _ _ _ _ _ _ _ _ n = absurd (omega (arith, h))
  plain_at h f (at_bracket r p x) _ _ _ _ _ _ _ _ _ n = absurd (omega (arith, h))
  plain_at h f (at-times r p q x y) _ _ _ _ _ _ _ _ _ n = absurd (omega (arith, h))
  plain_at h f (at-plus r p q x y) _ _ _ _ _ _ _ _ _ n = absurd (omega (arith, h))
  plain_at h f (at-minus r p q x y) _ _ _ _ _ _ _ _ _ n = absurd (omega (arith, h))
  plain_at h f (at_no_args r) _ _ _ _ _ _ _ _ _ n = absurd (omega (arith, h))
  plain_at h f (at-more-args r p q x y) _ _ _ _ _ _ _ _ _ n = absurd (omega (arith, h))
  plain_at h f (at-always r) _ _ _ _ _ _ _ _ _ n = absurd (omega (arith, h))
  plain_at h f (at-never r) _ _ _ _ _ _ _ _ _ n = absurd (omega (arith, h))
  plain_at h f (at-compare r p q x y) _ _ _ _ _ _ _ _ _ n = absurd (omega (arith, h))
  plain_at h f (at_both r p q x y) _ _ _ _ _ _ _ _ _ n = absurd (omega (arith, h))
  plain_at h f (at-either r p q x y) _ _ _ _ _ _ _ _ _ n = absurd (omega (arith, h))
  plain_at h f (at-empty r) _ _ _ _ _ _ _ _ _ n = refl
  plain_at h f (at-declare r) _ _ _ _ _ _ _ _ _ n = ap (λ (z : ℕ). declared_bytes spell n z (bytes ";\n")) (sym (f.token ∙ r.token))
  plain_at h f (at-declare-free r) _ _ _ _ _ _ _ _ _ n = ap (λ (z : ℕ). declared_bytes spell n z (bytes " free;\n")) (sym (f.token ∙ r.token))
  plain_at h f (at-declare-own r) w _ _ _ _ _ _ _ _ n = absurd (w refl)
  plain_at h f (at-assign r p x) _ w _ _ _ _ _ _ _ n = absurd (w refl)
  plain_at h f (at-eval r p x) _ _ w _ _ _ _ _ _ n = absurd (w refl)
  plain_at h f (at_block r p x) _ _ _ _ w _ _ _ _ n = absurd (w refl)
  plain_at h f (at-if-else r p q o x y z) _ _ _ _ _ w _ _ _ n = absurd (w refl)
  plain_at h f (at-while r p q x y) _ _ _ _ _ _ w _ _ n = absurd (w refl)
  plain_at h f (at_return r p x) _ _ _ w _ _ _ _ _ n = absurd (w refl)
  plain_at h f (at-fail r) _ _ _ _ _ _ _ _ _ n = refl
  plain_at h f (at-no-stmts r) _ _ _ _ _ _ _ _ _ n = refl
  plain_at h f (at-more-stmts r p q x y) _ _ _ _ _ _ _ w _ n = absurd (w refl)
  plain_at h f (at-braced r p x) _ _ _ _ _ _ _ _ w n = absurd (w refl)
  plain_at h f (at-no-params r) _ _ _ _ _ _ _ _ _ n = absurd (omega (arith, h))
  plain_at h f (at-more-params r p x) _ _ _ _ _ _ _ _ _ n = absurd (omega (arith, h))
  plain_at h f (at-function r p q x y) _ _ _ _ _ _ _ _ _ n = absurd (omega (arith, h))
  plain_at h f (at-no-funs r) _ _ _ _ _ _ _ _ _ n = absurd (omega (arith, h))
  plain_at h f (at-more-funs r p q x y) _ _ _ _ _ _ _ _ _ n = absurd (omega (arith, h))

  pub none-at : {l : List ℕ} {s : Sort} {i k : ℕ} {m : Node} {t : Ast s} → level s ≡ 2 → Fetched l i m → At l s i k t → (k ≡ n_more_params → ⊥) → (k ≡ n_function → ⊥) → (k ≡ n_more_funs → ⊥)
      → (n : ℕ) → shown spell value n t ≡ []
  unfolding strip laid flat
  none-at h f (at-number r) _ _ _ n = absurd (omega (arith, h))
  none-at h f (at-negative r) _ _ _ n = absurd (omega (arith, h))
  none-at h f (at_name r) _ _ _ n = absurd (omega (arith, h))
  none-at h f (at_call r p x) _ _ _ n = absurd (omega (arith, h))
  none-at h f (at_bracket r p x) _ _ _ n = absurd (omega (arith, h))
  none-at h f (at-times r p q x y) _ _ _ n = absurd (omega (arith, h))
  none-at h f (at-plus r p q x y) _ _ _ n = absurd (omega (arith, h))
  none-at h f (at-minus r p q x y) _ _ _ n = absurd (omega (arith, h))
  none-at h f (at_no_args r) _ _ _ n = absurd (omega (arith, h))
  none-at h f (at-more-args r p q x y) _ _ _ n = absurd (omega (arith, h))
  none-at h f (at-always r) _ _ _ n = absurd (omega (arith, h))
  none-at h f (at-never r) _ _ _ n = absurd (omega (arith, h))
  none-at h f (at-compare r p q x y) _ _ _ n = absurd (omega (arith, h))
  none-at h f (at_both r p q x y) _ _ _ n = absurd (omega (arith, h))
  none-at h f (at-either r p q x y) _ _ _ n = absurd (omega (arith, h))
  none-at h f (at-empty r) _ _ _ n = absurd (omega (arith, h))
  none-at h f (at-declare r) _ _ _ n = absurd (omega (arith, h))
  none-at h f (at-declare-free r) _ _ _ n = absurd (omega (arith, h))
  none-at h f (at-declare-own r) _ _ _ n = absurd (omega (arith, h))
  none-at h f (at-assign r p x) _ _ _ n = absurd (omega (arith, h))
  none-at h f (at-eval r p x) _ _ _ n = absurd (omega (arith, h))
  none-at h f (at_block r p x) _ _ _ n = absurd (omega (arith, h))
  none-at h f (at-if-else r p q o x y z) _ _ _ n = absurd (omega (arith, h))
  none-at h f (at-while r p q x y) _ _ _ n = absurd (omega (arith, h))
  none-at h f (at_return r p x) _ _ _ n = absurd (omega (arith, h))
  none-at h f (at-fail r) _ _ _ n = absurd (omega (arith, h))
  none-at h f (at-no-stmts r) _ _ _ n = absurd (omega (arith, h))
  none-at h f (at-more-stmts r p q x y) _ _ _ n = absurd (omega (arith, h))
  none-at h f (at-braced r p x) _ _ _ n = absurd (omega (arith, h))
  none-at h f (at-no-params r) _ _ _ n = refl
  none-at h f (at-more-params r p x) w _ _ n = absurd (w refl)
  none-at h f (at-function r p q x y) _ w _ n = absurd (w refl)
  none-at h f (at-no-funs r) _ _ _ n = refl
  none-at h f (at-more-funs r p q x y) _ _ w n = absurd (w refl)

  -- ---- own pairs

  signed-bytes : (a : Bool) (i : ℕ) (ps : List Piece) → flat (signed a (value (low_number i a)) ps) ≡ end_bytes value i (bit a) ++ flat ps
  unfolding flat
  signed-bytes true i ps = refl
  signed-bytes false i ps = let e : i + 0 ≡ i = omega arith in ap (λ (z : ℕ). natural (value z) ++ flat ps) e

  regroup : (a x t w : List ℕ) → (a ++ (bytes "int " ++ (x ++ t))) ++ w ≡ a ++ (bytes "int " ++ (x ++ (t ++ w)))
  regroup a x t w = append_assoc a (bytes "int " ++ (x ++ t)) w ∙ ap (λ (l : List ℕ). a ++ (bytes "int " ++ l)) (append_assoc x t w)

  pub record Own (n : Node) {s : Sort} (t : Ast s) : Type 0 where
    pub low : n.first < 2
    pub is : (d : ℕ) → shown spell value d t ≡ declared_bytes spell d n.token (bytes " free ") ++ pair_bytes value (n.token + 3) n.first n.second

  own-bytes : (d i : ℕ) (a b : Bool) → flat (signed a (value (low_number (low_first i) a)) (round ".." (signed b (value (high_number (low_first i) a b)) (the ";" ∷ newline ∷ [])))) ≡ pair_bytes value (i + 3) (bit a) (bit b)
  unfolding flat
  own-bytes d i a b =
      signed-bytes a (i + 3) (round ".." (signed b (value (high_number (low_first i) a b)) (the ";" ∷ newline ∷ [])))
      ∙ ap (λ (w : List ℕ). end_bytes value (i + 3) (bit a) ++ (bytes " .. " ++ w)) (signed-bytes b (i + 3 + bit a + 2) (the ";" ∷ newline ∷ []))

  bit-low : (a : Bool) → bit a < 2
  bit-low true = omega arith
  bit-low false = omega arith

  own_at : {l : List ℕ} {s : Sort} {i : ℕ} {n : Node} {t : Ast s} → Fetched l i n → At l s i n_declare_own t → Own n t
  unfolding strip laid flat
  own_at {n = n} f (at-declare-own {t = j} {a = a} {b = b} r) =
      let p : n.token ≡ j = f.token ∙ r.token in
      let q : n.first ≡ bit a = f.first ∙ r.first in
      let o : n.second ≡ bit b = f.second ∙ r.second in
      record {
        low = omega (arith, q, bit-low a);
        is = λ d.
            let e : (indent d ++ (bytes "int " ++ (spell (j + 1) ++ (bytes " free " ++ pair_bytes value (j + 3) (bit a) (bit b))))) ≡ declared_bytes spell d n.token (bytes " free ") ++ pair_bytes value (n.token + 3) n.first n.second = rw (p, q, o) (sym (regroup (indent d) (spell (j + 1)) (bytes " free ") (pair_bytes value (j + 3) (bit a) (bit b)))) in
            ap (λ (w : List ℕ). indent d ++ (bytes "int " ++ (spell (j + 1) ++ (bytes " free " ++ w)))) (own-bytes d j a b) ∙ e;
      }

  pub own-node : {l : List ℕ} {s : Sort} {i : ℕ} {n : Node} {t : Ast s} → Fetched l i n → n.kind ≡ kind.DeclareOwn → Holds l i t → Own n t
  own-node f e h = own_at f (at-kind n_declare_own f (ap node_number e) h)
