-- A node with two sides and a sign between: its bytes are those of its sides, as `expression` puts them.
use Prim.Native.Nat.{ℕ, ◌<◌}
use mathlib.Core.Path.{◌≡◌, refl, sym, ap, ◌∙◌, subst}
use mathlib.Core.Bool.{Bool}
use mathlib.Core.List.{List, [], ◌∷◌, ◌++◌, append-nil}
use native.Mathlib.Omega.{arith}
use lib.Dec.{ltb}
use Rattle.syntax.specs.Tree.{product, Cmp, less, less_eq, greater, greater_eq, equal, unequal}
use Rattle.syntax.specs.Ast.{Sort, Ast}
use Rattle.syntax.specs.Table.{At, Row, Holds, cmp_number, at-times, at-plus, at-minus, at-compare, at_both, at-either}
use Rattle.syntax.specs.Fetch.{Fetched}
use Rattle.syntax.specs.NodeKinds.{node_number}
use Rattle.syntax.specs.declared.node.Node.{Node}
use Rattle.lexer.specs.Lex.{bytes}
use Rattle.events.specs.Walk.{Below}
use Rattle.events.specs.Visit.{level}
use Rattle.events.proofs.Nodes.{Joint, times, plus, minus, compare, both, either, at-kind}
use Rattle.house_style.specs.Named.{strip}
use Rattle.house_style.specs.House.{Piece, flat, within, laid, round, cmp_sign}
use Rattle.house_style.proofs.Adding.{Adds, before, then, laid-adds}
use Rattle.writer.specs.Parts.{bracketed, left_rank, right_rank, if_so, comparison_sign, sign_of}
use Rattle.writer.proofs.Bytes.{bracket-bytes, two_bytes, in_order}

module _ (spell : ℕ → List ℕ) (value : ℕ → ℕ) where
  abbrev pub shown : {s : Sort} → ℕ → Ast s → List ℕ
  shown n x = flat (laid n (strip spell value x) [])

  pub record Sides (l : List ℕ) (i a b k o : ℕ) {s : Sort} (t : Ast s) : Type 0 where
    pub s₁ : Sort
    pub s₂ : Sort
    pub x : Ast s₁
    pub y : Ast s₂
    pub part : level s₁ ≡ 0
    pub part₂ : level s₂ ≡ 0
    pub falls : a < i
    pub falls₂ : b < i
    pub holds : Holds l a x
    pub holds₂ : Holds l b y
    pub below : Below 65536 t → Below 65536 x
    pub below₂ : Below 65536 t → Below 65536 y
    pub is : (n : ℕ) → shown n t ≡ (((if_so (bracketed k n) (40 ∷ []) ++ shown (left_rank k) x) ++ sign_of k o) ++ shown (right_rank k) y) ++ if_so (bracketed k n) (41 ∷ [])

  pub moved : {s : Sort} {l : List ℕ} {a b k : ℕ} {x : Ast s} → b ≡ a → At l s a k x → Holds l b x
  moved {s} {l} {k = k} {x = x} e h = record { kind = k; at = subst (λ (j : ℕ). At l s j k x) (sym e) h }

  -- an operation that may stand in brackets
  operated : {s u : Sort} (m n : ℕ) (b : Bool) (x : Ast s) (y : Ast u) (sign : List ℕ) (f : List Piece → List Piece) → Adds f → flat (f []) ≡ (shown m x ++ sign) ++ shown n y
      → flat (within b f []) ≡ (((if_so b (40 ∷ []) ++ shown m x) ++ sign) ++ shown n y) ++ if_so b (41 ∷ [])
  operated m n b x y sign f h e = bracket-bytes b f h ∙ ap (λ (l : List ℕ). (if_so b (40 ∷ []) ++ l) ++ if_so b (41 ∷ [])) e ∙ in_order (if_so b (40 ∷ [])) (shown m x) sign (shown n y) (if_so b (41 ∷ []))

  -- one that never does
  plainly : {s u : Sort} (x : Ast s) (y : Ast u) (sign : List ℕ) (ps : List Piece) → flat ps ≡ sign ++ shown 0 y → flat (laid 0 (strip spell value x) ps) ≡ (((([] ++ shown 0 x) ++ sign) ++ shown 0 y) ++ [])
  plainly x y sign ps e = two_bytes 0 0 (strip spell value x) (strip spell value y) sign ps e ∙ sym (append-nil ((shown 0 x ++ sign) ++ shown 0 y))

  comparison-bytes : (o : Cmp) (ps : List Piece) → flat (round (cmp_sign o) ps) ≡ comparison_sign (cmp_number o) ++ flat ps
  unfolding flat
  comparison-bytes less ps = refl
  comparison-bytes less_eq ps = refl
  comparison-bytes greater ps = refl
  comparison-bytes greater_eq ps = refl
  comparison-bytes equal ps = refl
  comparison-bytes unequal ps = refl

  -- two sides that stand where the node says
  joined : {l : List ℕ} {s u : Sort} {i a b j h k o : ℕ} {n : Node} {t : Ast s} (x y : Ast u) → level u ≡ 0 → Fetched l i n → Row l i k 0 a b o → a < i → b < i → At l u a j x → At l u b h y → (Below 65536 t → Below 65536 x × Below 65536 y)
      → ((m : ℕ) → shown m t ≡ (((if_so (bracketed k m) (40 ∷ []) ++ shown (left_rank k) x) ++ sign_of k n.third) ++ shown (right_rank k) y) ++ if_so (bracketed k m) (41 ∷ [])) → Sides l i n.first n.second k n.third t
  joined {u = u} x y e f r p q c d below is = record {
    s₁ = u;
    s₂ = u;
    x = x;
    y = y;
    part = e;
    part₂ = e;
    falls = omega (arith, f.first, r.first, p);
    falls₂ = omega (arith, f.second, r.second, q);
    holds = moved (f.first ∙ r.first) c;
    holds₂ = moved (f.second ∙ r.second) d;
    below = λ b. (below b).0;
    below₂ = λ b. (below b).1;
    is = is;
  }

  sides-at : {l : List ℕ} {s : Sort} {i k : ℕ} {n : Node} {t : Ast s} → Joint k → Fetched l i n → At l s i k t → Sides l i n.first n.second k n.third t
  unfolding strip laid flat Below
  sides-at times f (at-times {o = product} {x = x} {y = y} r p q c e) = joined x y refl f r p q c e (λ b. b) (λ n. operated 1 2 (ltb 1 n) x y (bytes " * ") _ (then (laid-adds 1 (strip spell value x)) (before _ (before _ (before _ (laid-adds 2 (strip spell value y)))))) (two_bytes 1 2 (strip spell value x) (strip spell value y) (bytes " * ") _ refl))
  sides-at plus f (at-plus {x = x} {y = y} r p q c e) = joined x y refl f r p q c e (λ b. b) (λ n. operated 0 1 (ltb 0 n) x y (bytes " + ") _ (then (laid-adds 0 (strip spell value x)) (before _ (before _ (before _ (laid-adds 1 (strip spell value y)))))) (two_bytes 0 1 (strip spell value x) (strip spell value y) (bytes " + ") _ refl))
  sides-at minus f (at-minus {x = x} {y = y} r p q c e) = joined x y refl f r p q c e (λ b. b) (λ n. operated 0 1 (ltb 0 n) x y (bytes " - ") _ (then (laid-adds 0 (strip spell value x)) (before _ (before _ (before _ (laid-adds 1 (strip spell value y)))))) (two_bytes 0 1 (strip spell value x) (strip spell value y) (bytes " - ") _ refl))
  sides-at {n = n} compare f (at-compare {o = o} {x = x} {y = y} r p q c e) = joined x y refl f r p q c e (λ b. b) (λ m. plainly x y (comparison_sign n.third) (round (cmp_sign o) (laid 0 (strip spell value y) [])) (comparison-bytes o (laid 0 (strip spell value y) []) ∙ ap (λ (z : ℕ). comparison_sign z ++ shown 0 y) (sym (f.third ∙ r.third))))
  sides-at both f (at_both {x = x} {y = y} r p q c e) = joined x y refl f r p q c e (λ b. b) (λ n. plainly x y (bytes " && ") _ refl)
  sides-at either f (at-either {x = x} {y = y} r p q c e) = joined x y refl f r p q c e (λ b. b) (λ n. plainly x y (bytes " || ") _ refl)

  pub sides : {l : List ℕ} {s : Sort} {i : ℕ} {n : Node} {t : Ast s} → Joint (node_number n.kind) → Fetched l i n → Holds l i t → Sides l i n.first n.second (node_number n.kind) n.third t
  sides {n = n} j f h = sides-at j f (at-kind (node_number n.kind) f refl h)
