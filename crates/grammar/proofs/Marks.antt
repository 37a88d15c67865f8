-- The marks of sums and comparisons, by number and by token.
use Prim.Native.Nat.{ℕ, suc, ◌+◌, ◌<◌}
use mathlib.Core.Path.{◌≡◌, refl, ap, ◌∙◌}
use mathlib.Core.Bool.{Bool, true, false}
use mathlib.Core.List.{List}
use Rattle.std.specs.Prelude.{Option, Some, None}
use lib.ListN.{get_or}
use lib.Dec.{eqb}
use borrow.Author.Tests.{eqb-true}
use Rattle.syntax.specs.Token.{k_plus, k_minus, k_less, k_less_eq, k_greater, k_greater_eq, k_equal, k_unequal}
use Rattle.syntax.specs.Tree.{Cat, Tree, Cmp, less, less_eq, greater, greater_eq, equal, unequal, cmp_mark, plus, minus}
use Rattle.syntax.specs.Abstract.{ast}
use Rattle.syntax.specs.Table.{Row, Holds, n_plus, n_minus, cmp_number, at-plus, at-minus}
use Rattle.grammar.specs.Parse.{ok, bad, and_then, read_term, more_sum, read_cmp}
use Rattle.grammar.specs.Readers.{choose, sign_of, comparison_of}
use Rattle.syntax.specs.TokenKinds.{kind_number}
use Rattle.syntax.specs.NodeKinds.{node_number}
use Rattle.syntax.specs.declared.token.TokenKind.{TokenKind}
use Rattle.syntax.specs.declared.node.NodeKind.{NodeKind}
use Rattle.syntax.specs.declared.node.NodeKind.TheVariants.{Plus, Minus}

module _ (ks : List ℕ) (at : ℕ) where
  -- v is the node of the sign at `at`
  pub record Signed (v : ℕ) : Type 0 where
    pub sign : ℕ
    pub stands : get_or ks at 0 ≡ sign
    pub some : eqb sign 0 ≡ false
    pub op : Tree Cat.sum → Tree Cat.term → Tree Cat.sum
    pub goes : (d : ℕ) (u : Tree Cat.sum) → more_sum ks (suc d) u at ≡ and_then (read_term ks d (at + 1)) (λ t m. more_sum ks d (op u t) m)
    pub make : {l : List ℕ} {i a b : ℕ} (x : Tree Cat.sum) (y : Tree Cat.term) → Row l i v 0 a b 0 → a < i → b < i → Holds l a (ast x) → Holds l b (ast y) → Holds l i (ast (op x y))

  pub signed : (j : TokenKind) {v : NodeKind} → kind_number j ≡ get_or ks at 0 → Some v ≡ sign_of (kind_number j) → Signed (node_number v)
  unfolding more_sum ast
  signed j {v} i e = go (eqb (get_or ks at 0) k_plus) (eqb (get_or ks at 0) k_minus) refl refl (e ∙ ap sign_of i)
    where
      go : (p q : Bool) → eqb (get_or ks at 0) k_plus ≡ p → eqb (get_or ks at 0) k_minus ≡ q → Some v ≡ choose p (Some Plus) (choose q (Some Minus) None) → Signed (node_number v)
      go true q e₁ e₂ h = record {
        sign = k_plus;
        stands = eqb-true _ _ e₁;
        some = refl;
        op = plus;
        goes = λ d u. rw (e₁, more_sum);
        make = λ x y r p q s t. let z : v ≡ Plus = cc in record { kind = n_plus; at = at-plus (rw z at r) p q s.at t.at };
      }
      go false true e₁ e₂ h = record {
        sign = k_minus;
        stands = eqb-true _ _ e₂;
        some = refl;
        op = minus;
        goes = λ d u. rw (e₁, e₂, more_sum);
        make = λ x y r p q s t. let z : v ≡ Minus = cc in record { kind = n_minus; at = at-minus (rw z at r) p q s.at t.at };
      }
      go false false e₁ e₂ h = cc

  pub unsigned : (j : TokenKind) → kind_number j ≡ get_or ks at 0 → None ≡ sign_of (kind_number j) → (d : ℕ) (u : Tree Cat.sum) → more_sum ks (suc d) u at ≡ ok u at
  unfolding more_sum
  unsigned j i e d u = go (eqb (get_or ks at 0) k_plus) (eqb (get_or ks at 0) k_minus) refl refl (e ∙ ap sign_of i)
    where
      go : (p q : Bool) → eqb (get_or ks at 0) k_plus ≡ p → eqb (get_or ks at 0) k_minus ≡ q → None ≡ choose p (Some Plus) (choose q (Some Minus) None) → more_sum ks (suc d) u at ≡ ok u at
      go true q e₁ e₂ h = cc
      go false true e₁ e₂ h = cc
      go false false e₁ e₂ h = rw (e₁, e₂, more_sum)

  -- v is the number of the comparison at `at`
  pub record Compared (v : ℕ) : Type 0 where
    pub sign : ℕ
    pub stands : get_or ks at 0 ≡ sign
    pub some : eqb sign 0 ≡ false
    pub mark : Cmp
    pub reads : read_cmp ks at ≡ ok (cmp_mark mark) (at + 1)
    pub number : v ≡ cmp_number mark

  pub compared : (j : TokenKind) {v : ℕ} → kind_number j ≡ get_or ks at 0 → Some v ≡ comparison_of (kind_number j) → Compared v
  unfolding read_cmp
  compared j {v} i e = go (eqb (get_or ks at 0) k_less) (eqb (get_or ks at 0) k_less_eq) (eqb (get_or ks at 0) k_greater) (eqb (get_or ks at 0) k_greater_eq) (eqb (get_or ks at 0) k_equal) (eqb (get_or ks at 0) k_unequal) refl refl refl refl refl refl (e ∙ ap comparison_of i)
    where
      go : (s1 s2 s3 s4 s5 s6 : Bool) → eqb (get_or ks at 0) k_less ≡ s1 → eqb (get_or ks at 0) k_less_eq ≡ s2 → eqb (get_or ks at 0) k_greater ≡ s3 → eqb (get_or ks at 0) k_greater_eq ≡ s4 → eqb (get_or ks at 0) k_equal ≡ s5 → eqb (get_or ks at 0) k_unequal ≡ s6
          → Some v ≡ choose s1 (Some 0) (choose s2 (Some 1) (choose s3 (Some 2) (choose s4 (Some 3) (choose s5 (Some 4) (choose s6 (Some 5) None))))) → Compared v
      go true s2 s3 s4 s5 s6 p1 p2 p3 p4 p5 p6 h = record { sign = k_less; stands = eqb-true _ _ p1; some = refl; mark = less; reads = rw (p1, read_cmp); number = cc }
      go false true s3 s4 s5 s6 p1 p2 p3 p4 p5 p6 h = record { sign = k_less_eq; stands = eqb-true _ _ p2; some = refl; mark = less_eq; reads = rw (p1, p2, read_cmp); number = cc }
      go false false true s4 s5 s6 p1 p2 p3 p4 p5 p6 h = record { sign = k_greater; stands = eqb-true _ _ p3; some = refl; mark = greater; reads = rw (p1, p2, p3, read_cmp); number = cc }
      go false false false true s5 s6 p1 p2 p3 p4 p5 p6 h = record { sign = k_greater_eq; stands = eqb-true _ _ p4; some = refl; mark = greater_eq; reads = rw (p1, p2, p3, p4, read_cmp); number = cc }
      go false false false false true s6 p1 p2 p3 p4 p5 p6 h = record { sign = k_equal; stands = eqb-true _ _ p5; some = refl; mark = equal; reads = rw (p1, p2, p3, p4, p5, read_cmp); number = cc }
      go false false false false false true p1 p2 p3 p4 p5 p6 h = record { sign = k_unequal; stands = eqb-true _ _ p6; some = refl; mark = unequal; reads = rw (p1, p2, p3, p4, p5, p6, read_cmp); number = cc }
      go false false false false false false p1 p2 p3 p4 p5 p6 h = cc

  pub uncompared : (j : TokenKind) → kind_number j ≡ get_or ks at 0 → None ≡ comparison_of (kind_number j) → read_cmp ks at ≡ bad at
  unfolding read_cmp
  uncompared j i e = go (eqb (get_or ks at 0) k_less) (eqb (get_or ks at 0) k_less_eq) (eqb (get_or ks at 0) k_greater) (eqb (get_or ks at 0) k_greater_eq) (eqb (get_or ks at 0) k_equal) (eqb (get_or ks at 0) k_unequal) refl refl refl refl refl refl (e ∙ ap comparison_of i)
    where
      go : (s1 s2 s3 s4 s5 s6 : Bool) → eqb (get_or ks at 0) k_less ≡ s1 → eqb (get_or ks at 0) k_less_eq ≡ s2 → eqb (get_or ks at 0) k_greater ≡ s3 → eqb (get_or ks at 0) k_greater_eq ≡ s4 → eqb (get_or ks at 0) k_equal ≡ s5 → eqb (get_or ks at 0) k_unequal ≡ s6
          → ◌≡◌ {A = Option ℕ} None (choose s1 (Some 0) (choose s2 (Some 1) (choose s3 (Some 2) (choose s4 (Some 3) (choose s5 (Some 4) (choose s6 (Some 5) None)))))) → read_cmp ks at ≡ bad at
      go true s2 s3 s4 s5 s6 p1 p2 p3 p4 p5 p6 h = cc
      go false true s3 s4 s5 s6 p1 p2 p3 p4 p5 p6 h = cc
      go false false true s4 s5 s6 p1 p2 p3 p4 p5 p6 h = cc
      go false false false true s5 s6 p1 p2 p3 p4 p5 p6 h = cc
      go false false false false true s6 p1 p2 p3 p4 p5 p6 h = cc
      go false false false false false true p1 p2 p3 p4 p5 p6 h = cc
      go false false false false false false p1 p2 p3 p4 p5 p6 h = rw (p1, p2, p3, p4, p5, p6, read_cmp)
