-- Rules 18 and 19: two trees that are alike have the same own pairs, so each rule finds as many tokens in the one as in the other.
use Prim.Native.Nat.{ℕ}
use mathlib.Core.Path.{◌≡◌, refl, sym, ap, ap₂, ◌∙◌}
use mathlib.Core.Bool.{Bool}
use mathlib.Core.List.{List, [], ◌∷◌, ◌++◌, append_assoc, append-nil}
use lib.ListN.{length}
use Rattle.syntax.specs.Ast.{Sort, Ast, expr, low_first, low_number, high_number}
use Rattle.syntax.specs.Ast as A
use Rattle.semantics.specs.Program.{Window}
use Rattle.text_rules.specs.Own.{Own, own, owns, signed, pair_at, breach, breaching}
use Rattle.house_style.proofs.Like.{Like, Equal}
use Rattle.house_style.proofs.Like as L
use Rattle.house_style.proofs.Rules.{joined, when-alike}

breaching-append : (value : ℕ → ℕ) (p : Window → Bool) (xs ys : List Own) → breaching value p (xs ++ ys) ≡ breaching value p xs ++ breaching value p ys
unfolding breaching
breaching-append value p [] ys = refl
breaching-append value p (o ∷ xs) ys = ap (λ (l : List ℕ). breach value p o ++ l) (breaching-append value p xs ys) ∙ sym (append_assoc (breach value p o) (breaching value p xs) (breaching value p ys))

-- an expression declares nothing
expr-owns : (e : Ast expr) → owns e ≡ []
unfolding owns
expr-owns (A.number i) = refl
expr-owns (A.negative i) = refl
expr-owns (A.name i) = refl
expr-owns (A.call i a) = refl
expr-owns (A.bracket i e) = refl
expr-owns (A.times o x y) = refl
expr-owns (A.plus x y) = refl
expr-owns (A.minus x y) = refl

module _ (value value' : ℕ → ℕ) (p : Window → Bool) where
  abbrev Alike-in : List Own → List Own → Type 0
  Alike-in xs ys = length (breaching value p xs) ≡ length (breaching value' p ys)

  two : (xs ys us vs : List Own) → Alike-in xs us → Alike-in ys vs → Alike-in (xs ++ ys) (us ++ vs)
  two xs ys us vs e f =
      ap length (breaching-append value p xs ys) ∙ joined (breaching value p xs) (breaching value p ys) (breaching value' p us) (breaching value' p vs) e f ∙ sym (ap length (breaching-append value' p us vs))

  -- THEOREM. A rule on pairs finds as many tokens in trees that are alike.
  pub owns-like : {F R : ℕ → ℕ → Type 0} {s : Sort} {x y : Ast s} → Like F R (Equal value value') s x y → Alike-in (owns x) (owns y)
  unfolding owns breaching
  owns-like (L.number v) = refl
  owns-like (L.negative v) = refl
  owns-like (L.name e) = refl
  owns-like (L.call e a) = refl
  owns-like (L.left {y = y} a) = sym (ap (λ (l : List Own). length (breaching value' p l)) (expr-owns y))
  owns-like (L.right {x = x} a) = ap (λ (l : List Own). length (breaching value p l)) (expr-owns x)
  owns-like (L.times a b) = refl
  owns-like (L.plus a b) = refl
  owns-like (L.minus a b) = refl
  owns-like L.no_args = refl
  owns-like (L.more_args l e) = refl
  owns-like L.cmp_mark = refl
  owns-like L.always = refl
  owns-like L.never = refl
  owns-like (L.compare a o b) = refl
  owns-like (L.both a b) = refl
  owns-like (L.either a b) = refl
  owns-like L.empty = refl
  owns-like (L.declare e) = refl
  owns-like (L.declare_free e) = refl
  owns-like (L.declare_own {i = i} {j = j} {a = a} {b = b} e v w) =
      let q : pair_at value (low_first i) a b ≡ pair_at value' (low_first j) a b = ap₂ (λ (m n : ℕ). record { low = signed a m; high = signed b n }) v w in
      ap length (append-nil (breach value p (own (low_first i) a b))) ∙ when-alike _ _ (low_first i) (low_first j) (ap p q) ∙ sym (ap length (append-nil (breach value' p (own (low_first j) a b))))
  owns-like (L.assign e a) = refl
  owns-like (L.eval a) = refl
  owns-like (L.block b) = owns-like b
  owns-like (L.if_else {s = s} {t = t} {u = u} {v = v} c a b) = two (owns s) (owns t) (owns u) (owns v) (owns-like a) (owns-like b)
  owns-like (L.while c a) = owns-like a
  owns-like (L.return a) = refl
  owns-like L.fail = refl
  owns-like L.no_stmts = refl
  owns-like (L.more_stmts {l = l} {m = m} {s = s} {t = t} a b) = two (owns l) (owns s) (owns m) (owns t) (owns-like a) (owns-like b)
  owns-like (L.braced l) = owns-like l
  owns-like L.no_params = refl
  owns-like (L.more_params l e) = refl
  owns-like (L.function e q b) = owns-like b
  owns-like L.no_funs = refl
  owns-like (L.more_funs {p = l} {q = m} {f = f} {g = g} a b) = two (owns l) (owns f) (owns m) (owns g) (owns-like a) (owns-like b)
