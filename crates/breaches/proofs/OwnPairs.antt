-- To go through the tokens with the least token so far is to take the least of all that breaks the rule.
use Prim.Native.Nat.{ℕ, zero, suc, ◌+◌, ◌^◌, ◌≤◌, ◌<◌}
use mathlib.Core.Path.{◌≡◌, refl, sym, ap, ap₂, ◌∙◌, subst}
use mathlib.Core.Bool.{Bool, true, false, cond}
use mathlib.Core.List.{List, [], ◌∷◌, ◌++◌, append_assoc, append-nil}
use Rattle.std.specs.Prelude.{Option, None}
use native.Mathlib.Omega.{arith}
use lib.ListN.{length, get_or, drop, drop_of_length-le}
use lib.Seq.{drop-cons, get_or-drop}
use lib.Dec.{eqb}
use lib.IntN.{ℤ}
use lib.Signed.{mag}
use borrow.Author.Tests.{eq-eqb, ne_eqb}
use Rattle.syntax.specs.Token.{k_free, k_semi, k_minus}
use Rattle.syntax.specs.Ast.{bit}
use Rattle.semantics.specs.Program.{Window}
use Rattle.semantics.specs.Search.{to}
use Rattle.text_rules.specs.Scan.{least, lesser, when}
use Rattle.text_rules.specs.Own.{Own, own, signed, breach, breaching}
use Rattle.text_rules.specs.Answers.{least_with, minus_at, field_own, owns_from}
use Rattle.text_rules.proofs.OwnRules.{negated-is}
use Rattle.text_rules.proofs.Scans.{with_append, with_none}
use Rattle.breaches.specs.Pairs.{word, pair_rule, own_here, breaches_from}

pub bit-small : (b : Bool) → bit b ≤ 1
bit-small true = omega arith
bit-small false = omega arith

pub small_signed : (a : Bool) (v : ℕ) → v < 2 ^ 32 → mag (signed a v) < 2 ^ 61
small_signed true zero h = omega arith
small_signed true (suc n) h = subst (λ (z : ℤ). mag z < 2 ^ 61) (sym (negated-is n)) (omega arith)
small_signed false v h = omega arith

pub breaching-append : (value : ℕ → ℕ) (p : Window → Bool) (xs ys : List Own) → breaching value p (xs ++ ys) ≡ breaching value p xs ++ breaching value p ys
unfolding breaching
breaching-append value p [] ys = refl
breaching-append value p (o ∷ xs) ys = ap (λ (l : List ℕ). breach value p o ++ l) (breaching-append value p xs ys) ∙ sym (append_assoc (breach value p o) (breaching value p xs) (breaching value p ys))

module _ (ks : List ℕ) where
  -- a token behind token i
  behind : (i j : ℕ) → get_or (drop (suc i) ks) j 0 ≡ get_or ks (i + 1 + j) 0
  behind i j = rw get_or-drop (ap (λ (n : ℕ). get_or ks n 0) (omega arith))

  here-is : (i : ℕ) → cond (eqb (get_or ks i 0) k_free) (field_own (suc i) (drop (suc i) ks)) [] ≡ own_here ks i
  here-is i =
      let d = drop (suc i) ks in
      let t : suc i ≡ i + 1 = omega arith in
      let k : get_or d 0 0 ≡ get_or ks (i + 1) 0 = behind i 0 ∙ ap (λ (n : ℕ). get_or ks n 0) (omega arith) in
      let a : minus_at d 0 ≡ minus_at ks (i + 1) = ap (λ (n : ℕ). eqb n k_minus) k in
      let b : minus_at d (bit (minus_at d 0) + 2) ≡ minus_at ks (i + 1 + bit (minus_at ks (i + 1)) + 2) =
      ap (λ (n : ℕ). eqb n k_minus) (behind i (bit (minus_at d 0) + 2) ∙ ap (λ (x : Bool). get_or ks (i + 1 + (bit x + 2)) 0) a ∙ ap (λ (n : ℕ). get_or ks n 0) (omega arith)) in
      ap (λ (l : List Own). cond (eqb (get_or ks i 0) k_free) l [])
      (ap (λ (n : ℕ). cond (eqb n k_semi) [] (own (suc i) (minus_at d 0) (minus_at d (bit (minus_at d 0) + 2)) ∷ [])) k
      ∙ ap (λ (x : Bool). cond (eqb (get_or ks (i + 1) 0) k_semi) [] (own (suc i) x (minus_at d (bit (minus_at d 0) + 2)) ∷ [])) a
      ∙ ap (λ (x : Bool). cond (eqb (get_or ks (i + 1) 0) k_semi) [] (own (suc i) (minus_at ks (i + 1)) x ∷ [])) b
      ∙ ap (λ (n : ℕ). cond (eqb (get_or ks (i + 1) 0) k_semi) [] (own n (minus_at ks (i + 1)) (minus_at ks (i + 1 + bit (minus_at ks (i + 1)) + 2)) ∷ [])) t)

  module _ (vs : List ℕ) (wide : Bool) where
    one_more : (i : ℕ) → i < length ks → breaches_from ks vs wide i ≡ breaching (word vs) (pair_rule wide) (own_here ks i) ++ breaches_from ks vs wide (i + 1)
    unfolding owns_from
    one_more i h =
        let t : suc i ≡ i + 1 = omega arith in
        ap (λ (l : List ℕ). breaching (word vs) (pair_rule wide) (owns_from i l)) (drop-cons ks i 0 h)
        ∙ breaching-append (word vs) (pair_rule wide) (cond (eqb (get_or ks i 0) k_free) (field_own (suc i) (drop (suc i) ks)) []) (owns_from (suc i) (drop (suc i) ks))
        ∙ ap (λ (l : List Own). breaching (word vs) (pair_rule wide) l ++ breaching (word vs) (pair_rule wide) (owns_from (suc i) (drop (suc i) ks))) (here-is i)
        ∙ ap (λ (n : ℕ). breaching (word vs) (pair_rule wide) (own_here ks i) ++ breaching (word vs) (pair_rule wide) (owns_from n (drop n ks))) t

    pub pair-start : least_with (breaches_from ks vs wide 0) None ≡ least (breaches_from ks vs wide 0)
    pair-start = with_none (breaches_from ks vs wide 0)

    pub pair_turn : (i : ℕ) (p : Option ℕ) {q : Option ℕ} → i < length ks → q ≡ least_with (breaching (word vs) (pair_rule wide) (own_here ks i)) p
        → least_with (breaches_from ks vs wide (i + 1)) q ≡ least_with (breaches_from ks vs wide i) p
    pair_turn i p h e =
        rw e (sym (ap (λ (l : List ℕ). least_with l p) (one_more i h) ∙ with_append (breaching (word vs) (pair_rule wide) (own_here ks i)) (breaches_from ks vs wide (i + 1)) p))

    pub pair_end : (i : ℕ) (p : Option ℕ) → length ks ≤ i → least_with (breaches_from ks vs wide i) p ≡ p
    unfolding owns_from breaching least_with
    pair_end i p h = ap (λ (l : List ℕ). least_with (breaching (word vs) (pair_rule wide) (owns_from i l)) p) (drop_of_length-le ks {i = i} h)

    -- no declaration with its own pair begins behind token i
    pub not_free : (i : ℕ) (p : Option ℕ) {k : ℕ} → k ≡ get_or ks i 0 → (k ≡ k_free → ⊥) → p ≡ least_with (breaching (word vs) (pair_rule wide) (own_here ks i)) p
    unfolding breaching least_with
    not_free i p e n =
        ap (λ (b : Bool). least_with (breaching (word vs) (pair_rule wide) (cond b (cond (eqb (get_or ks (i + 1) 0) k_semi) [] (own (i + 1) (minus_at ks (i + 1)) (minus_at ks (i + 1 + bit (minus_at ks (i + 1)) + 2)) ∷ [])) [])) p)
        (sym (ne_eqb (get_or ks i 0) k_free (λ q. n (e ∙ q))))

    module _ (i : ℕ) {k : ℕ} (free : k ≡ get_or ks i 0) (is_free : k ≡ k_free) where
      abbrev here : Bool → List Own
      here b = cond b [] (own (i + 1) (minus_at ks (i + 1)) (minus_at ks (i + 1 + bit (minus_at ks (i + 1)) + 2)) ∷ [])

      behind-free : own_here ks i ≡ here (eqb (get_or ks (i + 1) 0) k_semi)
      behind-free = ap (λ (b : Bool). cond b (here (eqb (get_or ks (i + 1) 0) k_semi)) []) (eq-eqb (get_or ks i 0) k_free (sym free ∙ is_free))

      pub plain-free : (p : Option ℕ) {j : ℕ} → j ≡ get_or ks (i + 1) 0 → j ≡ k_semi → p ≡ least_with (breaching (word vs) (pair_rule wide) (own_here ks i)) p
      unfolding breaching least_with
      plain-free p e q = sym (ap (λ (os : List Own). least_with (breaching (word vs) (pair_rule wide) os) p) (behind-free ∙ ap here (eq-eqb (get_or ks (i + 1) 0) k_semi (sym e ∙ q))))

      -- an own pair stands there, and t says whether it breaks the rule
      module _ {j : ℕ} (next : j ≡ get_or ks (i + 1) 0) (no-semi : j ≡ k_semi → ⊥) {a b t : Bool} {u v w z : ℕ} {low high : ℤ}
          (minus : a ≡ minus_at ks (i + 1)) (number : u ≡ i + 1 + bit a) (value : v ≡ get_or vs u 0) (low-is : low ≡ signed a v)
          (second : b ≡ minus_at ks (u + 2)) (other : w ≡ u + 2 + bit b) (value₂ : z ≡ get_or vs w 0) (high_is : high ≡ signed b z)
          (says : t ≡ pair_rule wide (to low high)) where
        low_end : signed (minus_at ks (i + 1)) (get_or vs (i + 1 + bit (minus_at ks (i + 1))) 0) ≡ low
        low_end = ap (λ (x : Bool). signed x (get_or vs (i + 1 + bit x) 0)) (sym minus) ∙ ap (λ (n : ℕ). signed a (get_or vs n 0)) (sym number) ∙ ap (signed a) (sym value) ∙ sym low-is

        high_end : signed (minus_at ks (i + 1 + bit (minus_at ks (i + 1)) + 2)) (get_or vs (i + 1 + bit (minus_at ks (i + 1)) + 2 + bit (minus_at ks (i + 1 + bit (minus_at ks (i + 1)) + 2))) 0) ≡ high
        high_end =
            ap (λ (x : Bool). signed (minus_at ks (i + 1 + bit x + 2)) (get_or vs (i + 1 + bit x + 2 + bit (minus_at ks (i + 1 + bit x + 2))) 0)) (sym minus)
            ∙ ap (λ (n : ℕ). signed (minus_at ks (n + 2)) (get_or vs (n + 2 + bit (minus_at ks (n + 2))) 0)) (sym number)
            ∙ ap (λ (x : Bool). signed x (get_or vs (u + 2 + bit x) 0)) (sym second)
            ∙ ap (λ (n : ℕ). signed b (get_or vs n 0)) (sym other)
            ∙ ap (signed b) (sym value₂)
            ∙ sym high_is

        own-breach : breaching (word vs) (pair_rule wide) (own_here ks i) ≡ when t (i + 1)
        unfolding breaching
        own-breach =
            ap (breaching (word vs) (pair_rule wide)) (behind-free ∙ ap here (ne_eqb (get_or ks (i + 1) 0) k_semi (λ q. no-semi (next ∙ q))))
            ∙ append-nil (breach (word vs) (pair_rule wide) (own (i + 1) (minus_at ks (i + 1)) (minus_at ks (i + 1 + bit (minus_at ks (i + 1)) + 2))))
            ∙ ap (λ (x : Bool). when x (i + 1)) (ap₂ (λ (x y : ℤ). pair_rule wide (to x y)) low_end high_end ∙ sym says)

        pub breach-found : (p : Option ℕ) {q : Option ℕ} → t ≡ true → q ≡ lesser (i + 1) p → q ≡ least_with (breaching (word vs) (pair_rule wide) (own_here ks i)) p
        unfolding least_with
        breach-found p e f = f ∙ sym (ap (λ (l : List ℕ). least_with l p) (own-breach ∙ ap (λ (x : Bool). when x (i + 1)) e))

        pub breach-none : (p : Option ℕ) → t ≡ false → p ≡ least_with (breaching (word vs) (pair_rule wide) (own_here ks i)) p
        unfolding least_with
        breach-none p e = sym (ap (λ (l : List ℕ). least_with l p) (own-breach ∙ ap (λ (x : Bool). when x (i + 1)) e))
