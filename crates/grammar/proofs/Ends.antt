-- The ends of a pair: where the number of each stands, and how the reader of `l .. h ;` goes on from one token to the next.
use Prim.Native.Nat.{ℕ, ◌+◌, ◌-◌, ◌<◌}
use mathlib.Core.Path.{◌≡◌, refl, sym, ap, ◌∙◌}
use mathlib.Core.Bool.{Bool, true, false}
use mathlib.Core.List.{List}
use native.Mathlib.Omega.{arith}
use native.Mathlib.Decide.{dec_lt}
use lib.ListN.{length, get_or}
use lib.Dec.{eqb}
use borrow.Author.Tests.{eq-eqb, ne_eqb, eqb-false}
use Rattle.syntax.specs.Token.{k_minus, k_number}
use Rattle.syntax.specs.Ast.{bit}
use Rattle.syntax.specs.Tree.{Cat}
use Rattle.syntax.specs.Table.{Row}
use Rattle.grammar.specs.Parse.{Res, bad, expect, read_end}
use Rattle.grammar.specs.Readers.{is_minus, Inside}
use Rattle.grammar.proofs.Steps.{Sofar, same-as}

-- ---- where the number of an end stands

pub minus_number : (ks : List ℕ) (at : ℕ) → get_or ks at 0 ≡ k_minus → at + 1 ≡ at + bit (is_minus ks at)
minus_number ks at e = ap (λ (b : Bool). at + bit b) (sym (eq-eqb _ _ e))

pub plain-number : (ks : List ℕ) (at : ℕ) → (get_or ks at 0 ≡ k_minus → ⊥) → at ≡ at + bit (is_minus ks at)
plain-number ks at e = let z : at ≡ at + bit false = omega arith in z ∙ ap (λ (b : Bool). at + bit b) (sym (ne_eqb _ _ e))

-- a minus is not the last token
pub minus-inside : {ks : List ℕ} {at : ℕ} → Inside ks at → get_or ks at 0 ≡ k_minus → at + 1 < length ks
minus-inside {ks} {at} r e = go (dec_lt (at + 1) (length ks))
  where
    go : Dec (at + 1 < length ks) → at + 1 < length ks
    go (yes p) = p
    go (no p) = absurd (eqb-false k_minus 0 refl (sym e ∙ r.ends at (omega (arith, p, r.inside))))

-- ---- the reader of an end

-- it expects the number j, and goes on behind it
pub end_is : {c : Cat} (ks : List ℕ) (at j : ℕ) (f : Bool → ℕ → Res c) → j ≡ at + bit (is_minus ks at) → read_end ks at f ≡ expect ks k_number j (f (is_minus ks at) (j + 1))
end_is {c} ks at j f e = go (is_minus ks at) e
  where
    go : (b : Bool) → j ≡ at + bit b → ◌≡◌ {A = Res c} (elim b [ true ↦ expect ks k_number (at + 1) (f true (at + 1 + 1)) | false ↦ expect ks k_number at (f false (at + 1)) ]) (expect ks k_number j (f b (j + 1)))
    go true q = ap (λ (i : ℕ). expect ks k_number i (f true (i + 1))) (sym q)
    go false q = let z : at ≡ j = omega arith in ap (λ (i : ℕ). expect ks k_number i (f false (i + 1))) z

module _ {c : Cat} {ks l m : List ℕ} {n at rank g f x z : ℕ} {whole : ℕ → ℕ → Res c} where
  -- a reader that is at the first token of an end is at its number
  pub to_number : {y : ℕ} (k : Bool → ℕ → Res c) → y ≡ x + bit (is_minus ks x) → y < length ks → Sofar ks l n at rank whole g f m x z (λ d. read_end ks x k)
      → Sofar ks l n at rank whole g f m y z (λ d. elim (eqb (get_or ks y 0) k_number) [ true ↦ k (is_minus ks x) (y + 1) | false ↦ bad y ])
  to_number {y} k e i s =
      let u = same-as (λ d. end_is ks x y k e) s in
      record {
        ready = record { inside = i; few = u.ready.few; room = u.ready.room; below = omega (arith, u.ready.below, e); ends = u.ready.ends };
        from = u.from;
        under = u.under;
        long = u.long;
        same = u.same;
        more = u.more;
        fit = omega (arith, u.fit, e);
        far = omega (arith, u.far, e);
        goes = u.goes;
      }

-- the words of the node: whether each end has a minus
pub end-bits : {l : List ℕ} {i k t a b v w : ℕ} → a ≡ v → b ≡ w → Row l i k t a b 0 → Row l i k t v w 0
end-bits p q r = record { kind = r.kind; token = r.token; first = r.first ∙ p; second = r.second ∙ q; third = r.third }

pub minus-bit : (at j : ℕ) (b : Bool) → j ≡ at + bit b → j - at ≡ bit b
minus-bit at j b e = omega arith
