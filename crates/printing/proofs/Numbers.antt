-- Digits: one at a time, and how many.
use Prim.Native.Nat.{ℕ, zero, suc, ◌+◌, ◌*◌, ◌/◌, ◌%◌, ◌^◌, ◌≤◌, ◌<◌}
use native.Mathlib.Omega.{arith}
use native.Mathlib.Nat.{pow-suc}
use mathlib.Core.Path.{◌≡◌, refl, sym, ◌∙◌, ap}
use mathlib.Core.Bool.{Bool, true, false}
use mathlib.Core.List.{List, [], ◌∷◌, ◌++◌}
use lib.ListN.{length, length-append}
use lib.Dec.{ltb}
use lib.IntN.{ℤ, pos, negsuc, nat_abs}
use lib.Signed.{◌≤ℤ◌, ◌<ℤ◌}
use Rattle.std.proofs.lemmas.Int.{ints}
use mir.Syntax.{w32}
use mir.Val.{SFits}
use borrow.Author.Tests.{lt-ltb, le-ltb, ltb-true, ltb-false}
use Rattle.lexer.specs.Lex.{bytes}
use Rattle.printing.specs.Decimal.{digits, natural, integer}
use Rattle.printing.specs.Written.{Put}
use Rattle.printing.proofs.Puts.{put_as, and_then}

enough : (k j n : ℕ) → n < k → n < j → digits k n ≡ digits j n
unfolding digits
enough zero j n h i = absurd (omega arith)
enough (suc k) zero n h i = absurd (omega arith)
enough (suc k) (suc j) n h i = go (λ p q. enough k j (n / 10) p q) (ltb n 10) refl
  where
    go : (n / 10 < k → n / 10 < j → digits k (n / 10) ≡ digits j (n / 10)) → (t : Bool) → ltb n 10 ≡ t → ◌≡◌ {A = List ℕ} (elim t [ true ↦ (48 + n) ∷ [] | false ↦ digits k (n / 10) ++ (48 + n % 10) ∷ [] ]) (elim t [ true ↦ (48 + n) ∷ [] | false ↦ digits j (n / 10) ++ (48 + n % 10) ∷ [] ])
    go r true e = refl
    go r false e =
        let f : 10 ≤ n = ltb-false n 10 e in
        ap (λ (l : List ℕ). l ++ (48 + n % 10) ∷ []) (r (omega arith) (omega arith))

pub natural-one : (n : ℕ) → n < 10 → natural n ≡ (48 + n) ∷ []
unfolding natural digits
natural-one n h = rw (lt-ltb n 10 h, natural, digits)

pub natural-more : (n : ℕ) → 10 ≤ n → natural n ≡ natural (n / 10) ++ (48 + n % 10) ∷ []
unfolding natural digits
natural-more n h = rw (le-ltb n 10 h, natural, digits) (ap (λ (l : List ℕ). l ++ (48 + n % 10) ∷ []) (enough n (suc (n / 10)) (n / 10) (omega arith) (omega arith)))

pub few-digits : (m n : ℕ) → n < 10 ^ suc m → length (natural n) ≤ suc m
few-digits zero n h = rw (natural-one n (omega arith)) (omega arith)
few-digits (suc m) n h = go (λ p. few-digits m (n / 10) p) (ltb n 10) refl
  where
    go : (n / 10 < 10 ^ suc m → length (natural (n / 10)) ≤ suc m) → (t : Bool) → ltb n 10 ≡ t → length (natural n) ≤ suc (suc m)
    go r true e = rw (natural-one n (ltb-true n 10 e)) (omega arith)
    go r false e =
        let k : n < 10 ^ suc m * 10 = rw (pow-suc 10 (suc m)) at h in
        rw (natural-more n (ltb-false n 10 e), length-append) (omega (arith, r (omega arith)))

pub word-length : (n : ℕ) → n < 4294967296 → length (natural n) ≤ 10
word-length n h = few-digits 9 n (omega arith)

-- a number of 32 bits has at most eleven characters
pub integer-length : (z : ℤ) → SFits w32 z → length (integer z) ≤ 11
unfolding integer
integer-length (pos n) f = omega (arith, word-length n (omega (arith, f.sfits)))
integer-length (negsuc n) f = omega (arith, word-length (suc n) (omega (arith, f.sfits)))

-- a number of one digit, and the last digit of a longer one
pub put_one : {l m : List ℕ} {at r : ℕ} (n d : ℕ) → n < 10 → d ≡ 48 + n → Put l at (d ∷ []) m r → Put l at (natural n) m r
put_one n d h e p = put_as (ap (λ (x : ℕ). x ∷ []) e ∙ sym (natural-one n h)) p

pub put_last : {l m k : List ℕ} {at p r : ℕ} (n d : ℕ) → 10 ≤ n → d ≡ 48 + n % 10 → Put l at (natural (n / 10)) m p → Put m p (d ∷ []) k r → Put l at (natural n) k r
put_last n d h e x y = put_as (ap (λ (x : ℕ). natural (n / 10) ++ x ∷ []) e ∙ sym (natural-more n h)) (and_then x y)

-- a number by its absolute value
pub integer-plain : (z : ℤ) → pos 0 ≤ℤ z → natural (nat_abs z) ≡ integer z
unfolding integer
integer-plain (pos n) h = refl
integer-plain (negsuc n) h = absurd (omega (arith, ints))

pub integer-minus : (z : ℤ) → z <ℤ pos 0 → bytes "-" ++ natural (nat_abs z) ≡ integer z
unfolding integer
integer-minus (pos n) h = absurd (omega (arith, ints))
integer-minus (negsuc n) h = refl
