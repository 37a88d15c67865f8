-- ℤ for `omega`: an integer is `up` less `down`, two numbers of ℕ, and each order, sum and bound of integers is a linear fact of those.
use Prim.Native.Nat.{ℕ, zero, suc, ◌+◌, ◌-◌, ◌*◌, ◌≤◌, ◌<◌}
use mathlib.Core.Path.{◌≡◌, refl, sym, ap, ◌∙◌, subst}
use mathlib.Core.Logic.{◌≢◌}
use mathlib.Core.Bool.{Bool, true, false, not, cond}
use native.Mathlib.Omega.{arith}
use native.Mathlib.Nat.{zero-mul}
use lib.IntN.{ℤ, pos, negsuc, suc_ℤ, pred_ℤ, neg_ℤ, sub_ℕ, ◌+ℤ◌, ◌-ℤ◌, ◌*ℤ◌}
use lib.Dec.{T, ltb, leb→le, le→leb, ltb→lt, lt→ltb, nltb→le, nleb→lt, eqb→eq, eqb_refl, T_not}
use lib.Signed.{lt_z, le_z}
use Rattle.semantics.specs.Int.{eq_z}

unfoldable pub up : ℤ → ℕ
up (pos n) = n
up (negsuc n) = 0

unfoldable pub down : ℤ → ℕ
down (pos n) = 0
down (negsuc n) = suc n

infix 4 ◌≼◌
abbrev pub ◌≼◌ : ℤ → ℤ → Type 0
a ≼ b = up a + down b ≤ up b + down a

infix 4 ◌≺◌
abbrev pub ◌≺◌ : ℤ → ℤ → Type 0
a ≺ b = up a + down b < up b + down a

pub cond_cases : {A : Type 0} (b : Bool) {x y : A} (P : A → Type 0) → (T b → P x) → (T (not b) → P y) → P (cond b x y)
cond_cases true P f g = f tt
cond_cases false P f g = g tt

pub le_z→ : (a b : ℤ) → T (le_z a b) → a ≼ b
unfolding up down
le_z→ (pos a) (pos b) t = omega (arith, leb→le a b t)
le_z→ (pos a) (negsuc b) t = absurd t
le_z→ (negsuc a) (pos b) t = omega arith
le_z→ (negsuc a) (negsuc b) t = omega (arith, leb→le b a t)

pub →leZ : (a b : ℤ) → a ≼ b → T (le_z a b)
unfolding up down
→leZ (pos a) (pos b) h = le→leb a b (omega arith)
→leZ (pos a) (negsuc b) h = omega arith
→leZ (negsuc a) (pos b) h = tt
→leZ (negsuc a) (negsuc b) h = le→leb b a (omega arith)

pub lt_z→ : (a b : ℤ) → T (lt_z a b) → a ≺ b
unfolding up down
lt_z→ (pos a) (pos b) t = omega (arith, ltb→lt a b t)
lt_z→ (pos a) (negsuc b) t = absurd t
lt_z→ (negsuc a) (pos b) t = omega arith
lt_z→ (negsuc a) (negsuc b) t = omega (arith, ltb→lt b a t)

pub →ltZ : (a b : ℤ) → a ≺ b → T (lt_z a b)
unfolding up down
→ltZ (pos a) (pos b) h = lt→ltb a b (omega arith)
→ltZ (pos a) (negsuc b) h = omega arith
→ltZ (negsuc a) (pos b) h = tt
→ltZ (negsuc a) (negsuc b) h = lt→ltb b a (omega arith)

pub nlt_z→ : (a b : ℤ) → T (not (lt_z a b)) → b ≼ a
unfolding up down
nlt_z→ (pos a) (pos b) t = omega (arith, nltb→le a b t)
nlt_z→ (pos a) (negsuc b) t = omega arith
nlt_z→ (negsuc a) (pos b) t = absurd t
nlt_z→ (negsuc a) (negsuc b) t = omega (arith, nltb→le b a t)

pub nle_z→ : (a b : ℤ) → T (not (le_z a b)) → b ≺ a
unfolding up down
nle_z→ (pos a) (pos b) t = omega (arith, nleb→lt a b t)
nle_z→ (pos a) (negsuc b) t = omega arith
nle_z→ (negsuc a) (pos b) t = absurd t
nle_z→ (negsuc a) (negsuc b) t = omega (arith, nleb→lt b a t)

pub antisym : (a b : ℤ) → a ≼ b → b ≼ a → a ≡ b
unfolding up down
antisym (pos a) (pos b) h k = ap pos (omega arith)
antisym (pos a) (negsuc b) h k = absurd (omega arith)
antisym (negsuc a) (pos b) h k = absurd (omega arith)
antisym (negsuc a) (negsuc b) h k = ap negsuc (omega arith)

pub eq_z→ : (a b : ℤ) → T (eq_z a b) → a ≡ b
unfolding eq_z
eq_z→ (pos a) (pos b) t = ap pos (eqb→eq a b t)
eq_z→ (pos a) (negsuc b) t = absurd t
eq_z→ (negsuc a) (pos b) t = absurd t
eq_z→ (negsuc a) (negsuc b) t = ap negsuc (eqb→eq a b t)

pub eq_z-refl : (a : ℤ) → T (eq_z a a)
unfolding eq_z
eq_z-refl (pos a) = eqb_refl a
eq_z-refl (negsuc a) = eqb_refl a

pub neq_z→ : (a b : ℤ) → T (not (eq_z a b)) → up a + down b ≢ up b + down a
neq_z→ a b t e = T_not (eq_z a b) t (subst (λ z. T (eq_z a z)) (antisym a b (omega arith) (omega arith)) (eq_z-refl a))

-- ---- what the operations do to `up` and `down`

up_neg : (a : ℤ) → up (neg_ℤ a) ≡ down a
unfolding up down
up_neg (pos zero) = refl
up_neg (pos (suc n)) = refl
up_neg (negsuc n) = refl

down-neg : (a : ℤ) → down (neg_ℤ a) ≡ up a
unfolding up down
down-neg (pos zero) = refl
down-neg (pos (suc n)) = refl
down-neg (negsuc n) = refl

Sub : ℕ → ℕ → ℤ → Type 0
Sub a b z = up z + b ≡ a + down z

of-sub : (a b : ℕ) → Sub a b (sub_ℕ a b)
unfolding Sub up down
of-sub a b = cond_cases (ltb a b) {x = negsuc (b - suc a)} {y = pos (a - b)} (Sub a b) (λ t. lemma₁ (ltb→lt a b t)) (λ t. lemma₂ (nltb→le a b t))
  where
    lemma₁ : a < b → 0 + b ≡ a + suc (b - suc a)
    lemma₁ h = omega arith

    lemma₂ : b ≤ a → (a - b) + b ≡ a + 0
    lemma₂ h = omega arith

pub of-add : (a b : ℤ) → up (a +ℤ b) + (down a + down b) ≡ up a + up b + down (a +ℤ b)
unfolding up down Sub
of-add (pos a) (pos b) = omega arith
of-add (pos a) (negsuc b) = omega (arith, of-sub a (suc b))
of-add (negsuc a) (pos b) = omega (arith, of-sub b (suc a))
of-add (negsuc a) (negsuc b) = omega arith

pub of-minus : (a b : ℤ) → up (a -ℤ b) + (down a + up b) ≡ up a + down b + down (a -ℤ b)
of-minus a b = omega (arith, of-add a (neg_ℤ b), up_neg b, down-neg b)

pub of-suc : (a : ℤ) → up (suc_ℤ a) + down a ≡ suc (up a + down (suc_ℤ a))
unfolding up down
of-suc (pos n) = omega arith
of-suc (negsuc zero) = refl
of-suc (negsuc (suc n)) = omega arith

pub of-pred : (a : ℤ) → suc (up (pred_ℤ a) + down a) ≡ up a + down (pred_ℤ a)
unfolding up down
of-pred (pos zero) = refl
of-pred (pos (suc n)) = omega arith
of-pred (negsuc n) = omega arith

-- a product by a number that is not negative, and by one that is
pub up-mul : (a : ℤ) (k : ℕ) → up (a *ℤ pos k) ≡ up a * k
unfolding up down
up-mul (pos a) k = refl
up-mul (negsuc a) k = up_neg (pos (suc a * k)) ∙ sym (zero-mul k)

pub down-mul : (a : ℤ) (k : ℕ) → down (a *ℤ pos k) ≡ down a * k
unfolding up down
down-mul (pos a) k = sym (zero-mul k)
down-mul (negsuc a) k = down-neg (pos (suc a * k))

pub up-mul-neg : (a : ℤ) (k : ℕ) → up (a *ℤ negsuc k) ≡ down a * suc k
unfolding up down
up-mul-neg (pos a) k = up_neg (pos (a * suc k)) ∙ sym (zero-mul (suc k))
up-mul-neg (negsuc a) k = refl

pub down-mul-neg : (a : ℤ) (k : ℕ) → down (a *ℤ negsuc k) ≡ up a * suc k
unfolding up down
down-mul-neg (pos a) k = down-neg (pos (a * suc k))
down-mul-neg (negsuc a) k = sym (zero-mul (suc k))
