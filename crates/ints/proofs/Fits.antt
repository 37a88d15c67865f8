-- What fits 32 and 64 bits. Together with the order of `semantics` (Order: `up` less `down`), these make signed facts linear facts of ℕ, which `omega` reads.
use Rattle.std.proofs.Common.{◌≡◌, ℕ, zero, suc, ◌+◌, ◌-◌, ◌*◌, ◌^◌, ◌<◌, ◌≤◌, Bool, true, false, cond, eqb, ltb, ℤ, pos, negsuc, ◌+ℤ◌, ◌-ℤ◌, ◌*ℤ◌, neg_ℤ, sym, refl, ap, ◌∙◌, le_trans, mul-le-mul_right, mul-le-mul_left, arith, to_z-of_z, w32, w64, SFits, to_z, of_z, eq-eqb, ne_eqb, eqb-true}
use lib.IntN.{sub_ℕ}
use lib.Signed.{mag}
use borrow.Author.Tests.{eqb-false}
use Rattle.semantics.specs.Int.{eq_z}
use Rattle.semantics.proofs.Order.{up, down}

pub wider : {z : ℤ} → SFits w32 z → SFits w64 z
wider f = record { sfits = omega (arith, f.sfits) }

-- ---- the bounds of 32 bits, and back

pub within : (z : ℤ) → SFits w32 z → (up z < 2 ^ 31) × (down z ≤ 2 ^ 31)
unfolding up down
within (pos n) f = omega (arith, f.sfits)
within (negsuc n) f = omega (arith, f.sfits)

pub fits : (z : ℤ) → up z < 2 ^ 31 + down z → down z ≤ 2 ^ 31 + up z → SFits w32 z
unfolding up down
fits (pos n) h k = record { sfits = omega arith }
fits (negsuc n) h k = record { sfits = omega arith }

-- ---- exact results of two numbers of 32 bits fit 64 bits

mag-subℕ : (a b : ℕ) → mag (sub_ℕ a b) ≤ a + b
mag-subℕ a b = go (ltb a b) refl
  where
    go : (t : Bool) → ltb a b ≡ t → mag (cond t (negsuc (b - suc a)) (pos (a - b))) ≤ a + b
    go true e = omega arith
    go false e = omega arith

mag-add : (a b : ℤ) → mag (a +ℤ b) ≤ mag a + mag b + 1
mag-add (pos a) (pos b) = omega arith
mag-add (pos a) (negsuc b) = omega (arith, mag-subℕ a (suc b))
mag-add (negsuc a) (pos b) = omega (arith, mag-subℕ b (suc a))
mag-add (negsuc a) (negsuc b) = omega arith

mag-neg : (a : ℤ) → mag (neg_ℤ a) ≤ mag a + 1
mag-neg (pos zero) = omega arith
mag-neg (pos (suc n)) = omega arith
mag-neg (negsuc n) = omega arith

pub sub-fits : (a b : ℤ) → mag a < 2 ^ 61 → mag b < 2 ^ 61 → SFits w64 (a -ℤ b)
sub-fits a b f g = record { sfits = omega (arith, mag-add a (neg_ℤ b), mag-neg b) }

prod : (a b : ℕ) → a ≤ 2 ^ 31 → b ≤ 2 ^ 31 → a * b ≤ 2 ^ 62
prod a b f g = le_trans (mul-le-mul_left a g) (mul-le-mul_right (2 ^ 31) f)

mag-negpos : (t : ℕ) → mag (neg_ℤ (pos t)) ≤ t
mag-negpos zero = omega arith
mag-negpos (suc n) = omega arith

pub mul-fits : (a b : ℤ) → SFits w32 a → SFits w32 b → SFits w64 (a *ℤ b)
mul-fits (pos a) (pos b) f g = record { sfits = omega (arith, prod a b (omega (arith, f.sfits)) (omega (arith, g.sfits))) }
mul-fits (pos a) (negsuc b) f g = record { sfits = omega (arith, mag-negpos (a * suc b), prod a (suc b) (omega (arith, f.sfits)) (omega (arith, g.sfits))) }
mul-fits (negsuc a) (pos b) f g = record { sfits = omega (arith, mag-negpos (suc a * b), prod (suc a) b (omega (arith, f.sfits)) (omega (arith, g.sfits))) }
mul-fits (negsuc a) (negsuc b) f g = record { sfits = omega (arith, prod (suc a) (suc b) (omega (arith, f.sfits)) (omega (arith, g.sfits))) }

-- ---- equal bits, equal numbers

pub eq-bits : (a b : ℤ) → SFits w32 a → SFits w32 b → eqb (of_z w32 a) (of_z w32 b) ≡ eq_z a b
unfolding eq_z
eq-bits (pos a) (pos b) f g = refl
eq-bits (pos a) (negsuc b) f g = ne_eqb a (2 ^ 32 - suc b) (λ e. omega (arith, f.sfits, g.sfits))
eq-bits (negsuc a) (pos b) f g = ne_eqb (2 ^ 32 - suc a) b (λ e. omega (arith, f.sfits, g.sfits))
eq-bits (negsuc a) (negsuc b) f g = go (eqb a b) refl
  where
    go : (t : Bool) → eqb a b ≡ t → eqb (2 ^ 32 - suc a) (2 ^ 32 - suc b) ≡ t
    go true e = eq-eqb (2 ^ 32 - suc a) (2 ^ 32 - suc b) (omega (arith, eqb-true a b e))
    go false e = ne_eqb (2 ^ 32 - suc a) (2 ^ 32 - suc b) (λ q. eqb-false a b e (omega (arith, f.sfits, g.sfits)))

pub same_bits : {a b : ℤ} → SFits w32 a → SFits w32 b → of_z w32 a ≡ of_z w32 b → a ≡ b
same_bits f g e = sym (to_z-of_z f) ∙ ap (to_z w32) e ∙ to_z-of_z g

pub other-bits : (a b : ℤ) → SFits w32 a → SFits w32 b → (of_z w32 a ≡ of_z w32 b → ⊥) → eq_z a b ≡ false
other-bits a b f g h = sym (eq-bits a b f g) ∙ ne_eqb (of_z w32 a) (of_z w32 b) h
