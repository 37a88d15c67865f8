-- The 32 bits of a number: low bits of sums, differences and products, and the casts between words and numbers.
use Rattle.std.proofs.Common.{◌≡◌, ℕ, zero, suc, ◌+◌, ◌-◌, ◌*◌, ◌%◌, ◌^◌, ◌<◌, ◌≤◌, Bool, true, false, cond, ltb, ℤ, pos, negsuc, ◌+ℤ◌, ◌-ℤ◌, ◌*ℤ◌, neg_ℤ, refl, ◌∙◌, add-mul, mul-add, arith, w32, SFits, of_z, ltb-false, ltb-true}
use lib.IntN.{sub_ℕ}
use Rattle.semantics.specs.Int.{low32}

-- ---- the low 32 bits of an exact result

low-sub : (a b : ℕ) → b ≤ 2 ^ 32 → low32 (sub_ℕ a b) ≡ (a + (2 ^ 32 - b)) % 2 ^ 32
unfolding low32
low-sub a b h = go (ltb a b) refl
  where
    go : (t : Bool) → ltb a b ≡ t → low32 (cond t (negsuc (b - suc a)) (pos (a - b))) ≡ (a + (2 ^ 32 - b)) % 2 ^ 32
    go true e = omega (arith, ltb-true a b e)
    go false e = omega (arith, ltb-false a b e)

pub add_low : (a b : ℤ) → SFits w32 a → SFits w32 b → low32 (a +ℤ b) ≡ (of_z w32 a + of_z w32 b) % 2 ^ 32
unfolding low32
add_low (pos a) (pos b) f g = refl
add_low (pos a) (negsuc b) f g = low-sub a (suc b) (omega (arith, g.sfits))
add_low (negsuc a) (pos b) f g = low-sub b (suc a) (omega (arith, f.sfits)) ∙ omega arith
add_low (negsuc a) (negsuc b) f g = omega (arith, f.sfits, g.sfits)

-- the difference is what makes a of b
pub sub_low : (a b : ℤ) → SFits w32 a → SFits w32 b → (low32 (a -ℤ b) + of_z w32 b) % 2 ^ 32 ≡ of_z w32 a
unfolding low32
sub_low (pos a) (pos zero) f g = omega (arith, f.sfits)
sub_low (pos a) (pos (suc b)) f g = omega (arith, f.sfits, g.sfits, low-sub a (suc b) (omega (arith, g.sfits)))
sub_low (pos a) (negsuc b) f g = omega (arith, f.sfits, g.sfits)
sub_low (negsuc a) (pos zero) f g = omega (arith, f.sfits, low-sub 0 (suc a) (omega (arith, f.sfits)))
sub_low (negsuc a) (pos (suc b)) f g = omega (arith, f.sfits, g.sfits)
sub_low (negsuc a) (negsuc b) f g = omega (arith, f.sfits, g.sfits, low-sub (suc b) (suc a) (omega (arith, f.sfits)))

pub low-lt : (z : ℤ) → low32 z < 2 ^ 32
unfolding low32
low-lt (pos n) = omega arith
low-lt (negsuc n) = omega arith

-- the low bits of -t
low-neg : (t : ℕ) → ((low32 (neg_ℤ (pos t)) + t) % 2 ^ 32 ≡ 0) × (low32 (neg_ℤ (pos t)) < 2 ^ 32)
unfolding low32
low-neg zero = omega arith
low-neg (suc n) = omega arith

pub mul_low : (a b : ℤ) → SFits w32 a → SFits w32 b → low32 (a *ℤ b) ≡ (of_z w32 a * of_z w32 b) % 2 ^ 32
unfolding low32
mul_low (pos a) (pos b) f g = refl
mul_low (pos a) (negsuc b) f g =
    let q : ℕ = 2 ^ 32 - suc b in
    let e : q + suc b ≡ 2 ^ 32 = omega (arith, g.sfits) in
    let d : a * (q + suc b) ≡ a * q + a * suc b = mul-add a q (suc b) in
    let d' : a * 2 ^ 32 ≡ a * q + a * suc b = rw e at d in
    omega (arith, low-neg (a * suc b))
mul_low (negsuc a) (pos b) f g =
    let q : ℕ = 2 ^ 32 - suc a in
    let e : q + suc a ≡ 2 ^ 32 = omega (arith, f.sfits) in
    let d : (q + suc a) * b ≡ q * b + suc a * b = add-mul q (suc a) b in
    let d' : 2 ^ 32 * b ≡ q * b + suc a * b = rw e at d in
    omega (arith, low-neg (suc a * b))
mul_low (negsuc a) (negsuc b) f g =
    let p : ℕ = 2 ^ 32 - suc a in
    let q : ℕ = 2 ^ 32 - suc b in
    let e : p + suc a ≡ 2 ^ 32 = omega (arith, f.sfits) in
    let e' : q + suc b ≡ 2 ^ 32 = omega (arith, g.sfits) in
    let d : p * (q + suc b) ≡ p * q + p * suc b = mul-add p q (suc b) in
    let d₁ : p * 2 ^ 32 ≡ p * q + p * suc b = rw e' at d in
    let h : (p + suc a) * suc b ≡ p * suc b + suc a * suc b = add-mul p (suc a) (suc b) in
    let h₁ : 2 ^ 32 * suc b ≡ p * suc b + suc a * suc b = rw e at h in
    omega arith

-- ---- words and numbers

pub bits-lt : (x : ℤ) → SFits w32 x → of_z w32 x < 2 ^ 32
bits-lt (pos n) f = omega (arith, f.sfits)
bits-lt (negsuc n) f = omega arith
