-- Where pairs, frames and marks stand.
use mathlib.Core.Path.{◌≡◌, subst}
use mathlib.Core.List.{List}
use Prim.Native.Nat.{ℕ, zero, suc, ◌+◌, ◌-◌, ◌*◌, ◌/◌, ◌%◌, ◌≤◌, ◌<◌}
use native.Mathlib.Nat.{mul-le-mul_left, mul-le-mul_right}
use native.Mathlib.Omega.{arith}
use lib.ListN.{length, get_or}
use Rattle.machine.specs.Layout.{tables_place, stride, index_end}
use Rattle.machine.specs.Terms.{Room}
use Rattle.checkpoints.specs.Live.{Row}

-- ---- products

pub times-on : (s i n : ℕ) → i < n → s * i + s ≤ s * n
times-on s i n l = omega (arith, mul-le-mul_left {m = suc i} {n = n} s l)

pub times-few : (n d : ℕ) → n ≤ 16 → n * d ≤ 16 * d
times-few n d l = mul-le-mul_right {m = n} {n = 16} d l

-- ---- words one by one

-- one of two
pub either : (P : ℕ → Type 0) → P 0 → P 1 → (b : ℕ) → b < 2 → P b
either P p q zero l = p
either P p q (suc zero) l = q
either P p q (suc (suc b)) l = absurd (omega arith)

-- words that are alike pair by pair
pub in_pairs : (m m' : List ℕ) (i k : ℕ) → ((j b : ℕ) → j < k → b < 2 → get_or m' (i + 2 * j + b) 0 ≡ get_or m (i + 2 * j + b) 0) → (x : ℕ) → i ≤ x → x < i + 2 * k → get_or m' x 0 ≡ get_or m x 0
in_pairs m m' i k h x a b =
    subst (λ (y : ℕ). get_or m' y 0 ≡ get_or m y 0) {x = i + 2 * ((x - i) / 2) + (x - i) % 2} {y = x} (omega arith) (h ((x - i) / 2) ((x - i) % 2) (omega arith) (omega arith))

-- ---- rows of pairs

module _ {m : List ℕ} (room : tables_place ≤ length m) where
  -- cells of a frame, callers, windows
  pub low-row : (x n : ℕ) → x + 2 * n ≤ tables_place → Row m x 2 n
  low-row x n l = record { two = omega arith; fits = omega arith; inside = λ i g. omega arith; apart = λ i b j g k u v. omega arith }

-- temporaries
pub temporary-row : {m : List ℕ} {n : ℕ} → Room m n → Row m tables_place stride n
temporary-row r = record { two = omega arith; fits = omega (arith, r.small); inside = λ i g. omega (arith, r.words); apart = λ i b j g k u v. omega arith }

-- a mark is in the memory
pub mark-below : {m : List ℕ} {n : ℕ} (w : ℕ) → w < n → Room m n → index_end w ≤ length m
mark-below w l r = omega (arith, r.words)
