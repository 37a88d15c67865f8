-- Laws of a group of variables.
use Prim.Native.Nat.{ℕ, ◌+◌, ◌-◌, ◌≤◌, ◌<◌}
use mathlib.Core.Path.{◌≡◌, refl, sym, ap, ◌∙◌}
use mathlib.Core.Bool.{Bool, true, false, cond, ◌&&◌, ◌||◌}
use mathlib.Core.List.{List}
use native.Mathlib.Omega.{arith}
use lib.Dec.{leb, ltb, eqb}
use lib.ListN.{length, get_or, set}
use lib.Seq.{get_or-set_same, get_or-set_other}
use borrow.Author.Tests.{leb-true, ltb-true, eqb-true, eqb-false, le-leb, lt-leb, lt-ltb, le-ltb}
use Rattle.assignment.specs.Group.{group_size, among, within, only}

-- a variable by whether it is in the group
pub by-group : (base v : ℕ) (P : Bool → Type 0) → (base ≤ v → v < base + group_size → P true) → P false → P (among base v)
unfolding among
by-group base v P f p = go (leb base v) (ltb v (base + group_size)) (leb-true base v) (ltb-true v (base + group_size))
  where
    go : (a b : Bool) → (a ≡ true → base ≤ v) → (b ≡ true → v < base + group_size) → P (a && b)
    go true true x y = f (x refl) (y refl)
    go true false x y = p
    go false true x y = p
    go false false x y = p

pub in_group : (base v : ℕ) → base ≤ v → v < base + group_size → among base v ≡ true
unfolding among
in_group base v lo hi = rw (le-leb base v lo, lt-ltb v (base + group_size) hi)

pub below-group : (base v : ℕ) → v < base → among base v ≡ false
unfolding among
below-group base v h = rw (lt-leb base v h)

pub above-group : (base v : ℕ) → base + group_size ≤ v → among base v ≡ false
unfolding among
above-group base v h = go (leb base v) (ltb v (base + group_size)) (le-ltb v (base + group_size) h)
  where
    go : (a b : Bool) → b ≡ false → (a && b) ≡ false
    go true b e = e
    go false b e = refl

module _ (base : ℕ) (f : ℕ → Bool) (v : ℕ) where
  pub within_in : base ≤ v → v < base + group_size → within base f v ≡ f v
  unfolding within
  within_in lo hi = rw (in_group base v lo hi)

  pub within_low : v < base → within base f v ≡ true
  unfolding within
  within_low h = rw (below-group base v h)

  pub within-high : base + group_size ≤ v → within base f v ≡ true
  unfolding within
  within-high h = rw (above-group base v h)

  pub within-true : (base ≤ v → v < base + group_size → f v ≡ true) → within base f v ≡ true
  unfolding within
  within-true h = by-group base v (λ g. cond g (f v) true ≡ true) h refl

  module _ (g : ℕ → Bool) where
    pub within_same : (base ≤ v → v < base + group_size → f v ≡ g v) → within base f v ≡ within base g v
    unfolding within
    within_same e = by-group base v (λ x. cond x (f v) true ≡ cond x (g v) true) e refl

    pub within-and : (h : ℕ → Bool) → (base ≤ v → v < base + group_size → f v ≡ (g v && h v)) → within base f v ≡ (within base g v && within base h v)
    unfolding within
    within-and h e = by-group base v (λ x. cond x (f v) true ≡ (cond x (g v) true && cond x (h v) true)) e refl

-- ---- one variable more is assigned

-- a variable is v, or another one
pub by_equal : (v u : ℕ) (P : Bool → Type 0) → (v ≡ u → P true) → ((v ≡ u → ⊥) → P false) → P (eqb v u)
by_equal v u P f g = go (eqb v u) refl
  where
    go : (b : Bool) → eqb v u ≡ b → P b
    go true e = f (eqb-true v u e)
    go false e = g (eqb-false v u e)

pub only-more : (base : ℕ) (a : List Bool) (v : ℕ) → base ≤ v → v < base + length a → (u : ℕ) → only base (set a (v - base) true) u ≡ (eqb v u || only base a u)
only-more base a v lo hi u =
    by_equal v u (λ b. only base (set a (v - base) true) u ≡ (b || only base a u))
    (λ e. within-true base _ u λ x y. ap (λ (w : ℕ). get_or (set a (v - base) true) (w - base) false) (sym e) ∙ get_or-set_same a (v - base) true false (omega arith))
    (λ n. within_same base _ u _ λ x y. get_or-set_other a (v - base) (u - base) true false (λ e. n (omega arith)))

-- one that counts as assigned
pub within_more : (base : ℕ) (f : ℕ → Bool) (v : ℕ) → within base f v ≡ true → (u : ℕ) → within base f u ≡ (eqb v u || within base f u)
within_more base f v h u = by_equal v u (λ b. within base f u ≡ (b || within base f u)) (λ e. ap (within base f) (sym e) ∙ h) (λ n. refl)
