-- What narrowing keeps, by the cases that the code tells apart, and what fits 32 bits there.
use mathlib.Core.Path.{◌≡◌, refl, sym, ap₂, ◌∙◌, subst}
use mathlib.Core.Bool.{Bool, true, false, not, cond}
use mathlib.Core.Option.{none}
use native.Mathlib.Omega.{arith}
use lib.IntN.{ℤ, pos, suc_ℤ, pred_ℤ, ◌+ℤ◌, ◌-ℤ◌, +ℤ_one, -ℤ_one}
use lib.Signed.{le_z}
use lib.Dec.{T, not_T}
use mir.Syntax.{w32}
use mir.Val.{SFits}
use Rattle.std.specs.Int.{int_min, int_max}
use Rattle.semantics.specs.Int.{eq, ne, eq_z}
use Rattle.semantics.specs.Program.{Window}
use Rattle.semantics.specs.Search.{to, min_z, max_z, decided, clip}
use Rattle.semantics.proofs.Order.{◌≼◌, ◌≺◌, cond_cases, le_z→, →leZ, antisym, eq_z→, eq_z-refl, of-suc, of-pred}
use Rattle.ints.proofs.Fits.{within, fits}
use Rattle.intervals.proofs.Undecided.{not-le, false_of, true_of, around}

-- ---- one more and one less

pub less-one : (k : ℤ) → k -ℤ pos 1 ≡ pred_ℤ k
less-one k = -ℤ_one k

pub more-one : (k : ℤ) → k +ℤ pos 1 ≡ suc_ℤ k
more-one k = +ℤ_one k

pub pred_fits : (l k : ℤ) → SFits w32 l → SFits w32 k → l ≺ k → SFits w32 (k -ℤ pos 1)
pred_fits l k f g h = subst (SFits w32) (sym (-ℤ_one k)) (fits (pred_ℤ k) (omega (arith, of-pred k, within k g)) (omega (arith, of-pred k, within l f)))

pub suc-fits : (k h : ℤ) → SFits w32 k → SFits w32 h → k ≺ h → SFits w32 (k +ℤ pos 1)
suc-fits k h f g l = subst (SFits w32) (sym (+ℤ_one k)) (fits (suc_ℤ k) (omega (arith, of-suc k, within h g)) (omega (arith, of-suc k, within k f)))

-- ---- the least and the greatest of two

-- those of the library are those of `semantics`
pub min-is : (a b : ℤ) → int_min a b ≡ min_z a b
unfolding min_z
min-is a b = rw (not-le a b) (go (le_z a b))
  where
    go : (t : Bool) → cond (not t) b a ≡ cond t a b
    go true = refl
    go false = refl

pub max-is : (a b : ℤ) → int_max a b ≡ max_z a b
unfolding max_z
max-is a b = rw (not-le a b) (go (le_z a b))
  where
    go : (t : Bool) → cond (not t) a b ≡ cond t b a
    go true = refl
    go false = refl

-- where the order is known
min-second : (a b : ℤ) → b ≼ a → min_z a b ≡ b
unfolding min_z
min-second a b h = cond_cases (le_z a b) (λ (m : ℤ). m ≡ b) (λ t. antisym a b (le_z→ a b t) h) (λ t. refl)

max-second : (a b : ℤ) → a ≼ b → max_z a b ≡ b
unfolding max_z
max-second a b h = rw (true_of (le_z a b) (→leZ a b h))

-- ---- the cases

pub same : (a b : ℤ) → a ≡ b → eq_z a b ≡ true
same a b e = true_of (eq_z a b) (subst (λ (z : ℤ). T (eq_z a z)) e (eq_z-refl a))

module _ (w : Window) (k : ℤ) where
  pub eq-cut : decided eq w (to k k) ≡ none → clip eq k w ≡ to k k
  unfolding clip
  eq-cut e =
      let a = around w k eq e in
      ap₂ to (max-second w.low k a.least) (min-second w.high k a.most)

  -- != removes an end: the low one, the high one, or none
  high-stays : decided ne w (to k k) ≡ none → w.low ≡ k → eq_z w.high k ≡ false
  high-stays d e = false_of (eq_z w.high k) (not_T (eq_z w.high k) (λ t. one (around w k ne d).wide (e ∙ sym (eq_z→ w.high k t))))
    where
      one : w.low ≺ w.high → w.low ≡ w.high → ⊥
      one h q = let l : w.low ≺ w.low = subst (λ (z : ℤ). w.low ≺ z) (sym q) h in omega arith

  pub ne-low : decided ne w (to k k) ≡ none → w.low ≡ k → clip ne k w ≡ to (k +ℤ pos 1) w.high
  unfolding clip
  ne-low d e = rw (same w.low k e, high-stays d e, +ℤ_one k)

  pub ne-high : eq_z w.low k ≡ false → w.high ≡ k → clip ne k w ≡ to w.low (k -ℤ pos 1)
  unfolding clip
  ne-high e h = rw (e, same w.high k h, -ℤ_one k)

  pub ne-kept : eq_z w.low k ≡ false → eq_z w.high k ≡ false → clip ne k w ≡ w
  unfolding clip
  ne-kept e h = rw (e, h)
