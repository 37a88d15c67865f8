-- The range of an operation: filled where its operands are, and what the fall back to all of 32 bits gives.
use mathlib.Core.Path.{◌≡◌, refl}
use mathlib.Core.Bool.{Bool, true, false, ◌&&◌, cond}
use native.Mathlib.Omega.{arith}
use lib.IntN.{ℤ, pos, negsuc, ◌*ℤ◌}
use lib.Signed.{le_z}
use mir.Syntax.{w32}
use mir.Val.{SFits}
use Rattle.semantics.specs.Int.{Op, add, sub, mul}
use Rattle.semantics.specs.Program.{Window}
use Rattle.semantics.specs.Search.{to, all32, min_z, max_z, span, fitted}
use Rattle.semantics.proofs.Order.{up, down, ◌≼◌, le_z→, →leZ, of-add, of-minus}
use Rattle.semantics.proofs.Range.{min-left, max-left}
use Rattle.ints.proofs.Fits.{fits}
use Rattle.intervals.specs.Meaning.{Filled}
use Rattle.intervals.proofs.Undecided.{yes, true_of}

-- ---- 32 bits, or all of them

module _ (l h : ℤ) where
  pub low_fits : le_z (negsuc 2147483647) l ≡ true → le_z l h ≡ true → le_z h (pos 2147483647) ≡ true → SFits w32 l
  unfolding up down
  low_fits a b c =
      let p = le_z→ (negsuc 2147483647) l (yes a) in
      let q = le_z→ l h (yes b) in
      let r = le_z→ h (pos 2147483647) (yes c) in
      fits l (omega arith) (omega arith)

  pub high_fits : le_z (negsuc 2147483647) l ≡ true → le_z l h ≡ true → le_z h (pos 2147483647) ≡ true → SFits w32 h
  unfolding up down
  high_fits a b c =
      let p = le_z→ (negsuc 2147483647) l (yes a) in
      let q = le_z→ l h (yes b) in
      let r = le_z→ h (pos 2147483647) (yes c) in
      fits h (omega arith) (omega arith)

  pub fitted-inside : le_z (negsuc 2147483647) l ≡ true → le_z h (pos 2147483647) ≡ true → fitted (to l h) ≡ to l h
  unfolding fitted all32
  fitted-inside a b = rw (a, b)

  pub fitted-under : le_z (negsuc 2147483647) l ≡ false → fitted (to l h) ≡ to (negsuc 2147483647) (pos 2147483647)
  unfolding fitted all32
  fitted-under a = rw a

  pub fitted-over : le_z h (pos 2147483647) ≡ false → fitted (to l h) ≡ to (negsuc 2147483647) (pos 2147483647)
  unfolding fitted all32
  fitted-over b = go (le_z (negsuc 2147483647) l)
    where
      go : (a : Bool) → cond (a && le_z h (pos 2147483647)) (to l h) (to (negsuc 2147483647) (pos 2147483647)) ≡ to (negsuc 2147483647) (pos 2147483647)
      go true = rw b
      go false = refl

-- ---- filled

pub filled : (w : Window) → w.low ≼ w.high → Filled w
filled w h = true_of (le_z w.low w.high) (→leZ w.low w.high h)

pub ordered : (w : Window) → Filled w → w.low ≼ w.high
ordered w f = le_z→ w.low w.high (yes f)

pub span_filled : (o : Op) (v w : Window) → Filled v → Filled w → Filled (span o v w)
unfolding span
span_filled add v w f g = filled (span add v w) (omega (arith, of-add v.low w.low, of-add v.high w.high, ordered v f, ordered w g))
span_filled sub v w f g = filled (span sub v w) (omega (arith, of-minus v.low w.high, of-minus v.high w.low, ordered v f, ordered w g))
span_filled mul v w f g =
    let a = v.low *ℤ w.low in
    let b = v.low *ℤ w.high in
    let c = v.high *ℤ w.low in
    let d = v.high *ℤ w.high in
    filled (span mul v w) (omega (arith, min-left (min_z a b) (min_z c d), min-left a b, max-left a b, max-left (max_z a b) (max_z c d)))
