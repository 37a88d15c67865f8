-- What is known where two ranges do not decide a comparison.
use Prim.Native.Nat.{ℕ}
use mathlib.Core.Path.{◌≡◌, refl, sym, ap, ◌∙◌, subst}
use mathlib.Core.Bool.{Bool, true, false, not, cond, ◌&&◌}
use mathlib.Core.Option.{none, some}
use mathlib.Core.Logic.{◌⊎◌, inl, inr, ⊎_elim}
use native.Mathlib.Omega.{arith}
use lib.IntN.{ℤ}
use lib.Signed.{lt_z, le_z}
use lib.Dec.{T, not_T}
use Rattle.semantics.specs.Int.{Cmp, lt, le, gt, ge, eq, ne}
use Rattle.semantics.specs.Program.{Window}
use Rattle.semantics.specs.Search.{to, always, decided, negated, mirrored}
use Rattle.semantics.proofs.Order.{◌≼◌, ◌≺◌, le_z→, lt_z→, →ltZ, nlt_z→, nle_z→}

pub yes : {b : Bool} → b ≡ true → T b
yes e = subst T (sym e) tt

pub no : {b : Bool} → b ≡ false → T (not b)
no e = subst (λ (b : Bool). T (not b)) (sym e) tt

pub true_of : (b : Bool) → T b → b ≡ true
true_of true t = refl
true_of false t = absurd t

pub false_of : (b : Bool) → T (not b) → b ≡ false
false_of true t = absurd t
false_of false t = refl

pub not-le : (a b : ℤ) → lt_z b a ≡ not (le_z a b)
not-le a b = go (le_z a b) refl
  where
    go : (t : Bool) → le_z a b ≡ t → lt_z b a ≡ not t
    go true e = let h = le_z→ a b (yes e) in false_of (lt_z b a) (not_T (lt_z b a) (λ t. let l = lt_z→ b a t in omega arith))
    go false e = true_of (lt_z b a) (→ltZ b a (nle_z→ a b (no e)))

-- ---- neither the comparison nor its negation holds throughout

pub record Neither (c : Cmp) (v w : Window) : Type 0 where
  pub true-not : always c v w ≡ false
  pub false-not : always (negated c) v w ≡ false

neither : (a b : Bool) → cond a (some true) (cond b (some false) none) ≡ none → (a ≡ false) × (b ≡ false)
neither true b e = absurd (let z : ◌≡◌ {A = ℕ} 0 1 = cc in omega arith)
neither false true e = absurd (let z : ◌≡◌ {A = ℕ} 0 1 = cc in omega arith)
neither false false e = (refl, refl)

undecided : (c : Cmp) (v w : Window) → decided c v w ≡ none → Neither c v w
unfolding decided
undecided c v w e =
    let p = neither (always c v w) (always (negated c) v w) e in
    record { true-not = p.0; false-not = p.1 }

decided-none : (a b : Bool) → a ≡ false → b ≡ false → cond a (some true) (cond b (some false) none) ≡ none
decided-none a b p q = rw (p, q)

-- ---- the other outcome, and the other side

negated-twice : (c : Cmp) → negated (negated c) ≡ c
negated-twice lt = refl
negated-twice le = refl
negated-twice gt = refl
negated-twice ge = refl
negated-twice eq = refl
negated-twice ne = refl

-- where a comparison is not decided, its negation is not
pub undecided-negated : (c : Cmp) (v w : Window) → decided c v w ≡ none → decided (negated c) v w ≡ none
unfolding decided
undecided-negated c v w e =
    let n = undecided c v w e in
    decided-none (always (negated c) v w) (always (negated (negated c)) v w) n.false-not (ap (λ (d : Cmp). always d v w) (negated-twice c) ∙ n.true-not)

and_comm : (a b : Bool) → (a && b) ≡ (b && a)
and_comm true true = refl
and_comm true false = refl
and_comm false true = refl
and_comm false false = refl

always-mirrored : (c : Cmp) (v w : Window) → always (mirrored c) w v ≡ always c v w
unfolding always
always-mirrored lt v w = refl
always-mirrored le v w = refl
always-mirrored gt v w = refl
always-mirrored ge v w = refl
always-mirrored eq v w = and_comm (le_z w.high v.low) (le_z v.high w.low)
always-mirrored ne v w = ap not (and_comm (le_z v.low w.high) (le_z w.low v.high))

negated-mirrored : (c : Cmp) → negated (mirrored c) ≡ mirrored (negated c)
negated-mirrored lt = refl
negated-mirrored le = refl
negated-mirrored gt = refl
negated-mirrored ge = refl
negated-mirrored eq = refl
negated-mirrored ne = refl

-- a comparison read from its other side is decided alike
pub decided-mirrored : (c : Cmp) (v w : Window) → decided (mirrored c) w v ≡ decided c v w
unfolding decided
decided-mirrored c v w = rw (negated-mirrored c, always-mirrored c v w, always-mirrored (negated c) v w)

-- ---- a comparison with one number that is not decided: the number lies in the window, and the window has another one

pub record Around (w : Window) (k : ℤ) : Type 0 where
  pub least : w.low ≼ k
  pub most : k ≼ w.high
  pub wide : w.low ≺ w.high

and_split : (a b : Bool) → not (a && b) ≡ false → (a ≡ true) × (b ≡ true)
and_split true true e = (refl, refl)
and_split true false e = absurd (no e)
and_split false b e = absurd (no e)

and-fails : (a b : Bool) → (a && b) ≡ false → (a ≡ false) ⊎ (b ≡ false)
and-fails true b e = inr e
and-fails false b e = inl refl

module _ (w : Window) (k : ℤ) where
  -- both comparisons of equality come to this
  ends : (not (le_z k w.high && le_z w.low k)) ≡ false → (le_z w.high k && le_z k w.low) ≡ false → Around w k
  ends p q =
      let s = and_split (le_z k w.high) (le_z w.low k) p in
      let a = le_z→ k w.high (yes s.0) in
      let b = le_z→ w.low k (yes s.1) in
      record {
        least = b;
        most = a;
        wide = ⊎_elim (λ e. omega (arith, nle_z→ w.high k (no e))) (λ e. omega (arith, nle_z→ k w.low (no e))) (and-fails (le_z w.high k) (le_z k w.low) q);
      }

  above_low : le_z k w.low ≡ false → lt_z w.high k ≡ false → Around w k
  above_low p q = record { least = omega (arith, nle_z→ k w.low (no p)); most = nlt_z→ w.high k (no q); wide = omega (arith, nle_z→ k w.low (no p), nlt_z→ w.high k (no q)) }

  below-high : le_z w.high k ≡ false → lt_z k w.low ≡ false → Around w k
  below-high p q = record { least = nlt_z→ k w.low (no q); most = omega (arith, nle_z→ w.high k (no p)); wide = omega (arith, nle_z→ w.high k (no p), nlt_z→ k w.low (no q)) }

  pub around : (c : Cmp) → decided c w (to k k) ≡ none → Around w k
  unfolding always
  around lt e = let n = undecided lt w (to k k) e in above_low n.false-not n.true-not
  around le e = let n = undecided le w (to k k) e in below-high n.true-not n.false-not
  around gt e = let n = undecided gt w (to k k) e in below-high n.false-not n.true-not
  around ge e = let n = undecided ge w (to k k) e in above_low n.true-not n.false-not
  around eq e = let n = undecided eq w (to k k) e in ends n.false-not n.true-not
  around ne e = let n = undecided ne w (to k k) e in ends n.true-not n.false-not

  -- and where the order is strict, on the side that it says
  pub over-low : decided lt w (to k k) ≡ none → w.low ≺ k
  unfolding always
  over-low e = nle_z→ k w.low (no (undecided lt w (to k k) e).false-not)

  pub under-high : decided gt w (to k k) ≡ none → k ≺ w.high
  unfolding always
  under-high e = nle_z→ w.high k (no (undecided gt w (to k k) e).false-not)
