-- Ranges, deciding and narrowing do what document 01 says, and no more or less: a range's ends are attained and never exceeded, ranges decide what they can decide, and narrowing removes what it should.
use Prim.Native.Nat.{ℕ, ◌<◌, ◌^◌}
use mathlib.Core.Path.{◌≡◌, refl, sym, ap, ◌∙◌, subst}
use mathlib.Core.Bool.{Bool, true, false, cond, ◌&&◌}
use mathlib.Core.Option.{none, some}
use mathlib.Core.Logic.{◌↔◌}
use mathlib.Core.List.{List}
use native.Mathlib.Omega.{arith}
use lib.IntN.{ℤ, suc_ℤ, pred_ℤ}
use lib.Dec.{T, ltb, ltb→lt, nltb→le, not_T, T_not}
use lib.Signed.{le_z}
use mir.Syntax.{w32}
use mir.Val.{to_z}
use Rattle.semantics.specs.Int.{Op, add, sub, mul, exact, low32, wrap, Cmp, lt, le, gt, ge, eq, ne, eq_z, holds}
use Rattle.semantics.specs.Program.{Window}
use Rattle.semantics.specs.Search.{Value, open', all32, min_z, max_z, span, fitted, range, negated, always, decided, clip}
use Rattle.semantics.proofs.Order.{up, down, ◌≼◌, cond_cases, le_z→, →leZ, →ltZ, nle_z→, antisym, eq_z→, eq_z-refl, of-suc, of-pred}
use Rattle.semantics.proofs.Range.{In, Sub, and_left, and_right, and_both, sel-cases, low_fits, wrap-in, wrap-same, span-sound, min-right, max-left, max-right, max_least}
use Rattle.semantics.proofs.Narrow.{always-sound, holds_negated, clip-sound, clip-sub}

-- ---- 32 bits

low_signed : (n : ℕ) → n < 2 ^ 32 → low32 (to_z w32 n) ≡ n
unfolding low32
low_signed n h =
    sel-cases (ltb n (2 ^ 31)) (λ z. low32 z ≡ n)
    (λ t. let l = ltb→lt n (2 ^ 31) t in omega arith)
    (λ t. let l = nltb→le n (2 ^ 31) t in omega arith)

-- "keep the low 32 bits of the exact result": of an exact result z, `wrap z` is the int that has its low 32 bits
pub wrap-exact : (z x : ℤ) → (In all32 x × (low32 x ≡ low32 z)) ↔ (x ≡ wrap z)
unfolding wrap
wrap-exact z x = (
  λ p. sym (wrap-same x p.0) ∙ ap (to_z w32) p.1,
  λ e. (subst (In all32) (sym e) (wrap-in z), ap low32 e ∙ low_signed (low32 z) (low_fits z)),
)

-- a window that has a number
abbrev pub Filled : Window → Type 0
Filled w = w.low ≼ w.high

at_low : (w : Window) → Filled w → In w w.low
at_low w h = record { least = omega arith; most = h }

at_high : (w : Window) → Filled w → In w w.high
at_high w h = record { least = h; most = omega arith }

-- ---- ranges

-- z is what the operation gives for some numbers of the two ranges
pub record Given (o : Op) (v w : Window) (z : ℤ) : Type 0 where
  pub left : ℤ
  pub right : ℤ
  pub in_left : In v left
  pub in_right : In w right
  pub gives : exact o left right ≡ z

-- "the least and greatest exact integer that the operation gives over its operands' ranges"
pub record LeastGreatest (o : Op) (v w r : Window) : Type 0 where
  pub least : Given o v w r.low
  pub greatest : Given o v w r.high
  pub between : (x y : ℤ) → In v x → In w y → In r (exact o x y)

given : (o : Op) (v w : Window) (x y : ℤ) → In v x → In w y → Given o v w (exact o x y)
given o v w x y h k = record { left = x; right = y; in_left = h; in_right = k; gives = refl }

min-given : {o : Op} {v w : Window} (a b : ℤ) → Given o v w a → Given o v w b → Given o v w (min_z a b)
unfolding min_z
min-given {o} {v} {w} a b h k = cond_cases (le_z a b) (Given o v w) (λ t. h) (λ t. k)

max-given : {o : Op} {v w : Window} (a b : ℤ) → Given o v w a → Given o v w b → Given o v w (max_z a b)
unfolding max_z
max-given {o} {v} {w} a b h k = cond_cases (le_z a b) (Given o v w) (λ t. k) (λ t. h)

pub span-exact : (o : Op) (v w : Window) → Filled v → Filled w → LeastGreatest o v w (span o v w)
unfolding span exact
span-exact add v w h k = record {
  least = given add v w v.low w.low (at_low v h) (at_low w k);
  greatest = given add v w v.high w.high (at_high v h) (at_high w k);
  between = span-sound add v w;
}
span-exact sub v w h k = record {
  least = given sub v w v.low w.high (at_low v h) (at_high w k);
  greatest = given sub v w v.high w.low (at_high v h) (at_low w k);
  between = span-sound sub v w;
}
span-exact mul v w h k =
    let a = given mul v w v.low w.low (at_low v h) (at_low w k) in
    let b = given mul v w v.low w.high (at_low v h) (at_high w k) in
    let c = given mul v w v.high w.low (at_high v h) (at_low w k) in
    let d = given mul v w v.high w.high (at_high v h) (at_high w k) in
    record {
      least = min-given _ _ (min-given _ _ a b) (min-given _ _ c d);
      greatest = max-given _ _ (max-given _ _ a b) (max-given _ _ c d);
      between = span-sound mul v w;
    }

fitted-inside : (w : Window) → Sub w all32 → fitted w ≡ w
unfolding fitted
fitted-inside w h = cond_cases (le_z all32.low w.low && le_z w.high all32.high) (λ r. r ≡ w) (λ t. refl)
    (λ t. absurd (T_not (le_z all32.low w.low && le_z w.high all32.high) t (and_both (le_z all32.low w.low) (le_z w.high all32.high) (→leZ all32.low w.low h.least) (→leZ w.high all32.high h.most))))

fitted-outside : (w : Window) → (Sub w all32 → ⊥) → fitted w ≡ all32
unfolding fitted
fitted-outside w f = cond_cases (le_z all32.low w.low && le_z w.high all32.high) (λ r. r ≡ all32)
    (λ t. absurd (f (record { least = le_z→ all32.low w.low (and_left (le_z all32.low w.low) (le_z w.high all32.high) t); most = le_z→ w.high all32.high (and_right (le_z all32.low w.low) (le_z w.high all32.high) t) })))
    (λ t. refl)

-- the range of an open expression
pub record RangeOf (o : Op) (v w r : Window) : Type 0 where
  -- the least and the greatest exact result
  pub exact : Window
  pub ends : LeastGreatest o v w exact
  -- "where that leaves 32 bits, this operation's range is all of 32 bits"
  pub fits : Sub exact all32 → r ≡ exact
  pub leaves : (Sub exact all32 → ⊥) → r ≡ all32

pub range-exact : (o : Op) (ws : List Window) (a b : Value) → Filled (range ws a) → Filled (range ws b) → RangeOf o (range ws a) (range ws b) (range ws (open' o a b))
unfolding range
range-exact o ws a b h k =
    let r = span o (range ws a) (range ws b) in
    record { exact = r; ends = span-exact o (range ws a) (range ws b) h k; fits = fitted-inside r; leaves = fitted-outside r }

-- ---- deciding

-- c holds of all numbers of the two ranges
abbrev pub Always : Cmp → Window → Window → Type 0
Always c v w = (x y : ℤ) → In v x → In w y → T (holds c x y)

pub always-exact : (c : Cmp) (v w : Window) → Filled v → Filled w → Always c v w → T (always c v w)
unfolding always holds
always-exact lt v w h k f = f v.high w.low (at_high v h) (at_low w k)
always-exact le v w h k f = f v.high w.low (at_high v h) (at_low w k)
always-exact gt v w h k f = f v.low w.high (at_low v h) (at_high w k)
always-exact ge v w h k f = f v.low w.high (at_low v h) (at_high w k)
always-exact eq v w h k f =
    let p = eq_z→ v.high w.low (f v.high w.low (at_high v h) (at_low w k)) in
    let q = eq_z→ v.low w.high (f v.low w.high (at_low v h) (at_high w k)) in
    and_both (le_z v.high w.low) (le_z w.high v.low) (→leZ v.high w.low (omega (arith, ap up p, ap down p))) (→leZ w.high v.low (omega (arith, ap up q, ap down q)))
always-exact ne v w h k f = not_T (le_z w.low v.high && le_z v.low w.high) λ t.
    let a = le_z→ w.low v.high (and_left (le_z w.low v.high) (le_z v.low w.high) t) in
    let b = le_z→ v.low w.high (and_right (le_z w.low v.high) (le_z v.low w.high) t) in
    let m = max_z v.low w.low in
    T_not (eq_z m m) (f m m
    (record { least = max-left v.low w.low; most = max_least v.low w.low v.high h a })
    (record { least = max-right v.low w.low; most = max_least v.low w.low w.high b k })) (eq_z-refl m)

-- "If the two ranges decide a comparison, it is decided": true exactly where it holds of all numbers of the ranges, false exactly where its negation does
pub decided-true : (c : Cmp) (v w : Window) → Filled v → Filled w → (decided c v w ≡ some true) ↔ Always c v w
unfolding decided
decided-true c v w h k = (
  λ e x y p q. always-sound c v w x y p q (yes_of (always c v w) (always (negated c) v w) e),
  λ f. of-yes (always c v w) (always (negated c) v w) (always-exact c v w h k f),
)
  where
    of-yes : (a b : Bool) → T a → cond a (some true) (cond b (some false) none) ≡ some true
    of-yes true b t = refl
    of-yes false b t = absurd t

    yes_of : (a b : Bool) → cond a (some true) (cond b (some false) none) ≡ some true → T a
    yes_of true b e = tt
    yes_of false true e = let z : ◌≡◌ {A = ℕ} 0 1 = cc in absurd (omega arith)
    yes_of false false e = let z : ◌≡◌ {A = ℕ} 0 1 = cc in absurd (omega arith)

pub decided-false : (c : Cmp) (v w : Window) → Filled v → Filled w → (decided c v w ≡ some false) ↔ Always (negated c) v w
unfolding decided
decided-false c v w h k = (
  λ e x y p q. always-sound (negated c) v w x y p q (no_of (always c v w) (always (negated c) v w) e),
  λ f. of-no (always c v w) (always (negated c) v w) (λ t. not-both f t) (always-exact (negated c) v w h k f),
)
  where
    not-both : Always (negated c) v w → T (always c v w) → ⊥
    not-both f t =
        let x = v.low in
        let y = w.low in
        T_not (holds c x y) (subst T (holds_negated c x y) (f x y (at_low v h) (at_low w k))) (always-sound c v w x y (at_low v h) (at_low w k) t)

    of-no : (a b : Bool) → (T a → ⊥) → T b → cond a (some true) (cond b (some false) none) ≡ some false
    of-no true b f t = absurd (f tt)
    of-no false true f t = refl
    of-no false false f t = absurd t

    no_of : (a b : Bool) → cond a (some true) (cond b (some false) none) ≡ some false → T b
    no_of true b e = let z : ◌≡◌ {A = ℕ} 0 1 = cc in absurd (omega arith)
    no_of false true e = tt
    no_of false false e = let z : ◌≡◌ {A = ℕ} 0 1 = cc in absurd (omega arith)

-- ---- narrowing

-- x is not an end of the window that is n
pub record NoEnd (n : ℤ) (w : Window) (x : ℤ) : Type 0 where
  pub low : x ≡ n → w.low ≡ n → ⊥
  pub high : x ≡ n → w.high ≡ n → ⊥

-- what a window keeps: of the five first comparisons, the numbers for which it holds; of `!=`, all but an end that is the number
abbrev pub Kept : Cmp → ℤ → Window → ℤ → Type 0
Kept lt n w x = T (holds lt x n)
Kept le n w x = T (holds le x n)
Kept gt n w x = T (holds gt x n)
Kept ge n w x = T (holds ge x n)
Kept eq n w x = T (holds eq x n)
Kept ne n w x = NoEnd n w x

out : (w v : Window) (x : ℤ) → Sub v w → In v x → In w x
out w v x s h = record { least = omega (arith, s.least, h.least); most = omega (arith, s.most, h.most) }

pub clip-exact : (c : Cmp) (n : ℤ) (w : Window) (x : ℤ) → In (clip c n w) x ↔ (In w x × Kept c n w x)
unfolding holds clip
clip-exact lt n w x = (λ h. (out w _ x (clip-sub lt n w) h, →ltZ x n (omega (arith, h.most, min-right w.high (pred_ℤ n), of-pred n))), λ p. clip-sound lt n w x p.0 p.1)
clip-exact le n w x = (λ h. (out w _ x (clip-sub le n w) h, →leZ x n (omega (arith, h.most, min-right w.high n))), λ p. clip-sound le n w x p.0 p.1)
clip-exact gt n w x = (λ h. (out w _ x (clip-sub gt n w) h, →ltZ n x (omega (arith, h.least, max-right w.low (suc_ℤ n), of-suc n))), λ p. clip-sound gt n w x p.0 p.1)
clip-exact ge n w x = (λ h. (out w _ x (clip-sub ge n w) h, →leZ n x (omega (arith, h.least, max-right w.low n))), λ p. clip-sound ge n w x p.0 p.1)
clip-exact eq n w x = (
  λ h. (out w _ x (clip-sub eq n w) h, subst (λ z. T (eq_z x z)) (antisym x n (omega (arith, h.most, min-right w.high n)) (omega (arith, h.least, max-right w.low n))) (eq_z-refl x)),
  λ p. clip-sound eq n w x p.0 p.1,
)
clip-exact ne n w x = (λ h. (out w _ x (clip-sub ne n w) h, inward h), λ p. outward p.0 p.1)
  where
    low-eq : w.low ≡ n → cond (eq_z w.low n) (suc_ℤ n) w.low ≡ suc_ℤ n
    low-eq e = cond_cases (eq_z w.low n) (λ z. z ≡ suc_ℤ n) (λ t. refl) (λ t. absurd (T_not (eq_z w.low n) t (subst (λ z. T (eq_z w.low z)) e (eq_z-refl w.low))))

    high-eq : w.high ≡ n → cond (eq_z w.high n) (pred_ℤ n) w.high ≡ pred_ℤ n
    high-eq e = cond_cases (eq_z w.high n) (λ z. z ≡ pred_ℤ n) (λ t. refl) (λ t. absurd (T_not (eq_z w.high n) t (subst (λ z. T (eq_z w.high z)) e (eq_z-refl w.high))))

    inward : In (clip ne n w) x → NoEnd n w x
    inward h = record {
      low = λ e f. let g = low-eq f in omega (arith, h.least, ap up g, ap down g, ap up e, ap down e, of-suc n);
      high = λ e f. let g = high-eq f in omega (arith, h.most, ap up g, ap down g, ap up e, ap down e, of-pred n);
    }

    outward : In w x → NoEnd n w x → In (clip ne n w) x
    outward h k = record {
      least = cond_cases (eq_z w.low n) (λ m. m ≼ x) (λ t. let e = eq_z→ w.low n t in above e) (λ t. h.least);
      most = cond_cases (eq_z w.high n) (λ m. x ≼ m) (λ t. let e = eq_z→ w.high n t in below e) (λ t. h.most);
    }
      where
        above : w.low ≡ n → suc_ℤ n ≼ x
        above e = cond_cases {A = Bool} (le_z x n) {x = true} {y = true} (λ b. suc_ℤ n ≼ x)
            (λ t. absurd (k.low (antisym x n (le_z→ x n t) (omega (arith, h.least, ap up e, ap down e))) e))
            (λ t. omega (arith, nle_z→ x n t, of-suc n))

        below : w.high ≡ n → x ≼ pred_ℤ n
        below e = cond_cases {A = Bool} (le_z n x) {x = true} {y = true} (λ b. x ≼ pred_ℤ n)
            (λ t. absurd (k.high (antisym x n (omega (arith, h.most, ap up e, ap down e)) (le_z→ n x t)) e))
            (λ t. omega (arith, nle_z→ n x t, of-pred n))
