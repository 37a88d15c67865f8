-- Document 01's narrowing never empties a window: where the ranges do not decide a comparison, each side of the choice leaves every window a number.
use Prim.Native.Nat.{ℕ}
use mathlib.Core.Path.{◌≡◌, refl, sym, ap, ◌∙◌, subst}
use mathlib.Core.Bool.{Bool, true, false, not, cond, ◌&&◌}
use mathlib.Core.Option.{Option, none, some}
use mathlib.Core.List.{List}
use native.Mathlib.Omega.{arith}
use lib.ListN.{get_or}
use lib.IntN.{ℤ, suc_ℤ, pred_ℤ}
use lib.Dec.{T, not_T}
use lib.Signed.{lt_z, le_z}
use Rattle.semantics.specs.Int.{Cmp, lt, le, gt, ge, eq, ne, eq_z, holds}
use Rattle.semantics.specs.Program.{Window}
use Rattle.semantics.specs.Search.{Value, known, unknown, open', all32, span, fitted, range, negated, mirrored, always, decided, clip, clipped, narrowed}
use Rattle.semantics.proofs.Order.{up, down, ◌≼◌, ◌≺◌, cond_cases, le_z→, →leZ, nlt_z→, nle_z→, antisym, eq_z→, eq_z-refl, neq_z→, of-suc, of-pred}
use Rattle.semantics.proofs.Range.{In, and_left, and_right, and_both, min-most, max_least}
use Rattle.semantics.proofs.Narrow.{holds_negated, set_cases}
use Rattle.semantics.proofs.Exact.{Filled, span-exact, always-exact}

-- the range r has one number
abbrev pub One : Window → Type 0
One r = r.low ≡ r.high

-- the two ranges do not decide c
pub record Open (c : Cmp) (v w : Window) : Type 0 where
  pub not-true : T (always c v w) → ⊥
  pub not-false : T (always (negated c) v w) → ⊥

-- all windows have a number
abbrev pub AllFilled : List Window → Type 0
AllFilled ws = (i : ℕ) → Filled (get_or ws i all32)

-- ---- ranges

fitted-filled : (w : Window) → Filled w → Filled (fitted w)
unfolding fitted all32 up down
fitted-filled w h = cond_cases (le_z all32.low w.low && le_z w.high all32.high) Filled (λ t. h) (λ t. omega arith)

pub range-filled : (ws : List Window) → AllFilled ws → (v : Value) → Filled (range ws v)
unfolding range
range-filled ws h (known z) = omega arith
range-filled ws h (unknown i) = h i
range-filled ws h (open' o a b) =
    let p = range-filled ws h a in
    let q = range-filled ws h b in
    let m = (span-exact o (range ws a) (range ws b) p q).between (range ws a).low (range ws b).low (record { least = omega arith; most = p }) (record { least = omega arith; most = q }) in
    fitted-filled (span o (range ws a) (range ws b)) (omega (arith, m.least, m.most))

-- ---- one window

below_of : (a b : ℤ) → (T (le_z a b) → ⊥) → b ≺ a
below_of a b f = nle_z→ a b (not_T (le_z a b) f)

least-of : (a b : ℤ) → (T (lt_z a b) → ⊥) → b ≼ a
least-of a b f = nlt_z→ a b (not_T (lt_z a b) f)

-- ranges of which neither `==` nor `!=` always holds have a common number, and more than it
not-ne : (v r : Window) → (T (always ne v r) → ⊥) → T (le_z r.low v.high && le_z v.low r.high)
unfolding always
not-ne v r f = go (le_z r.low v.high && le_z v.low r.high) f
  where
    go : (b : Bool) → (T (not b) → ⊥) → T b
    go true f = tt
    go false f = f tt

clip-filled : (c : Cmp) (r w : Window) → One r → Filled w → Open c w r → Filled (clip c r.low w)
unfolding clip always
clip-filled lt r w e h o = min-most w.high (pred_ℤ r.low) w.low h (omega (arith, below_of r.high w.low o.not-false, of-pred r.low, ap up e, ap down e))
clip-filled le r w e h o = min-most w.high r.low w.low h (omega (arith, least-of r.high w.low o.not-false, ap up e, ap down e))
clip-filled gt r w e h o = max_least w.low (suc_ℤ r.low) w.high h (omega (arith, below_of w.high r.low o.not-false, of-suc r.low))
clip-filled ge r w e h o = max_least w.low r.low w.high h (least-of w.high r.low o.not-false)
clip-filled eq r w e h o =
    let t = not-ne w r o.not-false in
    let a = le_z→ r.low w.high (and_left (le_z r.low w.high) (le_z w.low r.high) t) in
    let b = le_z→ w.low r.high (and_right (le_z r.low w.high) (le_z w.low r.high) t) in
    max_least w.low r.low _ (min-most w.high r.low w.low h (omega (arith, ap up e, ap down e))) (min-most w.high r.low r.low a (omega arith))
clip-filled ne r w e h o = cond_cases (eq_z w.low r.low) (λ l. l ≼ cond (eq_z w.high r.low) (pred_ℤ r.low) w.high)
    (λ t. cond_cases (eq_z w.high r.low) (λ k. suc_ℤ r.low ≼ k)
    (λ u. absurd (both (eq_z→ w.low r.low t) (eq_z→ w.high r.low u)))
    (λ u. let p = eq_z→ w.low r.low t in omega (arith, neq_z→ w.high r.low u, ap up p, ap down p, of-suc r.low)))
    (λ t. cond_cases (eq_z w.high r.low) (λ k. w.low ≼ k)
    (λ u. let p = eq_z→ w.high r.low u in omega (arith, neq_z→ w.low r.low t, ap up p, ap down p, of-pred r.low))
    (λ u. h))
  where
    both : w.low ≡ r.low → w.high ≡ r.low → ⊥
    both p q = o.not-false (and_both (le_z w.high r.low) (le_z r.high w.low) (→leZ w.high r.low (omega (arith, ap up q, ap down q))) (→leZ r.high w.low (omega (arith, ap up p, ap down p, ap up e, ap down e))))

-- ---- both sides of a comparison

swap : (a b : Bool) → T (a && b) → T (b && a)
swap true true t = tt
swap true false t = absurd t
swap false true t = absurd t
swap false false t = absurd t

swap-not : (a b : Bool) → T (not (a && b)) → T (not (b && a))
swap-not true true t = absurd t
swap-not true false t = tt
swap-not false true t = tt
swap-not false false t = tt

pub always-mirrored : (c : Cmp) (v w : Window) → T (always (mirrored c) w v) → T (always c v w)
unfolding always
always-mirrored lt v w t = t
always-mirrored le v w t = t
always-mirrored gt v w t = t
always-mirrored ge v w t = t
always-mirrored eq v w t = swap (le_z w.high v.low) (le_z v.high w.low) t
always-mirrored ne v w t = swap-not (le_z v.low w.high) (le_z w.low v.high) t

negated-mirrored : (c : Cmp) → negated (mirrored c) ≡ mirrored (negated c)
negated-mirrored lt = refl
negated-mirrored le = refl
negated-mirrored gt = refl
negated-mirrored ge = refl
negated-mirrored eq = refl
negated-mirrored ne = refl

open-mirrored : (c : Cmp) (v w : Window) → Open c v w → Open (mirrored c) w v
open-mirrored c v w o = record { not-true = λ t. o.not-true (always-mirrored c v w t); not-false = λ t. o.not-false (always-mirrored (negated c) v w (subst (λ d. T (always d w v)) (negated-mirrored c) t)) }

-- two ranges of one number decide
one-filled : (r : Window) → One r → Filled r
one-filled r e = omega (arith, ap up e, ap down e)

one_in : (r : Window) (x : ℤ) → One r → In r x → x ≡ r.low
one_in r x e h = antisym x r.low (omega (arith, h.most, ap up e, ap down e)) h.least

not-one-one : (c : Cmp) (v w : Window) → One v → One w → Open c v w → ⊥
not-one-one c v w e f o = go (holds c v.low w.low) refl
  where
    fixed : (d : Cmp) → T (holds d v.low w.low) → T (always d v w)
    fixed d t = always-exact d v w (one-filled v e) (one-filled w f) (λ x y p q. subst (λ y. T (holds d x y)) (sym (one_in w y f q)) (subst (λ x. T (holds d x w.low)) (sym (one_in v x e p)) t))

    go : (b : Bool) → holds c v.low w.low ≡ b → ⊥
    go true g = o.not-true (fixed c (subst T (sym g) tt))
    go false g = o.not-false (fixed (negated c) (subst T (sym (holds_negated c v.low w.low ∙ ap not g)) tt))

clipped-filled : (c : Cmp) (a : Value) (r : Window) (ws : List Window) → AllFilled ws → (One r → Open c (range ws a) r) → AllFilled (clipped c a r ws)
unfolding clipped range
clipped-filled c (known z) r ws h o = h
clipped-filled c (unknown i) r ws h o = cond_cases (eq_z r.low r.high) AllFilled
    (λ t j. set_cases ws i j _ all32 Filled (h j) (λ e. let p = eq_z→ r.low r.high t in clip-filled c r (get_or ws i all32) p (h i) (o p)))
    (λ t. h)
clipped-filled c (open' p x y) r ws h o = h

-- a value against a range of more than one number leaves the windows as they are
clipped-same : (c : Cmp) (a : Value) (r : Window) (ws : List Window) → (One r → ⊥) → clipped c a r ws ≡ ws
unfolding clipped
clipped-same c (known z) r ws f = refl
clipped-same c (unknown i) r ws f = cond_cases (eq_z r.low r.high) (λ l. l ≡ ws) (λ t. absurd (f (eq_z→ r.low r.high t))) (λ t. refl)
clipped-same c (open' o x y) r ws f = refl

open_of : (c : Cmp) (v w : Window) → decided c v w ≡ none → Open c v w
unfolding decided
open_of c v w e = record { not-true = λ t. yes-not (always c v w) (always (negated c) v w) e t; not-false = λ t. no-not (always c v w) (always (negated c) v w) e t }
  where
    clash : {o : Bool} → ◌≡◌ {A = Option Bool} (some o) none → ⊥
    clash e = let z : ◌≡◌ {A = ℕ} 0 1 = cc in omega arith

    yes-not : (a b : Bool) → cond a (some true) (cond b (some false) none) ≡ none → T a → ⊥
    yes-not true b e t = clash e
    yes-not false b e t = t

    no-not : (a b : Bool) → cond a (some true) (cond b (some false) none) ≡ none → T b → ⊥
    no-not true b e t = clash e
    no-not false true e t = clash e
    no-not false false e t = t

narrowed-open : (c : Cmp) (a b : Value) (ws : List Window) → AllFilled ws → Open c (range ws a) (range ws b) → AllFilled (narrowed c a b ws)
unfolding narrowed
narrowed-open c a b ws h o = go (eq_z (range ws a).low (range ws a).high) refl
  where
    go : (t : Bool) → eq_z (range ws a).low (range ws a).high ≡ t → AllFilled (clipped (mirrored c) b (range ws a) (clipped c a (range ws b) ws))
    go true e =
        let p = eq_z→ (range ws a).low (range ws a).high (subst T (sym e) tt) in
        rw (clipped-same c a (range ws b) ws (λ q. not-one-one c (range ws a) (range ws b) p q o))
        (clipped-filled (mirrored c) b (range ws a) ws h (λ q. open-mirrored c (range ws a) (range ws b) o))
    go false e =
        rw (clipped-same (mirrored c) b (range ws a) (clipped c a (range ws b) ws) (λ p. subst T e (subst (λ z. T (eq_z (range ws a).low z)) p (eq_z-refl (range ws a).low))))
        (clipped-filled c a (range ws b) ws h (λ q. o))

negated-twice : (c : Cmp) → negated (negated c) ≡ c
negated-twice lt = refl
negated-twice le = refl
negated-twice gt = refl
negated-twice ge = refl
negated-twice eq = refl
negated-twice ne = refl

-- both sides of a choice
pub never-empty : (c : Cmp) (a b : Value) (ws : List Window) → AllFilled ws → decided c (range ws a) (range ws b) ≡ none → AllFilled (narrowed c a b ws) × AllFilled (narrowed (negated c) a b ws)
never-empty c a b ws h e =
    let o = open_of c (range ws a) (range ws b) e in
    (narrowed-open c a b ws h o, narrowed-open (negated c) a b ws h (record { not-true = o.not-false; not-false = λ t. o.not-true (subst (λ d. T (always d (range ws a) (range ws b))) (negated-twice c) t) }))
