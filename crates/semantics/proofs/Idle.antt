-- A comparison that the ranges decide would narrow nothing: the search need not narrow where it makes no choice.
use Prim.Native.Nat.{ℕ, zero, suc}
use mathlib.Core.Path.{◌≡◌, refl, sym, ap, ap₂, ◌∙◌, subst}
use mathlib.Core.Bool.{Bool, true, false, ◌&&◌}
use mathlib.Core.Option.{some}
use mathlib.Core.List.{List, [], ◌∷◌}
use native.Mathlib.Omega.{arith}
use lib.ListN.{get_or, set}
use lib.IntN.{ℤ, suc_ℤ, pred_ℤ}
use lib.Dec.{T, T_not}
use lib.Signed.{le_z}
use Rattle.semantics.specs.Int.{Cmp, lt, le, gt, ge, eq, ne, eq_z}
use Rattle.semantics.specs.Program.{Window}
use Rattle.semantics.specs.Search.{Value, known, unknown, open', to, all32, min_z, max_z, range, negated, mirrored, always, decided, clip, clipped, narrowed}
use Rattle.semantics.proofs.Order.{up, down, ◌≼◌, cond_cases, le_z→, →leZ, lt_z→, antisym, eq_z→, of-suc, of-pred}
use Rattle.semantics.proofs.Range.{and_left, and_right, and_both, min-left, min-most, max-left, max_least}
use Rattle.semantics.proofs.Exact.{Filled, always-exact, decided-true, decided-false}
use Rattle.semantics.proofs.Filled.{One, AllFilled, range-filled, always-mirrored}

min-same : (a b : ℤ) → a ≼ b → min_z a b ≡ a
min-same a b h = antisym (min_z a b) a (min-left a b) (min-most a b a (omega arith) h)

max-same : (a b : ℤ) → b ≼ a → max_z a b ≡ a
max-same a b h = antisym (max_z a b) a (max_least a b a (omega arith) h) (max-left a b)

ends_same : {a b c d : ℤ} → a ≡ c → b ≡ d → to a b ≡ to c d
ends_same p q = ap₂ to p q

-- a window all of whose numbers compare so stays as it is
clip-same : (c : Cmp) (r w : Window) → One r → Filled w → T (always c w r) → clip c r.low w ≡ w
unfolding clip always
clip-same lt r w e h t = ends_same refl (min-same w.high (pred_ℤ r.low) (omega (arith, lt_z→ w.high r.low t, of-pred r.low)))
clip-same le r w e h t = ends_same refl (min-same w.high r.low (le_z→ w.high r.low t))
clip-same gt r w e h t = ends_same (max-same w.low (suc_ℤ r.low) (omega (arith, lt_z→ r.high w.low t, of-suc r.low, ap up e, ap down e))) refl
clip-same ge r w e h t = ends_same (max-same w.low r.low (omega (arith, le_z→ r.high w.low t, ap up e, ap down e))) refl
clip-same eq r w e h t =
    let a = le_z→ w.high r.low (and_left (le_z w.high r.low) (le_z r.high w.low) t) in
    let b = le_z→ r.high w.low (and_right (le_z w.high r.low) (le_z r.high w.low) t) in
    ends_same (max-same w.low r.low (omega (arith, ap up e, ap down e))) (min-same w.high r.low a)
clip-same ne r w e h t = ends_same
    (cond_cases (eq_z w.low r.low) (λ z. z ≡ w.low) (λ u. absurd (outside (low-in (eq_z→ w.low r.low u)))) (λ u. refl))
    (cond_cases (eq_z w.high r.low) (λ z. z ≡ w.high) (λ u. absurd (outside (high-in (eq_z→ w.high r.low u)))) (λ u. refl))
  where
    outside : T (le_z r.low w.high && le_z w.low r.high) → ⊥
    outside u = T_not (le_z r.low w.high && le_z w.low r.high) t u

    low-in : w.low ≡ r.low → T (le_z r.low w.high && le_z w.low r.high)
    low-in p = and_both (le_z r.low w.high) (le_z w.low r.high) (→leZ r.low w.high (omega (arith, ap up p, ap down p))) (→leZ w.low r.high (omega (arith, ap up p, ap down p, ap up e, ap down e)))

    high-in : w.high ≡ r.low → T (le_z r.low w.high && le_z w.low r.high)
    high-in p = and_both (le_z r.low w.high) (le_z w.low r.high) (→leZ r.low w.high (omega (arith, ap up p, ap down p))) (→leZ w.low r.high (omega (arith, ap up p, ap down p, ap up e, ap down e)))

set_same : (ws : List Window) (i : ℕ) (d : Window) → set ws i (get_or ws i d) ≡ ws
set_same [] i d = refl
set_same (w ∷ ws) zero d = refl
set_same (w ∷ ws) (suc i) d = ap (λ l. w ∷ l) (set_same ws i d)

clipped-same : (c : Cmp) (a : Value) (r : Window) (ws : List Window) → AllFilled ws → T (always c (range ws a) r) → clipped c a r ws ≡ ws
unfolding clipped range
clipped-same c (known z) r ws h t = refl
clipped-same c (unknown i) r ws h t = cond_cases (eq_z r.low r.high) (λ l. l ≡ ws)
    (λ u. ap (set ws i) (clip-same c r (get_or ws i all32) (eq_z→ r.low r.high u) (h i) t) ∙ set_same ws i all32)
    (λ u. refl)
clipped-same c (open' o x y) r ws h t = refl

mirrored-twice : (c : Cmp) → mirrored (mirrored c) ≡ c
mirrored-twice lt = refl
mirrored-twice le = refl
mirrored-twice gt = refl
mirrored-twice ge = refl
mirrored-twice eq = refl
mirrored-twice ne = refl

narrowed-same : (c : Cmp) (a b : Value) (ws : List Window) → AllFilled ws → T (always c (range ws a) (range ws b)) → narrowed c a b ws ≡ ws
unfolding narrowed
narrowed-same c a b ws h t =
    ap (clipped (mirrored c) b (range ws a)) (clipped-same c a (range ws b) ws h t)
    ∙ clipped-same (mirrored c) b (range ws a) ws h (always-mirrored (mirrored c) (range ws b) (range ws a) (subst (λ d. T (always d (range ws a) (range ws b))) (sym (mirrored-twice c)) t))

-- the comparison that holds, where the outcome is o
abbrev pub held : Bool → Cmp → Cmp
held true c = c
held false c = negated c

pub decided-idle : (c : Cmp) (a b : Value) (ws : List Window) (o : Bool) → AllFilled ws → decided c (range ws a) (range ws b) ≡ some o → narrowed (held o c) a b ws ≡ ws
decided-idle c a b ws true h e =
    let p = range-filled ws h a in
    let q = range-filled ws h b in
    narrowed-same c a b ws h (always-exact c (range ws a) (range ws b) p q ((decided-true c (range ws a) (range ws b) p q).0 e))
decided-idle c a b ws false h e =
    let p = range-filled ws h a in
    let q = range-filled ws h b in
    narrowed-same (negated c) a b ws h (always-exact (negated c) (range ws a) (range ws b) p q ((decided-false c (range ws a) (range ws b) p q).0 e))
