-- Document 01's deciding and narrowing: what ranges decide holds, and a narrowed window keeps what the test lets pass.
use Prim.Native.Nat.{ℕ, zero, suc}
use mathlib.Core.Path.{◌≡◌, refl, sym, ap, ◌∙◌, subst}
use mathlib.Core.Bool.{Bool, true, false, not, cond, ◌&&◌, not-not}
use mathlib.Core.List.{List, [], ◌∷◌}
use native.Mathlib.Omega.{arith}
use lib.ListN.{get_or, set, length, length-set}
use lib.IntN.{ℤ, pos, suc_ℤ, pred_ℤ}
use lib.Dec.{T, not_T, T_not}
use lib.Signed.{lt_z, le_z}
use Rattle.semantics.specs.Int.{Cmp, lt, le, gt, ge, eq, ne, eq_z, holds}
use Rattle.semantics.specs.Program.{Window}
use Rattle.semantics.specs.Search.{Value, known, unknown, open', under, all32, range, negated, mirrored, always, clip, clipped, narrowed}
use Rattle.semantics.proofs.Order.{up, down, ◌≼◌, cond_cases, le_z→, →leZ, lt_z→, →ltZ, nlt_z→, nle_z→, antisym, eq_z→, eq_z-refl, neq_z→, of-suc, of-pred}
use Rattle.semantics.proofs.Range.{In, Sub, sub_refl, sub_trans, Within, and_left, and_right, and_both, bool-ext, range-sound, min-left, min-most, max-left, max_least}

-- ---- what ranges decide

pub always-sound : (c : Cmp) (v w : Window) (x y : ℤ) → In v x → In w y → T (always c v w) → T (holds c x y)
unfolding always holds
always-sound lt v w x y h k t = →ltZ x y (omega (arith, lt_z→ v.high w.low t))
always-sound le v w x y h k t = →leZ x y (omega (arith, le_z→ v.high w.low t))
always-sound gt v w x y h k t = →ltZ y x (omega (arith, lt_z→ w.high v.low t))
always-sound ge v w x y h k t = →leZ y x (omega (arith, le_z→ w.high v.low t))
always-sound eq v w x y h k t =
    let l = le_z→ v.high w.low (and_left (le_z v.high w.low) (le_z w.high v.low) t) in
    let m = le_z→ w.high v.low (and_right (le_z v.high w.low) (le_z w.high v.low) t) in
    subst (λ z. T (eq_z x z)) (antisym x y (omega arith) (omega arith)) (eq_z-refl x)
always-sound ne v w x y h k t =
    not_T (eq_z x y) λ e.
    let p = ap up (eq_z→ x y e) in
    let q = ap down (eq_z→ x y e) in
    T_not (le_z w.low v.high && le_z v.low w.high) t (and_both (le_z w.low v.high) (le_z v.low w.high) (→leZ w.low v.high (omega arith)) (→leZ v.low w.high (omega arith)))

le_not_lt : (a b : ℤ) → le_z b a ≡ not (lt_z a b)
le_not_lt a b =
    bool-ext (le_z b a) (not (lt_z a b))
    (λ t. not_T (lt_z a b) (λ u. omega (arith, le_z→ b a t, lt_z→ a b u)))
    (λ t. →leZ b a (nlt_z→ a b t))

lt_not_le : (a b : ℤ) → lt_z b a ≡ not (le_z a b)
lt_not_le a b =
    bool-ext (lt_z b a) (not (le_z a b))
    (λ t. not_T (le_z a b) (λ u. omega (arith, lt_z→ b a t, le_z→ a b u)))
    (λ t. →ltZ b a (nle_z→ a b t))

-- a test that fails is one that holds, negated
pub holds_negated : (c : Cmp) (x y : ℤ) → holds (negated c) x y ≡ not (holds c x y)
unfolding holds
holds_negated lt x y = le_not_lt x y
holds_negated le x y = lt_not_le x y
holds_negated gt x y = le_not_lt y x
holds_negated ge x y = lt_not_le y x
holds_negated eq x y = refl
holds_negated ne x y = sym (not-not (eq_z x y))

eq-sym : (x y : ℤ) → eq_z x y ≡ eq_z y x
eq-sym x y =
    bool-ext (eq_z x y) (eq_z y x)
    (λ t. subst (λ z. T (eq_z z x)) (eq_z→ x y t) (eq_z-refl x))
    (λ t. subst (λ z. T (eq_z z y)) (eq_z→ y x t) (eq_z-refl y))

holds-mirrored : (c : Cmp) (x y : ℤ) → holds (mirrored c) y x ≡ holds c x y
unfolding holds
holds-mirrored lt x y = refl
holds-mirrored le x y = refl
holds-mirrored gt x y = refl
holds-mirrored ge x y = refl
holds-mirrored eq x y = eq-sym y x
holds-mirrored ne x y = ap not (eq-sym y x)

-- ---- windows narrow

-- a clipped window keeps each number that compares so
pub clip-sound : (c : Cmp) (n : ℤ) (w : Window) (x : ℤ) → In w x → T (holds c x n) → In (clip c n w) x
unfolding holds clip
clip-sound lt n w x h t = record { least = h.least; most = min-most w.high (pred_ℤ n) x h.most (omega (arith, lt_z→ x n t, of-pred n)) }
clip-sound le n w x h t = record { least = h.least; most = min-most w.high n x h.most (le_z→ x n t) }
clip-sound gt n w x h t = record { least = max_least w.low (suc_ℤ n) x h.least (omega (arith, lt_z→ n x t, of-suc n)); most = h.most }
clip-sound ge n w x h t = record { least = max_least w.low n x h.least (le_z→ n x t); most = h.most }
clip-sound eq n w x h t =
    let p = ap up (eq_z→ x n t) in
    let q = ap down (eq_z→ x n t) in
    record { least = max_least w.low n x h.least (omega arith); most = min-most w.high n x h.most (omega arith) }
clip-sound ne n w x h t = record {
  least = cond_cases (eq_z w.low n) (λ m. m ≼ x) (λ u. above (eq_z→ w.low n u)) (λ u. h.least);
  most = cond_cases (eq_z w.high n) (λ m. x ≼ m) (λ u. below (eq_z→ w.high n u)) (λ u. h.most);
}
  where
    above : w.low ≡ n → suc_ℤ n ≼ x
    above e = omega (arith, of-suc n, neq_z→ x n t, ap up e, ap down e, h.least)

    below : w.high ≡ n → x ≼ pred_ℤ n
    below e = omega (arith, of-pred n, neq_z→ x n t, ap up e, ap down e, h.most)

-- and is within the window
pub clip-sub : (c : Cmp) (n : ℤ) (w : Window) → Sub (clip c n w) w
unfolding clip
clip-sub lt n w = record { least = omega arith; most = min-left w.high (pred_ℤ n) }
clip-sub le n w = record { least = omega arith; most = min-left w.high n }
clip-sub gt n w = record { least = max-left w.low (suc_ℤ n); most = omega arith }
clip-sub ge n w = record { least = max-left w.low n; most = omega arith }
clip-sub eq n w = record { least = max-left w.low n; most = min-left w.high n }
clip-sub ne n w = record {
  least = cond_cases (eq_z w.low n) (λ m. w.low ≼ m) (λ u. omega (arith, of-suc n, ap up (eq_z→ w.low n u), ap down (eq_z→ w.low n u))) (λ u. omega arith);
  most = cond_cases (eq_z w.high n) (λ m. m ≼ w.high) (λ u. omega (arith, of-pred n, ap up (eq_z→ w.high n u), ap down (eq_z→ w.high n u))) (λ u. omega arith);
}

pub set_cases : (ws : List Window) (i j : ℕ) (w d : Window) (P : Window → Type 0) → P (get_or ws j d) → (i ≡ j → P w) → P (get_or (set ws i w) j d)
set_cases [] i j w d P p q = p
set_cases (v ∷ ws) zero zero w d P p q = q refl
set_cases (v ∷ ws) zero (suc j) w d P p q = p
set_cases (v ∷ ws) (suc i) zero w d P p q = p
set_cases (v ∷ ws) (suc i) (suc j) w d P p q = set_cases ws i j w d P p (λ e. q (ap suc e))

clipped-sound : (c : Cmp) (a : Value) (r : Window) (y : ℤ) (ws : List Window) (s : List ℤ) → Within ws s → In r y → T (holds c (under s a) y) → Within (clipped c a r ws) s
unfolding clipped under
clipped-sound c (known z) r y ws s h k t = h
clipped-sound c (unknown i) r y ws s h k t =
    cond_cases (eq_z r.low r.high) (λ us. Within us s)
    (λ u j. set_cases ws i j (clip c r.low (get_or ws i all32)) all32 (λ w. In w (get_or s j (pos 0))) (h j)
    (λ e. subst (λ j. In (clip c r.low (get_or ws i all32)) (get_or s j (pos 0))) e
    (clip-sound c r.low (get_or ws i all32) (get_or s i (pos 0)) (h i) (subst (λ z. T (holds c (get_or s i (pos 0)) z)) (one u) t))))
    (λ u. h)
  where
    one : T (eq_z r.low r.high) → y ≡ r.low
    one u = let e = eq_z→ r.low r.high u in antisym y r.low (omega (arith, ap up e, ap down e)) k.least
clipped-sound c (open' o a b) r y ws s h k t = h

pub narrowed-sound : (c : Cmp) (a b : Value) (ws : List Window) (s : List ℤ) → Within ws s → T (holds c (under s a) (under s b)) → Within (narrowed c a b ws) s
unfolding narrowed
narrowed-sound c a b ws s h t =
    clipped-sound (mirrored c) b (range ws a) (under s a) (clipped c a (range ws b) ws) s
    (clipped-sound c a (range ws b) (under s b) ws s h (range-sound ws s h b) t)
    (range-sound ws s h a)
    (subst T (sym (holds-mirrored c (under s a) (under s b))) t)

cond-length : (b : Bool) (us ws : List Window) → length us ≡ length ws → length (cond b us ws) ≡ length ws
cond-length true us ws e = e
cond-length false us ws e = refl

clipped-length : (c : Cmp) (a : Value) (r : Window) (ws : List Window) → length (clipped c a r ws) ≡ length ws
unfolding clipped
clipped-length c (known z) r ws = refl
clipped-length c (unknown i) r ws = cond-length (eq_z r.low r.high) _ ws (length-set ws i _)
clipped-length c (open' o a b) r ws = refl

pub narrowed-length : (c : Cmp) (a b : Value) (ws : List Window) → length (narrowed c a b ws) ≡ length ws
unfolding narrowed
narrowed-length c a b ws = clipped-length (mirrored c) b (range ws a) (clipped c a (range ws b) ws) ∙ clipped-length c a (range ws b) ws

-- and each window is within the one before
clipped-within : (c : Cmp) (a : Value) (r : Window) (ws : List Window) (i : ℕ) → Sub (get_or (clipped c a r ws) i all32) (get_or ws i all32)
unfolding clipped
clipped-within c (known z) r ws j = sub_refl (get_or ws j all32)
clipped-within c (unknown i) r ws j =
    cond_cases (eq_z r.low r.high) (λ us. Sub (get_or us j all32) (get_or ws j all32))
    (λ u. set_cases ws i j (clip c r.low (get_or ws i all32)) all32 (λ w. Sub w (get_or ws j all32)) (sub_refl (get_or ws j all32))
    (λ e. subst (λ j. Sub (clip c r.low (get_or ws i all32)) (get_or ws j all32)) e (clip-sub c r.low (get_or ws i all32))))
    (λ u. sub_refl (get_or ws j all32))
clipped-within c (open' o a b) r ws j = sub_refl (get_or ws j all32)

pub narrowed-within : (c : Cmp) (a b : Value) (ws : List Window) (i : ℕ) → Sub (get_or (narrowed c a b ws) i all32) (get_or ws i all32)
unfolding narrowed
narrowed-within c a b ws i = sub_trans (clipped-within (mirrored c) b (range ws a) (clipped c a (range ws b) ws) i) (clipped-within c a (range ws b) ws i)
