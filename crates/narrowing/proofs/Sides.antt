-- The two sides of a comparison: which of them narrows a window. Where the ranges do not decide, at most one does.
use Prim.Native.Nat.{ℕ, ◌≤◌, ◌<◌}
use mathlib.Core.Path.{◌≡◌, refl, sym, ap, ap₂, ◌∙◌, subst}
use mathlib.Core.Bool.{Bool, true, false, cond}
use mathlib.Core.Option.{none}
use mathlib.Core.List.{List}
use native.Mathlib.Omega.{arith}
use lib.ListN.{get_or, set, take, length, length-take}
use lib.Seq.{take-set-lt, get_or-take}
use lib.IntN.{ℤ}
use lib.Dec.{not_T}
use Rattle.semantics.specs.Int.{Cmp, eq_z}
use Rattle.semantics.specs.Program.{Window}
use Rattle.semantics.specs.Search.{Value, known, unknown, open', to, all32, range, mirrored, decided, clip, clipped, narrowed}
use Rattle.semantics.proofs.Order.{◌≺◌, eq_z→}
use Rattle.intervals.specs.declared.Window as code
use Rattle.narrowing.specs.declared.Side.{Side}
use Rattle.narrowing.specs.declared.Side.TheVariants.{Free, Other}
use Rattle.narrowing.specs.Meaning.{range_of, variable_of, narrowed_by, AmongEight, Stands}
use Rattle.intervals.proofs.Undecided.{false_of, around, decided-mirrored}
use Rattle.intervals.proofs.Narrow.{same}

pub placed : {i : ℕ} → AmongEight (Free i) → i < 8
placed (AmongEight.free h) = h

-- ---- sides that stand for values. The first n windows are those of a path with n free variables

-- the range of a value is that of the side that stands for it
pub stands-range : (ws : List Window) (n : ℕ) {s : Side} {x : Value} → Stands (take n ws) s x → range (take n ws) x ≡ range_of ws s
unfolding range
stands-range ws n (Stands.free {i} h) = get_or-take n ws i all32 (omega (arith, length-take n ws))
stands-range ws n (Stands.number e) = sym e
stands-range ws n (Stands.operation e) = sym e

-- and the side narrows what the value does
stands-clipped : {us : List Window} (c : Cmp) (r : Window) (ws : List Window) (n : ℕ) {s : Side} {x : Value} → length us ≤ n → Stands us s x → take n (clipped c (variable_of s) r ws) ≡ clipped c x r (take n ws)
unfolding clipped
stands-clipped c r ws n l (Stands.free {i} h) = go (eq_z r.low r.high)
  where
    go : (b : Bool) → take n (cond b (set ws i (clip c r.low (get_or ws i all32))) ws) ≡ cond b (set (take n ws) i (clip c r.low (get_or (take n ws) i all32))) (take n ws)
    go true = take-set-lt n ws i (clip c r.low (get_or ws i all32)) (omega arith) ∙ rw (get_or-take n ws i all32 (omega arith))
    go false = refl
stands-clipped c r ws n l (Stands.number e) = refl
stands-clipped c r ws n l (Stands.operation e) = refl

-- narrowing by sides is narrowing by the values that they stand for
pub narrowed-by : (c : Cmp) (ws : List Window) (n : ℕ) {a b : Side} {x y : Value} → Stands (take n ws) a x → Stands (take n ws) b y → take n (narrowed_by c a b ws) ≡ narrowed c x y (take n ws)
unfolding narrowed
narrowed-by c ws n {a} {b} {x} {y} p q =
    let l : length (take n ws) ≤ n = omega (arith, length-take n ws) in
    stands-clipped (mirrored c) (range_of ws a) (clipped c (variable_of a) (range_of ws b) ws) n l q
    ∙ ap (clipped (mirrored c) y (range_of ws a)) (stands-clipped c (range_of ws b) ws n l p)
    ∙ ap₂ (λ (r s : Window). clipped (mirrored c) y r (clipped c x s (take n ws))) (sym (stands-range ws n p)) (sym (stands-range ws n q))

-- ---- one side

pub free-clipped : (c : Cmp) (k : ℤ) (i : ℕ) (ws : List Window) → set ws i (clip c k (get_or ws i all32)) ≡ clipped c (unknown i) (to k k) ws
unfolding clipped
free-clipped c k i ws = rw (same k k refl)

pub other-clipped : (c : Cmp) (k : ℤ) (r : code.Window) (ws : List Window) → ws ≡ clipped c (variable_of (Other r)) (to k k) ws
unfolding clipped
other-clipped c k r ws = refl

-- a range of more than one number narrows nothing
wide : (c : Cmp) (x : Value) (r : Window) (us : List Window) → eq_z r.low r.high ≡ false → clipped c x r us ≡ us
unfolding clipped
wide c (known z) r us e = refl
wide c (unknown i) r us e = rw e
wide c (open' o a b) r us e = refl

-- ---- both sides

one : (w : Window) → w.low ≡ w.high → w ≡ to w.low w.low
one w e = ap (to w.low) (sym e)

-- against one number, the other range has more than one
not-one : (c : Cmp) (v w : Window) → decided c v w ≡ none → w.low ≡ w.high → eq_z v.low v.high ≡ false
not-one c v w d e = false_of (eq_z v.low v.high) (not_T (eq_z v.low v.high) (λ t. apart (eq_z→ v.low v.high t)))
  where
    far : v.low ≺ v.high
    far = (around v w.low c (subst (λ (u : Window). decided c v u ≡ none) (one w e) d)).wide

    apart : v.low ≡ v.high → ⊥
    apart q = let l : v.low ≺ v.low = subst (λ (z : ℤ). v.low ≺ z) (sym q) far in omega arith

module _ (c : Cmp) (ws : List Window) (x y : Value) (v w : Window) where
  -- the right side is one number
  pub left-narrows : decided c v w ≡ none → w.low ≡ w.high → clipped c x (to w.low w.low) ws ≡ clipped (mirrored c) y v (clipped c x w ws)
  left-narrows d e = ap (λ (r : Window). clipped c x r ws) (sym (one w e)) ∙ sym (wide (mirrored c) y v (clipped c x w ws) (not-one c v w d e))

  -- the right side is more, and the left side is one number
  pub right-narrows : eq_z w.low w.high ≡ false → v.low ≡ v.high → clipped (mirrored c) y (to v.low v.low) ws ≡ clipped (mirrored c) y v (clipped c x w ws)
  right-narrows d e = ap₂ (λ (r : Window) (us : List Window). clipped (mirrored c) y r us) (sym (one v e)) (sym (wide c x w ws d))

  pub none-narrows : eq_z w.low w.high ≡ false → eq_z v.low v.high ≡ false → ws ≡ clipped (mirrored c) y v (clipped c x w ws)
  none-narrows d e = sym (wide c x w ws d) ∙ sym (wide (mirrored c) y v (clipped c x w ws) e)

-- what the code asks of the side that narrows
pub asked-left : (c : Cmp) (v w : Window) → decided c v w ≡ none → w.low ≡ w.high → decided c v (to w.low w.low) ≡ none
asked-left c v w d e = subst (λ (u : Window). decided c v u ≡ none) (one w e) d

pub asked-right : (c : Cmp) (v w : Window) → decided c v w ≡ none → v.low ≡ v.high → decided (mirrored c) w (to v.low v.low) ≡ none
asked-right c v w d e = asked-left (mirrored c) w v (decided-mirrored c v w ∙ d) e
