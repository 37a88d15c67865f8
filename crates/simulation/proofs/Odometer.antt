-- The odometer goes through all settings in their order.
use Prim.Native.Nat.{ℕ, suc, ◌+◌, ◌-◌}
use mathlib.Core.Path.{◌≡◌, refl, ap, ◌∙◌}
use mathlib.Core.Bool.{Bool, true, false, not, ◌&&◌}
use mathlib.Core.Option.{Option, none, some}
use mathlib.Core.List.{List, [], ◌∷◌, ◌++◌, map}
use native.Mathlib.Omega.{arith}
use lib.ListN.{length}
use lib.IntN.{ℤ, pos, negsuc, suc_ℤ, ◌-ℤ◌}
use lib.Dec.{T}
use lib.Signed.{lt_z, le_z}
use Rattle.semantics.specs.Program.{Window}
use Rattle.semantics.specs.Run.{counting, clamp, numbers, each}
use Rattle.semantics.specs.Search.{settings, to}
use Rattle.semantics.proofs.Order.{up, down, ◌≼◌, ◌≺◌, le_z→, →leZ, lt_z→, nlt_z→, nle_z→, of-minus, of-suc}
use Rattle.simulation.specs.Odometer.{filled, lowest, carried, after}

-- ---- the numbers of a window

clamp-up : (z : ℤ) → clamp z ≡ up z
unfolding clamp up
clamp-up (pos n) = refl
clamp-up (negsuc n) = refl

-- one of the two parts of an integer is zero
parts : (z : ℤ) → up z ≡ up z - down z
unfolding up down
parts (pos n) = omega arith
parts (negsuc n) = omega arith

clamp-gap : (a b : ℤ) → clamp (b -ℤ a) ≡ (up b + down a) - (up a + down b)
clamp-gap a b = omega (arith, clamp-up (b -ℤ a), parts (b -ℤ a), of-minus b a)

numbers-none : (a b : ℤ) → b ≺ a → numbers (to a b) ≡ []
unfolding numbers counting
numbers-none a b h = by (clamp (suc_ℤ b -ℤ a)) (omega (arith, clamp-gap a (suc_ℤ b), of-suc b))
  where
    by : (n : ℕ) → n ≡ 0 → counting a n ≡ []
    by n e = ap (counting a) e

numbers-some : (a b : ℤ) → a ≼ b → numbers (to a b) ≡ a ∷ numbers (to (suc_ℤ a) b)
unfolding numbers counting
numbers-some a b h = by (clamp (suc_ℤ b -ℤ a)) (clamp (suc_ℤ b -ℤ suc_ℤ a)) (omega (arith, clamp-gap a (suc_ℤ b), clamp-gap (suc_ℤ a) (suc_ℤ b), of-suc a, of-suc b))
  where
    by : (n m : ℕ) → n ≡ suc m → counting a n ≡ a ∷ counting (suc_ℤ a) m
    by n m e = ap (counting a) e

-- ---- the settings from one on

-- those that begin with a number of the window
abbrev heads : List Window → Window → List (List ℤ)
heads ws w = each (λ v. map (λ s. v ∷ s) (settings ws)) (numbers w)

-- the settings from s on
unfoldable pub from : List Window → List ℤ → List (List ℤ)
from [] s = [] ∷ []
from (w ∷ ws) [] = []
from (w ∷ ws) (v ∷ s) = map (λ u. v ∷ u) (from ws s) ++ heads ws (to (suc_ℤ v) w.high)

-- s has a number of each window
abbrev pub Lies : List Window → List ℤ → Type 0
Lies [] [] = Unit {0}
Lies [] (v ∷ s) = ⊥
Lies (w ∷ ws) [] = ⊥
Lies (w ∷ ws) (v ∷ s) = T (le_z w.low v) × T (le_z v w.high) × Lies ws s

and_left : (a b : Bool) → T (a && b) → T a
and_left true b t = tt
and_left false b t = t

and_right : (a b : Bool) → T (a && b) → T b
and_right true b t = t
and_right false b t = absurd t

and_both : (a b : Bool) → T a → T b → T (a && b)
and_both true b t u = u
and_both false b t u = absurd t

-- where a window is empty there is no setting
each_none : (ws : List Window) (xs : List ℤ) → settings ws ≡ [] → each (λ v. map (λ s. v ∷ s) (settings ws)) xs ≡ []
unfolding each
each_none ws [] e = refl
each_none ws (x ∷ xs) e = ap (λ l. map (λ s. x ∷ s) l ++ each (λ v. map (λ s. v ∷ s) (settings ws)) xs) e ∙ each_none ws xs e

none-at : (b : Bool) (w : Window) (ws : List Window) → (T (not b) → w.high ≺ w.low) → (T (not (filled ws)) → settings ws ≡ []) → T (not (b && filled ws)) → heads ws w ≡ []
unfolding each
none-at true w ws h g t = each_none ws (numbers w) (g t)
none-at false w ws h g t = ap (each (λ v. map (λ s. v ∷ s) (settings ws))) (numbers-none w.low w.high (h tt))

pub no-setting : (ws : List Window) → T (not (filled ws)) → settings ws ≡ []
unfolding filled settings
no-setting [] t = absurd t
no-setting (w ∷ ws) t = none-at (le_z w.low w.high) w ws (nle_z→ w.low w.high) (no-setting ws) t

-- the settings that begin with a number of a window that has one
heads-some : (ws : List Window) (a b : ℤ) → a ≼ b → heads ws (to a b) ≡ map (λ s. a ∷ s) (settings ws) ++ heads ws (to (suc_ℤ a) b)
unfolding each
heads-some ws a b h = ap (each (λ v. map (λ s. v ∷ s) (settings ws))) (numbers-some a b h)

heads-none : (ws : List Window) (a b : ℤ) → b ≺ a → heads ws (to a b) ≡ []
unfolding each
heads-none ws a b h = ap (each (λ v. map (λ s. v ∷ s) (settings ws))) (numbers-none a b h)

-- the first setting is the lowest
pub from_lowest : (ws : List Window) → T (filled ws) → settings ws ≡ from ws (lowest ws)
unfolding settings from lowest filled
from_lowest [] t = refl
from_lowest (w ∷ ws) t =
    heads-some ws w.low w.high (le_z→ w.low w.high (and_left (le_z w.low w.high) (filled ws) t))
    ∙ ap (λ l. map (λ s. w.low ∷ s) l ++ heads ws (to (suc_ℤ w.low) w.high)) (from_lowest ws (and_right (le_z w.low w.high) (filled ws) t))

-- what comes from the next setting on
abbrev pub onward : List Window → Option (List ℤ) → List (List ℤ)
onward ws none = []
onward ws (some s) = from ws s

next-at : (w : Window) (ws : List Window) (v : ℤ) (x : Option (List ℤ)) (b : Bool) → T (filled ws) → (T b → v ≺ w.high) → (T (not b) → w.high ≼ v)
    → map (λ s. v ∷ s) (onward ws x) ++ heads ws (to (suc_ℤ v) w.high)
    ≡ onward (w ∷ ws) (carried b ws v x)
unfolding from
next-at w ws v (some s) b f h k = refl
next-at w ws v none true f h k =
    heads-some ws (suc_ℤ v) w.high (omega (arith, h tt, of-suc v)) ∙ ap (λ l. map (λ s. suc_ℤ v ∷ s) l ++ heads ws (to (suc_ℤ (suc_ℤ v)) w.high)) (from_lowest ws f)
next-at w ws v none false f h k = heads-none ws (suc_ℤ v) w.high (omega (arith, k tt, of-suc v))

lies-filled : (ws : List Window) (s : List ℤ) → Lies ws s → T (filled ws)
unfolding filled
lies-filled [] [] h = tt
lies-filled [] (v ∷ s) h = absurd h
lies-filled (w ∷ ws) [] h = absurd h
lies-filled (w ∷ ws) (v ∷ s) h = and_both (le_z w.low w.high) (filled ws) (→leZ w.low w.high (omega (arith, le_z→ w.low v h.0, le_z→ v w.high h.1))) (lies-filled ws s h.2)

-- from each setting on: that one, and then those from the next one on
pub from_next : (ws : List Window) (s : List ℤ) → Lies ws s → from ws s ≡ s ∷ onward ws (after ws s)
unfolding from after
from_next [] [] h = refl
from_next [] (v ∷ s) h = absurd h
from_next (w ∷ ws) [] h = absurd h
from_next (w ∷ ws) (v ∷ s) h =
    ap (λ l. map (λ u. v ∷ u) l ++ heads ws (to (suc_ℤ v) w.high)) (from_next ws s h.2)
    ∙ ap (λ l. (v ∷ s) ∷ l) (next-at w ws v (after ws s) (lt_z v w.high) (lies-filled ws s h.2) (lt_z→ v w.high) (nlt_z→ v w.high))

-- ---- each setting has a number of each window

pub lies-lowest : (ws : List Window) → T (filled ws) → Lies ws (lowest ws)
unfolding lowest filled
lies-lowest [] t = tt
lies-lowest (w ∷ ws) t = (→leZ w.low w.low (omega arith), and_left (le_z w.low w.high) (filled ws) t, lies-lowest ws (and_right (le_z w.low w.high) (filled ws) t))

abbrev pub LiesNext : List Window → Option (List ℤ) → Type 0
LiesNext ws none = Unit {0}
LiesNext ws (some s) = Lies ws s

lies_at : (w : Window) (ws : List Window) (v : ℤ) (x : Option (List ℤ)) (b : Bool) → T (filled ws) → T (le_z w.low v) → T (le_z v w.high) → (T b → v ≺ w.high) → LiesNext ws x
    → LiesNext (w ∷ ws) (carried b ws v x)
lies_at w ws v (some s) b f l u h g = (l, u, g)
lies_at w ws v none true f l u h g =
    (→leZ w.low (suc_ℤ v) (omega (arith, le_z→ w.low v l, of-suc v)), →leZ (suc_ℤ v) w.high (omega (arith, h tt, of-suc v)), lies-lowest ws f)
lies_at w ws v none false f l u h g = tt

pub lies-after : (ws : List Window) (s : List ℤ) → Lies ws s → LiesNext ws (after ws s)
unfolding after
lies-after [] [] h = tt
lies-after [] (v ∷ s) h = absurd h
lies-after (w ∷ ws) [] h = absurd h
lies-after (w ∷ ws) (v ∷ s) h = lies_at w ws v (after ws s) (lt_z v w.high) (lies-filled ws s h.2) h.0 h.1 (lt_z→ v w.high) (lies-after ws s h.2)

-- ---- the next setting, found from the end

-- each value is at its window's high end
abbrev pub AtHigh : List Window → List ℤ → Type 0
AtHigh [] [] = Unit {0}
AtHigh [] (v ∷ s) = ⊥
AtHigh (w ∷ ws) [] = ⊥
AtHigh (w ∷ ws) (v ∷ s) = T (not (lt_z v w.high)) × AtHigh ws s

carried-false : (o : Bool) (ws : List Window) (v : ℤ) → T (not o) → carried o ws v none ≡ none
carried-false true ws v t = absurd t
carried-false false ws v t = refl

carried-true : (o : Bool) (ws : List Window) (v : ℤ) → T o → carried o ws v none ≡ some (suc_ℤ v ∷ lowest ws)
carried-true true ws v t = refl
carried-true false ws v t = absurd t

-- where all are, this was the last setting
pub after_last : (ws : List Window) (s : List ℤ) → AtHigh ws s → after ws s ≡ none
unfolding after
after_last [] s h = refl
after_last (w ∷ ws) [] h = refl
after_last (w ∷ ws) (v ∷ s) h = ap (carried (lt_z v w.high) ws v) (after_last ws s h.1) ∙ carried-false (lt_z v w.high) ws v h.0

-- otherwise the last value that is not goes up by one, and those behind it start anew
pub after-up : (us : List Window) (r : List ℤ) → length us ≡ length r → (w : Window) (ws : List Window) (v : ℤ) (s : List ℤ) → T (lt_z v w.high) → AtHigh ws s
    → after (us ++ w ∷ ws) (r ++ v ∷ s) ≡ some (r ++ suc_ℤ v ∷ lowest ws)
unfolding after
after-up [] [] e w ws v s l h = ap (carried (lt_z v w.high) ws v) (after_last ws s h) ∙ carried-true (lt_z v w.high) ws v l
after-up [] (x ∷ r) e w ws v s l h = absurd (omega arith)
after-up (u ∷ us) [] e w ws v s l h = absurd (omega arith)
after-up (u ∷ us) (x ∷ r) e w ws v s l h = ap (carried (lt_z x u.high) (us ++ w ∷ ws) x) (after-up us r (omega arith) w ws v s l h)
