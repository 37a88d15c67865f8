-- The first setting and the next one, as they stand in memory.
use mathlib.Core.Path.{◌≡◌, refl, sym, ap, ap₂, ◌∙◌, subst}
use mathlib.Core.Bool.{Bool, true, false, not, ◌&&◌}
use mathlib.Core.Option.{some}
use mathlib.Core.List.{List, [], ◌∷◌, ◌++◌}
use mathlib.Core.Logic.{⊎_elim}
use Prim.Native.Nat.{ℕ, zero, suc, ◌+◌, ◌-◌, ◌≤◌, ◌<◌}
use native.Mathlib.Nat.{eq-or-lt_of_le}
use native.Mathlib.Numerals.{add-one}
use native.Mathlib.Omega.{arith}
use lib.Dec.{T}
use lib.ListN.{length, get_or, take}
use lib.IntN.{ℤ, suc_ℤ}
use lib.Signed.{lt_z, le_z}
use mir.Syntax.{w32}
use mir.Val.{to_z}
use Rattle.semantics.specs.Program.{Window}
use Rattle.semantics.specs.Search.{to}
use Rattle.simulation.specs.Odometer.{filled, lowest, after}
use Rattle.simulation.proofs.Odometer.{AtHigh, after_last, after-up}
use Rattle.intervals.specs.Meaning.{of_pairs}
use Rattle.window_memory.specs.Memory.{pairs_at}
use Rattle.machine.specs.Layout.{window_low, window_high, value_place}
use Rattle.machine.specs.Memory.{windows_in, setting_in}
use Rattle.settings.specs.Table.{window_at, value_at, Wrote, Anew, First, Follows}
use Rattle.settings.proofs.Entries.{up_to, setting-is}

-- ---- d entries from place i on

module _ {A : Type 0} (f : ℕ → A) where
  unfoldable pub tab : ℕ → ℕ → List A
  tab i zero = []
  tab i (suc d) = f i ∷ tab (suc i) d

  pub tab-length : (i d : ℕ) → length (tab i d) ≡ d
  unfolding tab
  tab-length i zero = refl
  tab-length i (suc d) = ap suc (tab-length (suc i) d)

  tab-split : (i n a d : ℕ) → n ≡ a + d → tab i n ≡ tab i a ++ tab (i + a) d
  unfolding tab
  tab-split i n zero d e = ap (λ (j : ℕ). tab j n) {x = i} {y = i + 0} (omega arith) ∙ ap (tab (i + 0)) {x = n} {y = d} (omega arith)
  tab-split i zero (suc a) d e = absurd (omega arith)
  tab-split i (suc n) (suc a) d e = ap (λ (l : List A). f i ∷ l) (tab-split (suc i) n a d (omega arith))
      ∙ ap (λ (k : ℕ). f i ∷ (tab (suc i) a ++ tab k d)) {x = suc i + a} {y = i + suc a} (omega arith)

  pub tab-at : (k i : ℕ) → i < k → tab 0 k ≡ tab 0 i ++ f i ∷ tab (suc i) (k - suc i)
  unfolding tab
  tab-at k i l = tab-split 0 k i (suc (k - suc i)) (omega arith) ∙ ap (λ (j : ℕ). tab 0 i ++ tab j (suc (k - suc i))) {x = 0 + i} {y = i} (omega arith)

  pub up_to-tab : (n : ℕ) → up_to f n ≡ tab 0 n
  unfolding up_to tab
  up_to-tab zero = refl
  up_to-tab (suc n) =
      ap (λ (l : List A). l ++ f n ∷ []) (up_to-tab n)
      ∙ ap (λ (j : ℕ). tab 0 n ++ tab j 1) {x = n} {y = 0 + n} (omega arith)
      ∙ sym (tab-split 0 (suc n) n 1 (omega arith))

pub tab-same : {A : Type 0} (f g : ℕ → A) (i d : ℕ) → ((j : ℕ) → i ≤ j → j < i + d → f j ≡ g j) → tab f i d ≡ tab g i d
unfolding tab
tab-same f g i zero h = refl
tab-same f g i (suc d) h = ap₂ (λ x l. x ∷ l) (h i (omega arith) (omega arith)) (tab-same f g (suc i) d (λ j l u. h j (omega arith) (omega arith)))

-- ---- windows and setting

take-pairs : (m : List ℕ) (i k n : ℕ) → k ≤ n → take k (of_pairs (pairs_at m (window_low i) n)) ≡ tab (window_at m) i k
unfolding pairs_at tab
take-pairs m i zero n h = refl
take-pairs m i (suc k) zero h = absurd (omega arith)
take-pairs m i (suc k) (suc n) h = ap₂ (λ (w : Window) (ws : List Window). w ∷ ws)
    (ap (λ (j : ℕ). to (to_z w32 (get_or m (window_low i) 0)) (to_z w32 (get_or m j 0))) {x = window_low i + 1} {y = window_high i} (omega arith))
    (ap (λ (j : ℕ). take k (of_pairs (pairs_at m j n))) {x = window_low i + 2} {y = window_low (suc i)} (omega arith) ∙ take-pairs m (suc i) k n (omega arith))

pub windows-tab : (m : List ℕ) (k : ℕ) → k ≤ 8 → windows_in m k ≡ tab (window_at m) 0 k
windows-tab m k h = take-pairs m 0 k 8 h

pub setting-tab : (m : List ℕ) (k : ℕ) → setting_in m k ≡ tab (value_at m) 0 k
setting-tab m k = setting-is m k ∙ up_to-tab (value_at m) k

lowest-tab : (m : List ℕ) (i d : ℕ) → lowest (tab (window_at m) i d) ≡ tab (λ j. (window_at m j).low) i d
unfolding lowest tab
lowest-tab m i zero = refl
lowest-tab m i (suc d) = ap (λ (l : List ℤ). (window_at m i).low ∷ l) (lowest-tab m (suc i) d)

-- ---- whether there is a setting

pub filled-first : (m : List ℕ) (k : ℕ) → k ≤ 8 → filled (windows_in m k) ≡ filled (tab (window_at m) 0 (k - 0))
filled-first m k h = ap filled (windows-tab m k h) ∙ ap (λ (d : ℕ). filled (tab (window_at m) 0 d)) {x = k} {y = k - 0} (omega arith)

pub filled-one : (m : List ℕ) (k i : ℕ) (b : Bool) → i < k → le_z (window_at m i).low (window_at m i).high ≡ b → filled (tab (window_at m) i (k - i))
    ≡ b && filled (tab (window_at m) (i + 1) (k - (i + 1)))
unfolding filled tab
filled-one m k i b l e =
    ap (λ (d : ℕ). filled (tab (window_at m) i d)) {x = k - i} {y = suc (k - (i + 1))} (omega arith)
    ∙ ap₂ (λ (x : Bool) (j : ℕ). x && filled (tab (window_at m) j (k - (i + 1)))) e (sym (add-one i))

pub filled-end : (m : List ℕ) (k i : ℕ) → k ≤ i → filled (tab (window_at m) i (k - i)) ≡ true
unfolding filled tab
filled-end m k i l = ap (λ (d : ℕ). filled (tab (window_at m) i d)) {x = k - i} {y = 0} (omega arith)

-- ---- the first setting

pub first_of : (m m' : List ℕ) (k : ℕ) → k ≤ 8 → Anew m m' 0 k → First m m' k
first_of m m' k h a = record {
  other = record { outside = λ j l. a.other.outside j l };
  is = setting-tab m' k ∙ tab-same (value_at m') (λ j. (window_at m j).low) 0 k (λ j l u. a.low j l (omega arith)) ∙ sym (ap lowest (windows-tab m k h) ∙ lowest-tab m 0 k);
}

-- ---- the next setting

-- free variable i is not below its window's high end
abbrev pub Top : List ℕ → ℕ → Type 0
Top m i = lt_z (value_at m i) (window_at m i).high ≡ false

pub top-more : (m : List ℕ) (i k : ℕ) → Top m (i - 1) → ((j : ℕ) → i ≤ j → j < k → Top m j) → (j : ℕ) → i - 1 ≤ j → j < k → Top m j
top-more m i k t h j l u = ⊎_elim
    (λ e. subst (Top m) {x = i - 1} {y = j} e t)
    (λ g. h j (omega arith) u)
    (eq-or-lt_of_le {n = i - 1} {m = j} l)

pub below_true : {b r : Bool} → r ≡ b → r ≡ true → T b
below_true e t = subst T (sym t ∙ e) tt

not-below : (b : Bool) → b ≡ false → T (not b)
not-below true e = subst (λ (b : Bool). T (not b)) (sym e) tt
not-below false e = tt

at_high : (m : List ℕ) (i d : ℕ) → ((j : ℕ) → i ≤ j → j < i + d → Top m j) → AtHigh (tab (window_at m) i d) (tab (value_at m) i d)
unfolding tab
at_high m i zero h = tt
at_high m i (suc d) h = (not-below _ (h i (omega arith) (omega arith)), at_high m (suc i) d (λ j l u. h j (omega arith) (omega arith)))

pub follows-none : (m : List ℕ) (k : ℕ) → k ≤ 8 → ((j : ℕ) → j < k → Top m j) → Follows m m k false
follows-none m k h g = record {
  other = record { outside = λ j l. refl };
  is = ap₂ after (windows-tab m k h) (setting-tab m k) ∙ after_last (tab (window_at m) 0 k) (tab (value_at m) 0 k) (at_high m 0 k (λ j l u. g j (omega arith)));
}

module _ (m m₁ m₂ : List ℕ) (i k : ℕ) (small : k ≤ 8) (l : i < k) (below : T (lt_z (value_at m i) (window_at m i).high)) (tops : (j : ℕ) → i < j → j < k → Top m j)
    (w : Wrote m m₁ (value_place i) (suc_ℤ (value_at m i))) (a : Anew m₁ m₂ (i + 1) k) where
  before : tab (value_at m₂) 0 i ≡ tab (value_at m) 0 i
  before = tab-same (value_at m₂) (value_at m) 0 i (λ j p q. ap (to_z w32) (a.other.outside (value_place j) (λ x y. omega arith) ∙ w.other.outside (value_place j) (λ x y. omega arith)))

  here : value_at m₂ i ≡ suc_ℤ (value_at m i)
  here = ap (to_z w32) (a.other.outside (value_place i) (λ x y. omega arith)) ∙ w.is

  behind : tab (value_at m₂) (suc i) (k - suc i) ≡ lowest (tab (window_at m) (suc i) (k - suc i))
  behind =
      tab-same (value_at m₂) (λ j. (window_at m j).low) (suc i) (k - suc i)
      (λ j p q. a.low j (omega arith) (omega arith) ∙ ap (to_z w32) (w.other.outside (window_low j) (λ x y. omega arith)))
      ∙ sym (lowest-tab m (suc i) (k - suc i))

  goes : after (windows_in m k) (setting_in m k) ≡ some (setting_in m₂ k)
  goes =
      ap₂ after (windows-tab m k small ∙ tab-at (window_at m) k i l) (setting-tab m k ∙ tab-at (value_at m) k i l)
      ∙ after-up (tab (window_at m) 0 i) (tab (value_at m) 0 i) (tab-length (window_at m) 0 i ∙ sym (tab-length (value_at m) 0 i)) (window_at m i) (tab (window_at m) (suc i) (k - suc i)) (value_at m i)
      (tab (value_at m) (suc i) (k - suc i)) below
      (at_high m (suc i) (k - suc i) (λ j p q. tops j (omega arith) (omega arith)))
      ∙ ap some (sym (setting-tab m₂ k ∙ tab-at (value_at m₂) k i l ∙ ap₂ (λ (x y : List ℤ). x ++ y) before (ap₂ (λ (x : ℤ) (y : List ℤ). x ∷ y) here behind)))

  pub follows-some : Follows m m₂ k true
  follows-some = record {
    other = record { outside = λ j h. a.other.outside j (λ x y. h (omega arith) (omega arith)) ∙ w.other.outside j (λ x y. h (omega arith) (omega arith)) };
    is = goes;
  }
