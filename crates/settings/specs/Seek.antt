-- From setting to setting, until one meets the tests.
use Rattle.std.specs.Prelude.{◌≡◌, Bool, true, false, List, ℕ, zero, suc, ◌+◌, ◌-◌, ◌≤◌, ◌<◌, T, ℤ}
use Rattle.std.proofs.Math.Option.{none, some}
use Rattle.std.specs.Int.Signed.{lt_z}
use Rattle.semantics.specs.Program.{Window}
use Rattle.semantics.specs.Search.{Test, meets}
use Rattle.simulation.specs.Odometer.{after}
use Rattle.machine.specs.Memory.{windows_in, setting_in}
use Rattle.machine.specs.Terms.{Room}
use Rattle.settings.specs.Table.{window_at, value_at, Worked, Steady}
use Rattle.settings.specs.Plan.{Apart}
use Rattle.settings.specs.Tries.{tests}
use Rattle.settings.specs.declared.Swept.{Swept}
use Rattle.settings.specs.declared.Swept.TheVariants.{Here, Top, Short}
use Rattle.settings.specs.declared.Sought.{Sought}
use Rattle.settings.specs.declared.Sought.TheVariants.{Met, Over, Out}

-- ---- one setting further

-- if so, there is a last of k free variables, and it can go up
pub record CanRise (m : List ℕ) (k : ℕ) (r : Bool) : Type 0 where
  pub some : r ≡ true → 0 < k
  pub below : r ≡ true → T (lt_z (value_at m (k - 1)) (window_at m (k - 1)).high)

-- the last of k free variables can go up, and the nodes before `first` have their numbers
pub record Rising (m : List ℕ) (a first k : ℕ) : Type 0 where
  pub some : 0 < k
  pub few : k ≤ 8
  pub room : Room m first
  pub below : T (lt_z (value_at m (k - 1)) (window_at m (k - 1)).high)
  pub apart : Apart m (k - 1) a first
  pub worked : Worked m first k

-- the setting is the next one, and the nodes before `first` have their numbers under it
pub record Rose (m m' : List ℕ) (first k : ℕ) : Type 0 where
  pub is : after (windows_in m k) (setting_in m k) ≡ some (setting_in m' k)
  pub worked : Worked m' first k
  pub steady : Steady m m'

-- ---- to one that meets the tests

-- j settings from s on do not meet the tests, and s' comes after them
pub data Missed (ws : List Window) (ts : List Test) (s : List ℤ) : ℕ → List ℤ → Type 0 where
  none_yet : Missed ws ts s zero s
  one_more : {j : ℕ} {s₁ s₂ : List ℤ} → Missed ws ts s j s₁ → meets ts s₁ ≡ false → after ws s₁ ≡ some s₂ → Missed ws ts s (suc j) s₂

-- the settings from s on, with so many moves at the most: the present one of m, with n nodes worked, meets the tests; or it does not, and those before it do not
pub data Sweeps (ws : List Window) (ts : List Test) (s : List ℤ) (most : ℕ) (m : List ℕ) (n k : ℕ) : Swept → Type 0 where
  here : {j left : ℕ} → Missed ws ts s j (setting_in m k) → j + left ≡ most → 0 < left → meets ts (setting_in m k) ≡ true → Worked m n k → Sweeps ws ts s most m n k (Here left)
  top : {j left : ℕ} → Missed ws ts s j (setting_in m k) → suc j + left ≡ most → meets ts (setting_in m k) ≡ false → Sweeps ws ts s most m n k (Top left)
  short : {s₁ : List ℤ} → Missed ws ts s most s₁ → Sweeps ws ts s most m n k Short

abbrev pub Sweeping : List ℕ → List ℕ → ℕ → ℕ → ℕ → ℕ → Swept → Type 0
Sweeping m m' n c k most r = Sweeps (windows_in m k) (tests m n c) (setting_in m k) most m' n k r

-- the settings from s on, with so many moves at the most; the present one of m, with n nodes worked, if it meets the tests
pub data Seeks (ws : List Window) (ts : List Test) (s : List ℤ) (most : ℕ) (m : List ℕ) (n k : ℕ) : Sought → Type 0 where
  met : {j left : ℕ} → Missed ws ts s j (setting_in m k) → j + left ≡ most → 0 < left → meets ts (setting_in m k) ≡ true → Worked m n k → Seeks ws ts s most m n k (Met left)
  over : {j left : ℕ} {s₁ : List ℤ} → Missed ws ts s j s₁ → suc j + left ≡ most → meets ts s₁ ≡ false → after ws s₁ ≡ none → Seeks ws ts s most m n k (Over left)
  out : {s₁ : List ℤ} → Missed ws ts s most s₁ → Seeks ws ts s most m n k Out

abbrev pub Seeking : List ℕ → List ℕ → ℕ → ℕ → ℕ → ℕ → Sought → Type 0
Seeking m m' n c k most r = Seeks (windows_in m k) (tests m n c) (setting_in m k) most m' n k r
