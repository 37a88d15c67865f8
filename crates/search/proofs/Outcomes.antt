-- The outcomes in memory, and the newest true one taken back.
use Rattle.std.specs.Prelude.{Some, None}
use Prim.Native.Nat.{ℕ, zero, suc, ◌+◌, ◌-◌, ◌≤◌, ◌<◌}
use native.Mathlib.Nat.{eq-or-lt_of_le}
use native.Mathlib.Omega.{arith}
use mathlib.Core.Path.{◌≡◌, refl, sym, ap, ap₂, ◌∙◌, subst}
use mathlib.Core.Bool.{Bool, true, false}
use mathlib.Core.Logic.{⊎_elim}
use mathlib.Core.List.{List, [], ◌∷◌, ◌++◌}
use mathlib.Core.Option.{some}
use lib.ListN.{length, get_or, set}
use lib.Seq.{get_or-set_same, get_or-set_other}
use Rattle.simulation.specs.Lister.{next}
use Rattle.simulation.proofs.Back.{AllFalse, next-none, next-newest}
use Rattle.machine.specs.Layout.{outcome_place, words_for}
use Rattle.machine.specs.Memory.{outcome_as, outcomes_in}
use Rattle.search.specs.Loop.{NewestBack}

-- the word of choice j
abbrev pub at : ℕ → ℕ
at j = outcome_place j

-- the choices from i on, of n, went false
abbrev pub FalseFrom : List ℕ → ℕ → ℕ → Type 0
FalseFrom m i n = (j : ℕ) → i ≤ j → j < n → get_or m (at j) 0 ≡ 0

pub false-more : (m : List ℕ) (i n : ℕ) → get_or m (at (i - 1)) 0 ≡ 0 → FalseFrom m i n → FalseFrom m (i - 1) n
false-more m i n e f j l u = ⊎_elim
    (λ q. subst (λ (k : ℕ). get_or m (at k) 0 ≡ 0) {x = i - 1} {y = j} q e)
    (λ g. f j (omega arith) u)
    (eq-or-lt_of_le {n = i - 1} {m = j} l)

-- outcomes that are false
false-as : (x : ℕ) (l : List Bool) → x ≡ 0 → AllFalse l → AllFalse (outcome_as x ∷ l)
false-as zero l e f = f
false-as (suc x) l e f = absurd (omega (arith, e))

all-false : (m : List ℕ) (i k : ℕ) → FalseFrom m i (i + k) → AllFalse (outcomes_in m i k)
unfolding outcomes_in
all-false m i zero f = tt
all-false m i (suc k) f = false-as (get_or m (at i) 0) (outcomes_in m (suc i) k) (f i (omega arith) (omega arith)) (all-false m (suc i) k (λ j l u. f j (omega arith) (omega arith)))

true-as : (x : ℕ) → (x ≡ 0 → ⊥) → outcome_as x ≡ true
true-as zero f = absurd (f refl)
true-as (suc x) f = refl

-- the outcomes up to choice k, that one, and those after it
split : (m : List ℕ) (i k n : ℕ) → outcomes_in m i (k + suc n) ≡ outcomes_in m i k ++ outcome_as (get_or m (at (i + k)) 0) ∷ outcomes_in m (suc (i + k)) n
unfolding outcomes_in
split m i zero n =
    ap (outcomes_in m i) {x = 0 + suc n} {y = suc n} (omega arith)
    ∙ ap (λ (a : ℕ). outcome_as (get_or m (at a) 0) ∷ outcomes_in m (suc a) n) {x = i} {y = i + 0} (omega arith)
split m i (suc k) n =
    ap (outcomes_in m i) {x = suc k + suc n} {y = suc (k + suc n)} (omega arith)
    ∙ ap (λ (l : List Bool). outcome_as (get_or m (at i) 0) ∷ l)
    (split m (suc i) k n ∙ ap (λ (a : ℕ). outcomes_in m (suc i) k ++ outcome_as (get_or m (at a) 0) ∷ outcomes_in m (suc a) n) {x = suc i + k} {y = i + suc k} (omega arith))

split₀ : (m : List ℕ) (k n : ℕ) → outcomes_in m 0 (k + suc n) ≡ outcomes_in m 0 k ++ outcome_as (get_or m (at k) 0) ∷ outcomes_in m (suc k) n
split₀ m k n = split m 0 k n ∙ ap (λ (a : ℕ). outcomes_in m 0 k ++ outcome_as (get_or m (at a) 0) ∷ outcomes_in m (suc a) n) {x = 0 + k} {y = k} (omega arith)

pub kept : (m m' : List ℕ) (i k : ℕ) → ((j : ℕ) → i ≤ j → j < i + k → get_or m' (at j) 0 ≡ get_or m (at j) 0) → outcomes_in m' i k ≡ outcomes_in m i k
unfolding outcomes_in
kept m m' i zero f = refl
kept m m' i (suc k) f = ap₂ (λ (x : ℕ) (l : List Bool). outcome_as x ∷ l) (f i (omega arith) (omega arith)) (kept m m' (suc i) k (λ j l u. f j (omega arith) (omega arith)))

-- ---- what taking back does

pub none_left : (m : List ℕ) (n : ℕ) → FalseFrom m 0 n → NewestBack m m n None
none_left m n f = record { is = sym (next-none (outcomes_in m 0 n) (all-false m 0 n (λ j l u. f j l (omega arith)))); flips = refl }

module _ (m : List ℕ) (n k : ℕ) (inside : k < n) (room : words_for n ≤ length m) (was : get_or m (at k) 0 ≡ 0 → ⊥) (after : FalseFrom m (suc k) n) where
  abbrev back : List ℕ
  back = set m (at k) 0

  before : outcomes_in m 0 n ≡ outcomes_in m 0 k ++ true ∷ outcomes_in m (suc k) (n - suc k)
  before =
      ap (outcomes_in m 0) {x = n} {y = k + suc (n - suc k)} (omega arith)
      ∙ split₀ m k (n - suc k)
      ∙ ap (λ (o : Bool). outcomes_in m 0 k ++ o ∷ outcomes_in m (suc k) (n - suc k)) (true-as (get_or m (at k) 0) was)

  now : outcomes_in back 0 (k + 1) ≡ outcomes_in m 0 k ++ false ∷ []
  unfolding outcomes_in
  now =
      split₀ back k 0
      ∙ ap₂ (λ (l : List Bool) (x : ℕ). l ++ outcome_as x ∷ [])
      (kept m back 0 k (λ j l u. get_or-set_other m (at k) (at j) 0 0 (λ e. omega (arith, e))))
      (get_or-set_same m (at k) 0 0 (omega (arith, room)))

  pub newest : NewestBack m back n (Some (k + 1))
  newest = record {
    is = ap some now ∙ sym (ap next before ∙ next-newest (outcomes_in m 0 k) (outcomes_in m (suc k) (n - suc k)) (all-false m (suc k) (n - suc k) (λ j l u. after j l (omega arith))));
    flips = record { some = omega arith; most = omega arith; other = λ i h. get_or-set_other m (at k) i 0 0 (λ e. h (e ∙ ap at {x = k} {y = k + 1 - 1} (omega arith))) };
  }
