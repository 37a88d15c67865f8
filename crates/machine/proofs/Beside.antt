-- What stands beside the machine stays when an entry is worked: windows, the pairs that they started as, ranges, numbers, tests and outcomes.
use mathlib.Core.Path.{◌≡◌, refl, ap, ap₂}
use mathlib.Core.List.{List, [], ◌∷◌}
use Prim.Native.Nat.{ℕ, zero, suc, ◌+◌, ◌*◌, ◌≤◌}
use native.Mathlib.Omega.{arith}
use lib.ListN.{take}
use mir.Syntax.{w32}
use mir.Val.{to_z}
use Rattle.intervals.specs.Meaning.{of_pairs}
use Rattle.window_memory.specs.Memory.{pairs_at}
use Rattle.machine.specs.Layout.{windows_place, starts_place, tables_place, range_low, range_high, test_place, test_left, test_right, outcome_place}
use Rattle.machine.specs.Memory.{windows_in, starts_in, ranges_in, tests_in, outcome_as, outcomes_in}
use Rattle.machine.specs.Terms.{Kept}

module _ {m m' : List ℕ} {n : ℕ} (s : Kept m m' n) where
  pairs-kept : (k i : ℕ) → windows_place ≤ k → k + 2 * i ≤ tables_place → pairs_at m' k i ≡ pairs_at m k i
  unfolding pairs_at
  pairs-kept k zero a b = refl
  pairs-kept k (suc i) a b =
      ap₂ (λ p l. p ∷ l) (ap₂ (λ x y. to_z w32 x ∷ to_z w32 y ∷ []) (s.fixed k a (omega arith)) (s.fixed (k + 1) (omega arith) (omega arith))) (pairs-kept (k + 2) i (omega arith) (omega arith))

  pub windows-kept : (i : ℕ) → windows_in m' i ≡ windows_in m i
  windows-kept i = ap (λ l. take i (of_pairs l)) (pairs-kept windows_place 8 (omega arith) (omega arith))

  pub starts-kept : (i : ℕ) → starts_in m' i ≡ starts_in m i
  starts-kept i = ap (λ l. take i (of_pairs l)) (pairs-kept starts_place 8 (omega arith) (omega arith))

  pub ranges-kept : (i : ℕ) → ranges_in m' i ≡ ranges_in m i
  unfolding ranges_in
  ranges-kept zero = refl
  ranges-kept (suc i) = rw (ranges-kept i, s.tables (range_low i) i (omega arith) (omega arith), s.tables (range_high i) i (omega arith) (omega arith))

  pub tests-kept : (i : ℕ) → tests_in m' i ≡ tests_in m i
  unfolding tests_in
  tests-kept zero = refl
  tests-kept (suc i) = rw (
    tests-kept i,
    s.tables (test_place i) i (omega arith) (omega arith),
    s.tables (test_left i) i (omega arith) (omega arith),
    s.tables (test_right i) i (omega arith) (omega arith),
  )

  pub outcomes-kept : (i k : ℕ) → outcomes_in m' i k ≡ outcomes_in m i k
  unfolding outcomes_in
  outcomes-kept i zero = refl
  outcomes-kept i (suc k) = ap₂ (λ x l. outcome_as x ∷ l) (s.tables (outcome_place i) i (omega arith) (omega arith)) (outcomes-kept (suc i) k)
