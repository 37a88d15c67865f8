-- The grounds for a refusal, one after another.
use Prim.Native.Nat.{ℕ, ◌≤◌, ◌<◌}
use mathlib.Core.Path.{◌≡◌, refl, sym, ap, ◌∙◌}
use mathlib.Core.Bool.{Bool, true, false, cond, ◌||◌}
use Rattle.std.specs.Prelude.{Option, None, Some}
use lib.ListN.{length}
use lib.Dec.{ltb, eqb}
use lib.IntN.{ℤ}
use lib.Signed.{lt_z}
use borrow.Author.Tests.{lt-ltb, le-ltb, eq-eqb, ne_eqb}
use Rattle.semantics.specs.Run.{numbers}
use Rattle.semantics.specs.Search.{to}
use Rattle.list.specs.List.{ground}

abbrev first : (scratch window values none steps : Bool) → Option ℕ
first a b c d e = cond a (Some 11) (cond b (Some 12) (cond c (Some 13) (cond (d || e) (Some 14) None)))

module _ (words : ℕ) (low high : ℤ) (steps : ℕ) where
  by : {a b c d e : Bool} → ltb words 16384 ≡ a → lt_z high low ≡ b → ltb 4096 (length (numbers (to low high))) ≡ c → eqb steps 0 ≡ d → ltb 1000 steps ≡ e → first a b c d e ≡ ground words low high steps
  unfolding ground
  by {a} {b} {c} {d} {e} f g h i j =
      sym (ap (λ (x : Bool). first x (lt_z high low) (ltb 4096 (length (numbers (to low high)))) (eqb steps 0) (ltb 1000 steps)) f
      ∙ ap (λ (x : Bool). first a x (ltb 4096 (length (numbers (to low high)))) (eqb steps 0) (ltb 1000 steps)) g
      ∙ ap (λ (x : Bool). first a b x (eqb steps 0) (ltb 1000 steps)) h
      ∙ ap (λ (x : Bool). first a b c x (ltb 1000 steps)) i
      ∙ ap (first a b c d) j)

  pub ground-scratch : words < 16384 → Some 11 ≡ ground words low high steps
  ground-scratch u = by (lt-ltb words 16384 u) refl refl refl refl

  pub ground-window : 16384 ≤ words → lt_z high low ≡ true → Some 12 ≡ ground words low high steps
  ground-window u g = by (le-ltb words 16384 u) g refl refl refl

  module _ (u : 16384 ≤ words) (g : lt_z high low ≡ false) where
    pub ground-values : ltb 4096 (length (numbers (to low high))) ≡ true → Some 13 ≡ ground words low high steps
    ground-values h = by (le-ltb words 16384 u) g h refl refl

    module _ (h : ltb 4096 (length (numbers (to low high))) ≡ false) where
      pub ground-no-steps : steps ≡ 0 → Some 14 ≡ ground words low high steps
      ground-no-steps i = by (le-ltb words 16384 u) g h (eq-eqb steps 0 i) refl

      pub ground-steps : (steps ≡ 0 → ⊥) → 1000 < steps → Some 14 ≡ ground words low high steps
      ground-steps i j = by (le-ltb words 16384 u) g h (ne_eqb steps 0 i) (lt-ltb 1000 steps j)

      pub ground-none : (steps ≡ 0 → ⊥) → steps ≤ 1000 → None ≡ ground words low high steps
      ground-none i j = by (le-ltb words 16384 u) g h (ne_eqb steps 0 i) (le-ltb 1000 steps j)
