-- The row of a setting that meets the tests.
use Rattle.std.specs.Prelude.{Result}
use mathlib.Core.Path.{◌≡◌, ap₂, ◌∙◌, subst}
use mathlib.Core.List.{List}
use Prim.Native.Nat.{ℕ, ◌≤◌}
use lib.IntN.{ℤ}
use Rattle.semantics.specs.Search.{under}
use Rattle.simulation.specs.Nodes.{Cell, Node, meaning, number_in}
use Rattle.simulation.specs.Lister as lister
use Rattle.machine.specs.Memory.{nodes_in, setting_in, numbers_in}
use Rattle.settings.specs.Table.{Worked, Renumbered}
use Rattle.settings.specs.Rows.{row_with}
use Rattle.settings.specs.Tries.{tally_of, Placing}
use Rattle.settings.specs.declared.Tally.{Tally}
use Rattle.settings.specs.declared.Stopped.{Stopped}
use Rattle.settings.proofs.Renumbered.{setting-stays, nodes-renumbered, result-is}

module _ (m m₁ : List ℕ) (n k : ℕ) (v : Cell) (few : k ≤ 8) (w : Worked m₁ n k) (r : Renumbered m m₁) where
  under-is : under (setting_in m₁ k) (meaning (nodes_in m₁ n) v) ≡ under (setting_in m k) (meaning (nodes_in m n) v)
  under-is = ap₂ (λ (s : List ℤ) (ns : List Node). under s (meaning ns v)) (setting-stays m m₁ k few r) (nodes-renumbered m m₁ r n)

  pub placed-as : (rows rows' : List ℤ) (t : Tally) (x : Result Tally Stopped) (z : ℤ) → z ≡ number_in (numbers_in m₁ n) v → Placing rows rows' t (lister.place (row_with z (setting_in m₁ k)) (tally_of rows t)) x
      → Placing rows rows' t (lister.place (row_with (under (setting_in m k) (meaning (nodes_in m n) v)) (setting_in m k)) (tally_of rows t)) x
  placed-as rows rows' t x z e p = subst (λ (y : ℤ). Placing rows rows' t (lister.place (row_with y (setting_in m k)) (tally_of rows t)) x) (e ∙ result-is m₁ n k w v ∙ under-is)
      (subst (λ (s : List ℤ). Placing rows rows' t (lister.place (row_with z s) (tally_of rows t)) x) (setting-stays m m₁ k few r) p)
