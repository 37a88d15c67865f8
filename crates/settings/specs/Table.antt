-- What trying a setting reads and writes in the memory: windows, setting, and the nodes' numbers.
use Rattle.std.specs.Prelude.{◌≡◌, Bool, true, false, List, ℕ, ◌+◌, ◌≤◌, ◌<◌, get_or, ℤ, pos}
use Rattle.std.proofs.Math.Option.{Option, none, some}
use Rattle.std.specs.Int.{w32}
use Rattle.std.proofs.Common.{to_z}
use Rattle.semantics.specs.Int.{arith, holds}
use Rattle.semantics.specs.Program.{Window}
use Rattle.semantics.specs.Search.{to}
use Rattle.simulation.specs.Nodes.{Noted, node, number_in}
use Rattle.simulation.specs.Odometer.{lowest, after}
use Rattle.machine.specs.Layout.{window_low, window_high, setting_place, value_place, setting_end, number_place}
use Rattle.machine.specs.Memory.{node_at, windows_in, setting_in, numbers_in, test_at}
use Rattle.machine.specs.Terms.{Room, Other}

-- ---- single entries

-- the window of free variable i, and its number under the present setting
abbrev pub window_at : List ℕ → ℕ → Window
window_at m i = to (to_z w32 (get_or m (window_low i) 0)) (to_z w32 (get_or m (window_high i) 0))

abbrev pub value_at : List ℕ → ℕ → ℤ
value_at m i = to_z w32 (get_or m (value_place i) 0)

-- the number of node j under the setting of k free variables, from the numbers of those before it
abbrev pub number_at : List ℕ → ℕ → ℕ → ℤ
number_at m k j = node (λ z. z) (λ i. get_or (setting_in m k) i (pos 0)) arith (numbers_in m j) (node_at m j)

-- whether a test holds, from the numbers of n nodes; and test j
abbrev pub holds_by : List ℕ → ℕ → Noted → Bool
holds_by m n t = holds t.compare (number_in (numbers_in m n) t.left) (number_in (numbers_in m n) t.right)

abbrev pub holds_at : List ℕ → ℕ → ℕ → Bool
holds_at m n j = holds_by m n (test_at m j)

-- ---- what is written

-- word i became the bits of z, and no other word changed
pub record Wrote (m m' : List ℕ) (i : ℕ) (z : ℤ) : Type 0 where
  pub other : Other m m' i (i + 1)
  pub is : to_z w32 (get_or m' i 0) ≡ z

-- the first n nodes have their numbers under the setting of k free variables: each the one that those before it give
pub record Worked (m : List ℕ) (n k : ℕ) : Type 0 where
  pub right : (j : ℕ) → j < n → to_z w32 (get_or m (number_place j) 0) ≡ number_at m k j

-- the free variables from i on, of k, start anew, each at its window's low end, and no other word changed
pub record Anew (m m' : List ℕ) (i k : ℕ) : Type 0 where
  pub other : Other m m' (value_place i) (value_place k)
  pub low : (j : ℕ) → i ≤ j → j < k → value_at m' j ≡ (window_at m j).low

-- the setting is the first one of k free variables, and no other word changed
pub record First (m m' : List ℕ) (k : ℕ) : Type 0 where
  pub other : Other m m' setting_place (value_place k)
  pub is : setting_in m' k ≡ lowest (windows_in m k)

-- there is a next setting, or none
abbrev pub next_as : Bool → List ℤ → Option (List ℤ)
next_as true s = some s
next_as false s = none

-- the setting is the next one of k free variables, if there is one, and no other word changed
pub record Follows (m m' : List ℕ) (k : ℕ) (more : Bool) : Type 0 where
  pub other : Other m m' setting_place (value_place k)
  pub is : after (windows_in m k) (setting_in m k) ≡ next_as more (setting_in m' k)

-- only the nodes' numbers may have changed
pub record Renumbered (m m' : List ℕ) : Type 0 where
  pub other : (i : ℕ) → ((j : ℕ) → i ≡ number_place j → ⊥) → get_or m' i 0 ≡ get_or m i 0

-- only the setting and the nodes' numbers may have changed
pub record Steady (m m' : List ℕ) : Type 0 where
  pub other : (i : ℕ) → (setting_place ≤ i → i < setting_end → ⊥) → ((j : ℕ) → i ≡ number_place j → ⊥) → get_or m' i 0 ≡ get_or m i 0

-- ---- what must hold

-- a memory that has room for n nodes and t tests; at most eight variables are free
pub record Holding (m : List ℕ) (n t k : ℕ) : Type 0 where
  pub few : k ≤ 8
  pub nodes : Room m n
  pub tests : Room m t
