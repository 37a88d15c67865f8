-- Windows, nodes and ranges in the memory.
use Rattle.std.specs.Prelude.{◌≡◌, List, [], ◌∷◌, ◌++◌, ℕ, ◌+◌, ◌≤◌, ◌<◌, get_or, pos}
use Rattle.semantics.specs.Program.{Window}
use Rattle.semantics.specs.Search.{to, all32, span, fitted}
use Rattle.simulation.specs.Nodes.{node, ranges}
use Rattle.intervals.specs.Meaning.{Filled}
use Rattle.machine.specs.Layout.{range_low, range_end}
use Rattle.machine.specs.Memory.{node_at, nodes_in, windows_in, ranges_in}
use Rattle.machine.specs.Terms.{Other}

-- ---- one range

-- the range of node j in k windows, from the ranges of the nodes before it
abbrev pub range_at : List ℕ → ℕ → ℕ → Window
range_at m k j = node (λ z. to z z) (λ i. get_or (windows_in m k) i all32) (λ o v w. fitted (span o v w)) (ranges_in m j) (node_at m j)

-- each of these ranges has a number
pub record Ranging (rs : List Window) : Type 0 where
  pub some : (i : ℕ) → Filled (get_or rs i (to (pos 0) (pos 0)))

-- node j got its range, and no other word changed
pub record Ranged (m m' : List ℕ) (k j : ℕ) : Type 0 where
  pub other : Other m m' (range_low j) (range_end j)
  pub is : ranges_in m' (j + 1) ≡ ranges_in m j ++ range_at m k j ∷ []

-- ---- all ranges

-- each of these windows has a number
pub record Windows (ws : List Window) : Type 0 where
  pub some : (i : ℕ) → Filled (get_or ws i all32)

-- the n nodes got their ranges in k windows, and no other word changed
pub record Anew (m m' : List ℕ) (k n : ℕ) : Type 0 where
  pub other : (i : ℕ) → ((j : ℕ) → j < n → range_low j ≤ i → i < range_end j → ⊥) → get_or m' i 0 ≡ get_or m i 0
  pub is : ranges_in m' n ≡ ranges (windows_in m k) (nodes_in m n)
