-- Windows, tests and outcomes in the memory, as free declarations and choices write them.
use Rattle.std.specs.Prelude.{◌≡◌, Bool, List, [], ◌∷◌, ◌++◌, ℕ, ◌+◌, ◌-◌, ◌≤◌, ◌<◌, get_or, take}
use Rattle.std.proofs.Math.Option.{none}
use Rattle.semantics.specs.Int.{Cmp}
use Rattle.semantics.specs.Program.{Window}
use Rattle.semantics.specs.Search.{decided, narrowed}
use Rattle.simulation.specs.Path.{outcome, later}
use Rattle.simulation.specs.Nodes.{Node, unknown, operation, Within, Noted, ranges, range_in}
use Rattle.intervals.specs.Meaning.{of_pairs}
use Rattle.window_memory.specs.Memory.{pairs_at}
use Rattle.machine.specs.Layout.{windows_place, windows_end, starts_place, starts_end, range_low, range_end, test_place, test_end, outcome_place, outcome_end}
use Rattle.machine.specs.Memory.{node_at, nodes_in, windows_in, starts_in, ranges_in, test_at, outcome_as, outcomes_in}
use Rattle.machine.specs.Terms.{cell_of, Sized, meant, Room, Other}
use Rattle.machine.specs.declared.Value as code
use Rattle.machine.specs.declared.Value.TheVariants.{Known, Open}
use Rattle.paths.specs.Table.{Windows}

-- ---- windows

-- a node that is an operation, or one of k free variables
abbrev pub Named : ℕ → Node → Type 0
Named k (unknown i) = i < k
Named k (operation o a b) = Unit {0}

-- k windows, none of them empty, and n nodes on their free variables, each with its range in these windows
pub record Tables (m : List ℕ) (k n : ℕ) : Type 0 where
  pub count : k ≤ 8
  pub room : Room m n
  pub some : Windows (windows_in m k)
  pub named : (j : ℕ) → j < n → Named k (node_at m j)
  pub is : ranges_in m n ≡ ranges (windows_in m k) (nodes_in m n)

-- of the eight pairs at a place, w is the one after the first k, and no word beside the eight changed
pub record PairSet (m m' : List ℕ) (at : ℕ) (w : Window) (k : ℕ) : Type 0 where
  pub other : Other m m' at (at + 16)
  pub is : take (k + 1) (of_pairs (pairs_at m' at 8)) ≡ take k (of_pairs (pairs_at m at 8)) ++ w ∷ []

-- only windows and the pairs that they started as may have changed
pub record PairsOnly (m m' : List ℕ) : Type 0 where
  pub outside : (i : ℕ) → (windows_place ≤ i → i < windows_end → ⊥) → (starts_place ≤ i → i < starts_end → ⊥) → get_or m' i 0 ≡ get_or m i 0

-- a free declaration was reached after k others, and no other word changed: its window starts as its pair, and the pair is kept
pub record Reached (m m' : List ℕ) (w : Window) (k : ℕ) : Type 0 where
  pub other : PairsOnly m m'
  pub is : windows_in m' (k + 1) ≡ windows_in m k ++ w ∷ []
  pub starts : starts_in m' (k + 1) ≡ starts_in m k ++ w ∷ []

-- ---- tests

-- the first word of a value's cell
abbrev pub bit : code.Value → ℕ
bit (Known z) = 0
bit (Open j) = 1

abbrev pub test_by : Cmp → code.Value → code.Value → Noted
test_by c v w = record { compare = c; left = cell_of v; right = cell_of w }

-- test t was noted, and no other word changed
pub record Noting (m m' : List ℕ) (t : ℕ) (x : Noted) : Type 0 where
  pub other : Other m m' (test_place t) (test_end t)
  pub is : test_at m' t ≡ x

-- ---- outcomes

-- choice t took the next of f forced outcomes, or true where none was left, and no word but its outcome's changed
pub record Taken (m m' : List ℕ) (t f : ℕ) (o : Bool) : Type 0 where
  pub other : Other m m' (outcome_place t) (outcome_end t)
  pub is : outcome_as (get_or m' (outcome_place t) 0) ≡ o
  pub next : o ≡ outcome (outcomes_in m t f)
  pub rest : outcomes_in m' (t + 1) (f - 1) ≡ later (outcomes_in m t f)

-- ---- narrowing

-- the two values compare, and their ranges do not decide how
pub record Undecided (m : List ℕ) (n : ℕ) (c : Cmp) (v w : code.Value) : Type 0 where
  pub left-sized : Sized v
  pub left : Within n (cell_of v)
  pub right-sized : Sized w
  pub right : Within n (cell_of w)
  pub is : decided c (range_in (ranges_in m n) (cell_of v)) (range_in (ranges_in m n) (cell_of w)) ≡ none

-- only windows and the ranges of n nodes may have changed
pub record Beside (m m' : List ℕ) (n : ℕ) : Type 0 where
  pub other : (i : ℕ) → (windows_place ≤ i → i < windows_end → ⊥) → ((j : ℕ) → j < n → range_low j ≤ i → i < range_end j → ⊥) → get_or m' i 0 ≡ get_or m i 0

-- the k windows are narrowed by the comparison of two values, and the ranges are those in the new windows
pub record Narrowed (m m' : List ℕ) (k n : ℕ) (c : Cmp) (v w : code.Value) : Type 0 where
  pub beside : Beside m m' n
  pub windows : windows_in m' k ≡ narrowed c (meant m n v) (meant m n w) (windows_in m k)
  pub tables : Tables m' k n
