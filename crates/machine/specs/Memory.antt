-- What the words of the lent memory stand for; where they stand is said in Layout.
use Rattle.std.specs.Prelude.{Bool, true, false, List, [], ◌∷◌, ◌++◌, ℕ, zero, suc, ◌+◌, ◌-◌, get_or, take, ℤ}
use Rattle.std.specs.Int.{w32}
use Rattle.std.proofs.Common.{to_z}
use Rattle.semantics.specs.Program.{Window}
use Rattle.semantics.specs.Search as search
use Rattle.semantics.specs.Search.{to}
use Rattle.simulation.specs.Machine.{Caller, Machine, machine}
use Rattle.simulation.specs.Nodes.{Cell, Known, Open, Node, unknown, operation, meaning, Noted}
use Rattle.ints.specs.Numbers as numbers
use Rattle.intervals.specs.Meaning.{of_pairs}
use Rattle.window_memory.specs.Memory.{pairs_at}
use Rattle.machine.specs.Kinds.{node_op, left_open, right_open, test_compare, test_left_open, test_right_open}
use Rattle.machine.specs.Layout.{frame_cells, frame_place, caller_place, caller_base, windows_place, starts_place, value_place, temp_place, node_place, node_left, node_right, range_low, range_high, number_place, test_place, test_left, test_right, outcome_place}
use Rattle.machine.specs.declared.Run.{Run}

-- a value of the program, as the search knows it
abbrev pub Sym : Type 0
Sym = search.Value

-- ---- cells

-- a cell's two words: 0 and the bits of a number, or 1 and the place of a node
abbrev pub cell_read_as : ℕ → ℕ → Cell
cell_read_as zero x = Known (to_z w32 x)
cell_read_as (suc n) x = Open x

-- the cell at a word of the memory
abbrev pub cell_at : List ℕ → ℕ → Cell
cell_at m i = cell_read_as (get_or m i 0) (get_or m (i + 1) 0)

-- ---- nodes

-- a node's three words: its kind, and the second words of its two cells; a free variable's number is the second word
abbrev pub node_by : ℕ → ℕ → Cell → Cell → Node
node_by zero x a b = unknown x
node_by (suc n) x a b = operation (numbers.operation n) a b

abbrev pub node_as : ℕ → ℕ → ℕ → Node
node_as k x y = node_by (node_op k) x (cell_read_as (left_open k) x) (cell_read_as (right_open k) y)

abbrev pub node_at : List ℕ → ℕ → Node
node_at m j = node_as (get_or m (node_place j) 0) (get_or m (node_left j) 0) (get_or m (node_right j) 0)

-- the first n nodes
unfoldable pub nodes_in : List ℕ → ℕ → List Node
nodes_in m zero = []
nodes_in m (suc n) = nodes_in m n ++ node_at m n ∷ []

-- ---- the machine, where f says what a cell stands for

module _ {X : Type 0} (f : Cell → X) (m : List ℕ) where
  -- n cells from word i on
  unfoldable pub cells : ℕ → ℕ → List X
  cells i zero = []
  cells i (suc n) = f (cell_at m i) ∷ cells (i + 2) n

  -- n temporaries from place i on, the last one first
  unfoldable pub temps : ℕ → ℕ → List X
  temps i zero = []
  temps i (suc n) = f (cell_at m (temp_place (i + n))) ∷ temps i n

  -- the frame of the function that d others wait for
  abbrev pub frame_at : ℕ → List X
  frame_at d = cells (frame_place d) frame_cells

  -- d callers, the newest first; the newest one's temporaries end at top
  unfoldable pub callers : ℕ → ℕ → List (Caller X)
  callers zero top = []
  callers (suc d) top = let b = get_or m (caller_base d) 0 in record { pc = get_or m (caller_place d) 0; temps = temps b (top - b); frame = frame_at d } ∷ callers d b

  abbrev pub machine_in : Run → Machine X
  machine_in r = machine r.pc r.flag (temps r.base (r.top - r.base)) (frame_at r.depth) (callers r.depth r.base) (32 - r.depth)

-- the machine of the path: an open cell stands for its node's value
abbrev pub machine_at : List ℕ → Run → Machine Sym
machine_at m r = machine_in (meaning (nodes_in m r.nodes)) m r

-- ---- what stands beside the machine

-- the first n windows
abbrev pub windows_in : List ℕ → ℕ → List Window
windows_in m n = take n (of_pairs (pairs_at m windows_place 8))

-- the pairs that the first n windows started as
abbrev pub starts_in : List ℕ → ℕ → List Window
starts_in m n = take n (of_pairs (pairs_at m starts_place 8))

-- the first n numbers of the setting
unfoldable pub setting_in : List ℕ → ℕ → List ℤ
setting_in m zero = []
setting_in m (suc n) = setting_in m n ++ to_z w32 (get_or m (value_place n) 0) ∷ []

-- the ranges of the first n nodes, and their numbers under the setting
unfoldable pub ranges_in : List ℕ → ℕ → List Window
ranges_in m zero = []
ranges_in m (suc n) = ranges_in m n ++ to (to_z w32 (get_or m (range_low n) 0)) (to_z w32 (get_or m (range_high n) 0)) ∷ []

unfoldable pub numbers_in : List ℕ → ℕ → List ℤ
numbers_in m zero = []
numbers_in m (suc n) = numbers_in m n ++ to_z w32 (get_or m (number_place n) 0) ∷ []

-- a test's three words: its kind, and the second words of its two cells
abbrev pub test_as : ℕ → ℕ → ℕ → Noted
test_as k x y = record { compare = numbers.comparison (test_compare k); left = cell_read_as (test_left_open k) x; right = cell_read_as (test_right_open k) y }

abbrev pub test_at : List ℕ → ℕ → Noted
test_at m t = test_as (get_or m (test_place t) 0) (get_or m (test_left t) 0) (get_or m (test_right t) 0)

-- the first n tests, the newest first
unfoldable pub tests_in : List ℕ → ℕ → List Noted
tests_in m zero = []
tests_in m (suc n) = test_as (get_or m (test_place n) 0) (get_or m (test_left n) 0) (get_or m (test_right n) 0) ∷ tests_in m n

abbrev pub outcome_as : ℕ → Bool
outcome_as zero = false
outcome_as (suc n) = true

-- the outcomes of n choices from choice i on, the oldest first
unfoldable pub outcomes_in : List ℕ → ℕ → ℕ → List Bool
outcomes_in m i zero = []
outcomes_in m i (suc n) = outcome_as (get_or m (outcome_place i) 0) ∷ outcomes_in m (suc i) n
