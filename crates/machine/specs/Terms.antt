-- What the functions of the machine promise: which words they may change, and what the memory stands for afterwards.
use Rattle.std.specs.Prelude.{◌≡◌, Bool, List, [], ◌++◌, map, ℕ, zero, suc, ◌+◌, ◌-◌, ◌*◌, ◌<◌, ◌≤◌, get_or, length, replicate, ℤ, pos}
use Rattle.std.proofs.Math.Option.{Option}
use Rattle.std.specs.Int.{w32}
use Rattle.std.proofs.Common.{SFits}
use Rattle.semantics.specs.Int.{Op}
use Rattle.semantics.specs.Program.{Window, slot}
use Rattle.semantics.specs.Does.{frame, store}
use Rattle.semantics.specs.Run.{pair_of}
use Rattle.semantics.specs.Search as search
use Rattle.semantics.specs.Search.{known}
use Rattle.simulation.specs.Code.{Code, Act}
use Rattle.simulation.specs.Machine.{Machine, machine, Doing, popped, taken, two, gather, acting, start}
use Rattle.simulation.specs.Nodes as nodes
use Rattle.simulation.specs.Nodes.{Node, unknown, operation, meaning, Within, working}
use Rattle.ints.specs.declared.Comparison.{Comparison}
use Rattle.ints.specs.Meaning.{of_comparison}
use Rattle.intervals.specs.Meaning.{of_window, Filled}
use Rattle.machine.specs.Layout.{frame_cells, frame_words, frame_place, variable_place, cell_place, caller_base, windows_place, tables_place, temp_place, node_place, node_end, range_low, index_end, words_for}
use Rattle.machine.specs.Memory.{Sym, cell_at, node_at, nodes_in, cells, temps, frame_at, callers, machine_at}
use Rattle.machine.specs.declared.Value.{Value}
use Rattle.machine.specs.declared.Value.TheVariants.{Known, Open}
use Rattle.machine.specs.declared.Run.{Run}
use Rattle.machine.specs.declared.Did.{Did}
use Rattle.machine.specs.declared.Did.TheVariants.{Silent, Step, Free, Test, Returned, Failed, Cut}

-- ---- values

-- the cell that a value of the code is
abbrev pub cell_of : Value → nodes.Cell
cell_of (Known z) = nodes.Known z
cell_of (Open j) = nodes.Open j

-- a value whose number has 32 bits
abbrev pub Sized : Value → Type 0
Sized (Known z) = SFits w32 z
Sized (Open j) = j < 4294967296

-- what a cell of n nodes stands for, and a value
abbrev pub meant : List ℕ → ℕ → Value → Sym
meant m n v = meaning (nodes_in m n) (cell_of v)

-- ---- what must hold of the memory

-- the tables have room for n entries, and the place of each fits into a word
pub record Room (m : List ℕ) (n : ℕ) : Type 0 where
  pub words : words_for n ≤ length m
  pub small : n < 4294967296

-- the temporaries of d callers lie one after another, the first one's at 0, and end at b
abbrev pub Stacked : List ℕ → ℕ → ℕ → Type 0
Stacked m zero b = b ≡ 0
Stacked m (suc d) b = (get_or m (caller_base d) 0 ≤ b) × Stacked m d (get_or m (caller_base d) 0)

-- a memory that holds a machine: at most 32 calls nest, the tables have room for its temporaries and nodes, and each of its cells that is open is one of its nodes
pub record Ready (m : List ℕ) (r : Run) : Type 0 where
  pub deep : r.depth ≤ 32
  pub low : r.base ≤ r.top
  pub tops : Room m r.top
  pub few : Room m r.nodes
  pub stack : Stacked m r.depth r.base
  pub framed : (i : ℕ) → i < frame_cells * r.depth + frame_cells → Within r.nodes (cell_at m (cell_place i))
  pub held : (i : ℕ) → i < r.top → Within r.nodes (cell_at m (temp_place i))

-- ---- which words may change

-- only the words from i up to j
pub record Other (m m' : List ℕ) (i j : ℕ) : Type 0 where
  pub outside : (k : ℕ) → (i ≤ k → k < j → ⊥) → get_or m' k 0 ≡ get_or m k 0

-- windows, setting, ranges, numbers, tests and outcomes stay, and so do the first n nodes
pub record Kept (m m' : List ℕ) (n : ℕ) : Type 0 where
  pub fixed : (k : ℕ) → windows_place ≤ k → k < tables_place → get_or m' k 0 ≡ get_or m k 0
  pub tables : (k j : ℕ) → range_low j ≤ k → k < index_end j → get_or m' k 0 ≡ get_or m k 0
  pub noded : (k j : ℕ) → j < n → node_place j ≤ k → k < node_end j → get_or m' k 0 ≡ get_or m k 0

-- ---- cells and nodes

-- the cell at word i is a value
pub record Holds (m : List ℕ) (i : ℕ) (v : Value) : Type 0 where
  pub is : cell_of v ≡ cell_at m i
  pub sized : Sized v

-- a cell was written
pub record Put (m m' : List ℕ) (i : ℕ) (v : nodes.Cell) : Type 0 where
  pub other : Other m m' i (i + 2)
  pub cell : cell_at m' i ≡ v

-- a node was added to n others
pub record Noded (m m' : List ℕ) (n : ℕ) (x : Node) : Type 0 where
  pub other : Other m m' (node_place n) (node_end n)
  pub node : node_at m' n ≡ x

-- an operation was worked with n nodes, for which a node may have been added; then there are n'
pub record Worked (m m' : List ℕ) (n : ℕ) (o : Op) (v w : Value) (u : Value) (n' : ℕ) : Type 0 where
  pub other : Other m m' (node_place n) (node_end n)
  pub nodes : nodes_in m' n' ≡ (working o (cell_of v) (cell_of w) (nodes_in m n)).nodes
  pub is : cell_of u ≡ (working o (cell_of v) (cell_of w) (nodes_in m n)).cell
  pub more : n ≤ n'
  pub one : n' ≤ n + 1
  pub node : (j : ℕ) → n ≤ j → j < n' → node_at m' j ≡ operation o (cell_of v) (cell_of w)
  pub sized : Sized u

-- a node that is an operation on nodes before it
abbrev pub Formed : ℕ → Node → Type 0
Formed j (unknown i) = ⊥
Formed j (operation o a b) = Within j a × Within j b

-- ---- operands: they are what the machine takes, whatever the nodes stand for

abbrev pub Reads : (nodes.Cell → Sym) → Type 0
Reads f = (z : ℤ) → f (nodes.Known z) ≡ known z

-- no code: a temporary that is taken does not depend on it
abbrev pub nowhere : Code
nowhere = record { entries = []; starts = [] }

-- the newest temporary was taken
pub record Popped (m : List ℕ) (r : Run) (v : Value) (top : ℕ) : Type 0 where
  pub is : (f : nodes.Cell → Sym) → Reads f → popped known search.work nowhere (temps f m r.base (r.top - r.base))
      ≡ record { value = f (cell_of v); rest = temps f m r.base (top - r.base) }
  pub low : r.base ≤ top
  pub high : top ≤ r.top
  pub sized : Sized v
  pub within : Within r.nodes (cell_of v)

-- the operand before entry j was taken
pub record Taking (c : Code) (m : List ℕ) (r : Run) (j : ℕ) (v : Value) (top : ℕ) : Type 0 where
  pub is : (f : nodes.Cell → Sym) → Reads f → taken known search.work c (frame_at f m r.depth) (temps f m r.base (r.top - r.base)) j
      ≡ record { value = f (cell_of v); rest = temps f m r.base (top - r.base) }
  pub low : r.base ≤ top
  pub high : top ≤ r.top
  pub sized : Sized v
  pub within : Within r.nodes (cell_of v)

-- two operands were taken
pub record Paired (c : Code) (m : List ℕ) (r : Run) (d : ℕ) (x y : Value) (top : ℕ) : Type 0 where
  pub is : (f : nodes.Cell → Sym) → Reads f
      → two known search.work c (frame_at f m r.depth) (temps f m r.base (r.top - r.base)) r.pc d
      ≡ record { first = f (cell_of x); second = f (cell_of y); rest = temps f m r.base (top - r.base) }
  pub low : r.base ≤ top
  pub high : top ≤ r.top
  pub left-sized : Sized x
  pub left : Within r.nodes (cell_of x)
  pub right-sized : Sized y
  pub right : Within r.nodes (cell_of y)

-- ---- arguments

-- n cells were made 0, from word i on; the next ones of a frame may have changed too
pub record Blank (m m' : List ℕ) (i n : ℕ) : Type 0 where
  pub other : Other m m' i (i + frame_words)
  pub cell : (k : ℕ) → k < n → cell_at m' (i + 2 * k) ≡ nodes.Known (pos 0)

abbrev pub topped : Run → ℕ → Run
topped r top = record r { top = top }

-- of n arguments all but k were taken into the next frame, and the last of those k ends just before entry j
pub record Gathering (c : Code) (m m' : List ℕ) (r : Run) (n k j top : ℕ) : Type 0 where
  pub values : List nodes.Cell
  pub is : (f : nodes.Cell → Sym) → Reads f
      → gather known search.work c (frame_at f m r.depth) (temps f m r.base (r.top - r.base)) n r.pc []
      ≡ gather known search.work c (frame_at f m' r.depth) (temps f m' r.base (top - r.base)) k j (map f values)
  pub framed : (f : nodes.Cell → Sym) → Reads f → frame (known (pos 0)) 16 (replicate k (known (pos 0)) ++ map f values) ≡ cells f m' (frame_place (r.depth + 1)) frame_cells
  pub ready : Ready m' (topped r top)
  pub high : top ≤ r.top
  pub other : Other m m' (frame_place (r.depth + 1)) (frame_place (r.depth + 1) + frame_words)
  pub within : (i : ℕ) → i < 16 → Within r.nodes (cell_at m' (variable_place (r.depth + 1) i))

-- ---- what an entry did

-- The memory m with n nodes became m', whose machine is that of d, for which at most k nodes were added, operations all of them.
pub record Goes {A : Type 0} (how : Machine Sym → A) (k : ℕ) (d : A) (m : List ℕ) (n : ℕ) (m' : List ℕ) (r : Run) : Type 0 where
  pub is : d ≡ how (machine_at m' r)
  pub ready : Ready m' r
  pub kept : Kept m m' n
  pub more : n ≤ r.nodes
  pub grows : r.nodes ≤ n + k
  pub formed : (j : ℕ) → n ≤ j → j < r.nodes → Formed j (node_at m' j)

-- an action on the machine of a memory
abbrev pub acts : Code → List ℕ → Run → Act → Doing Sym
acts c m r a = acting known search.work c r.pc r.flag (temps (meaning (nodes_in m r.nodes)) m r.base (r.top - r.base)) (frame_at (meaning (nodes_in m r.nodes)) m r.depth)
    (callers (meaning (nodes_in m r.nodes)) m r.depth r.base) (32 - r.depth) a

-- the machine of a memory after the next entry put v into the variable a
abbrev pub storing : List ℕ → Run → ℕ → Sym → Machine Sym
storing m r a v = machine (suc r.pc) r.flag (temps (meaning (nodes_in m r.nodes)) m r.base (r.top - r.base)) (store (frame_at (meaning (nodes_in m r.nodes)) m r.depth) (slot a) v)
    (callers (meaning (nodes_in m r.nodes)) m r.depth r.base) (32 - r.depth)

-- a free declaration was reached: one node was added, the unknown k
pub record Asked (next : Sym → Machine Sym) (m : List ℕ) (n : ℕ) (m' : List ℕ) (k : ℕ) (r : Run) : Type 0 where
  pub is : next (search.unknown k) ≡ machine_at m' r
  pub ready : Ready m' r
  pub kept : Kept m m' n
  pub one : r.nodes ≡ n + 1
  pub node : node_at m' n ≡ unknown k

-- by a declaration whose window starts as w, which is its own pair if it has one, else the job's
pub record Freed (d : Doing Sym) (job w : Window) (m : List ℕ) (n : ℕ) (m' : List ℕ) (k : ℕ) (r : Run) : Type 0 where
  pub own : Option Window
  pub next : Sym → Machine Sym
  pub is : d ≡ Doing.free own next
  pub pair : w ≡ pair_of job own
  pub filled : Filled w
  pub asked : Asked next m n m' k r

abbrev pub moved : Run → ℕ → Run
moved r pc = record r { pc = pc }

abbrev pub flagged : Run → Bool → Run
flagged r b = record r { flag = b }

-- a comparison was reached: no word has changed
pub record Tested (d : Doing Sym) (m : List ℕ) (n : ℕ) (m' : List ℕ) (o : Comparison) (x y : Value) (r : Run) : Type 0 where
  pub is : d ≡ Doing.test (of_comparison o) (meant m n x) (meant m n y) (λ b. machine_at m (flagged r b))
  pub same : m' ≡ m
  pub ready : Ready m r
  pub nodes : r.nodes ≡ n
  pub left-sized : Sized x
  pub left : Within n (cell_of x)
  pub right-sized : Sized y
  pub right : Within n (cell_of y)

-- the run has returned: no word has changed
pub record Gave (d : Doing Sym) (m : List ℕ) (n : ℕ) (m' : List ℕ) (v : Value) : Type 0 where
  pub is : d ≡ Doing.returned (meant m n v)
  pub same : m' ≡ m
  pub sized : Sized v
  pub within : Within n (cell_of v)

-- what the entry did that is `d` of the definitions, with the job's pair; the next unknown is k
abbrev pub Done : Doing Sym → Window → List ℕ → ℕ → List ℕ → ℕ → Did → Type 0
Done d job m n m' k (Silent r) = Goes Doing.silent 0 d m n m' r
Done d job m n m' k (Step r) = Goes Doing.step 1 d m n m' r
Done d job m n m' k (Free r w) = Freed d job (of_window w) m n m' k r
Done d job m n m' k (Test o x y r) = Tested d m n m' o x y r
Done d job m n m' k (Returned v) = Gave d m n m' v
Done d job m n m' k Failed = (d ≡ Doing.failed) × (m' ≡ m)
Done d job m n m' k Cut = (d ≡ Doing.cut) × (m' ≡ m)

-- where a path starts: only the first frame was written
pub record Started (m m' : List ℕ) (r : Run) : Type 0 where
  pub is : (c : Code) → machine_at m' r ≡ start known search.work c
  pub ready : Ready m' r
  pub other : Other m m' 0 32
  pub top : r.top ≡ 0
  pub none : r.nodes ≡ 0
