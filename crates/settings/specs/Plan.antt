-- Which nodes are worked for a setting: those on which tests rest; and where only the last free variable went up, only those that may differ.
use Rattle.std.specs.Prelude.{◌≡◌, Bool, true, false, List, ℕ, ◌≤◌, ◌<◌}
use Rattle.simulation.specs.Nodes.{Cell, Known, Open, Node, unknown, operation, Within, Noted}
use Rattle.machine.specs.Memory.{node_at, test_at}
use Rattle.settings.specs.declared.Plan.{Plan}

-- an answer is true where the one holds, and false where the other does
pub record Decides (r : Bool) (A B : Type 0) : Type 0 where
  pub yes : r ≡ true → A
  pub no : r ≡ false → B

-- ---- what depends on a free variable

-- a node that is not free variable i
abbrev pub NotFree : ℕ → Node → Type 0
NotFree i (unknown x) = x ≡ i → ⊥
NotFree i (operation o a b) = Unit {0}

-- a cell that is not node a
abbrev pub Off : ℕ → Cell → Type 0
Off a (Known z) = Unit {0}
Off a (Open j) = j ≡ a → ⊥

-- an operation on cells that are not node a
abbrev pub Clear : ℕ → Node → Type 0
Clear a (unknown x) = ⊥
Clear a (operation o l r) = Off a l × Off a r

-- node r is the first one that is free variable i, of n; or there is none, and it is n
pub record FreeNode (m : List ℕ) (i n r : ℕ) : Type 0 where
  pub within : r ≤ n
  pub is : r < n → node_at m r ≡ unknown i
  pub before : (j : ℕ) → j < r → NotFree i (node_at m j)

-- the nodes between node a and node r, of n, are clear of node a
pub record FirstBehind (m : List ℕ) (a n r : ℕ) : Type 0 where
  pub within : r ≤ n
  pub behind : a < n → a < r
  pub clear : (j : ℕ) → a < j → j < r → Clear a (node_at m j)

-- of the nodes before `first` only node a depends on free variable i, and is that variable; if it lies behind, none does
pub record Apart (m : List ℕ) (i a first : ℕ) : Type 0 where
  pub is : a < first → node_at m a ≡ unknown i
  pub before : (j : ℕ) → j < a → j < first → NotFree i (node_at m j)
  pub clear : (j : ℕ) → a < j → j < first → Clear a (node_at m j)

-- ---- what tests rest on

-- a test on the first n nodes
pub record Rests (n : ℕ) (t : Noted) : Type 0 where
  pub left : Within n t.left
  pub right : Within n t.right

-- c tests rest on the first r of n nodes
pub record Front (m : List ℕ) (n c r : ℕ) : Type 0 where
  pub within : r ≤ n
  pub rests : r < n → (t : ℕ) → t < c → Rests r (test_at m t)

-- the plan for n nodes and c tests, where i is the last free variable
pub record Planned (m : List ℕ) (n c i : ℕ) (p : Plan) : Type 0 where
  pub front : Front m n c p.upto
  pub apart : Apart m i p.moving p.first
  pub inner : p.first ≤ p.upto
