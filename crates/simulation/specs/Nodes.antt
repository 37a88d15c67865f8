-- Open values as nodes of one table: each operation on an open value is written once, at the table's end, and whoever holds the value holds its place. So nothing is copied, and whatever is worked for all nodes costs one pass over the table, however often a node is used.
use Rattle.std.specs.Prelude.{ℕ, ◌<◌, Bool, true, ◌&&◌, List, [], ◌∷◌, ◌++◌, get_or, length, ℤ, pos}
use Rattle.semantics.specs.Int.{Op, Cmp, arith, holds}
use Rattle.semantics.specs.Program.{Window}
use Rattle.semantics.specs.Search as search
use Rattle.semantics.specs.Search.{Value, known, open', Test, as_test, to, all32, span, fitted}

-- "A value is known, or open with the expression it stands for": as it is held, a number or the place of a node
pub data Cell : Type 0 where
  Known : ℤ → Cell
  Open : ℕ → Cell

-- a free variable, by its number, or an operation on two cells, which name nodes before this one
pub data Node : Type 0 where
  unknown : ℕ → Node
  operation : Op → Cell → Cell → Node

-- ---- one pass over the table

-- For any kind A of what is worked for each node: of numbers, of free variables, and of operations on what was worked before.
module _ {A : Type 0} (num : ℤ → A) (free : ℕ → A) (op : Op → A → A → A) where
  -- a cell, from what was worked for the nodes
  abbrev pub cell : List A → Cell → A
  cell l (Known z) = num z
  cell l (Open j) = get_or l j (num (pos 0))

  abbrev pub node : List A → Node → A
  node l (unknown i) = free i
  node l (operation o a b) = op o (cell l a) (cell l b)

  -- the nodes in their order, after those for which l was worked
  unfoldable pub pass : List A → List Node → List A
  pass l [] = l
  pass l (n ∷ ns) = pass (l ++ node l n ∷ []) ns

-- the values that the nodes stand for, and the value of a cell
unfoldable pub values : List Node → List Value
values ns = pass known search.unknown open' [] ns

unfoldable pub meaning : List Node → Cell → Value
meaning ns v = cell known search.unknown open' (values ns) v

-- their ranges in these windows, and that of a cell, from the nodes' ranges
unfoldable pub ranges : List Window → List Node → List Window
ranges ws ns = pass (λ z. to z z) (λ i. get_or ws i all32) (λ o v w. fitted (span o v w)) [] ns

abbrev pub range_in : List Window → Cell → Window
range_in rs (Known z) = to z z
range_in rs (Open j) = get_or rs j (to (pos 0) (pos 0))

-- what they are under a setting of the free variables, and what a cell is, from what the nodes are
unfoldable pub numbers : List ℤ → List Node → List ℤ
numbers s ns = pass (λ z. z) (λ i. get_or s i (pos 0)) arith [] ns

abbrev pub number_in : List ℤ → Cell → ℤ
number_in zs (Known z) = z
number_in zs (Open j) = get_or zs j (pos 0)

-- ---- the table grows at its end

-- a cell whose node is one of the first n, if it has one
abbrev pub Within : ℕ → Cell → Type 0
Within n (Known z) = Unit {0}
Within n (Open j) = j < n

-- a cell, and the table with its node
pub record Held : Type 0 where
  pub cell : Cell
  pub nodes : List Node

-- a new node
abbrev pub adding : Node → List Node → Held
adding n ns = record { cell = Open (length ns); nodes = ns ++ n ∷ [] }

-- an operation: two numbers are worked, anything else is a new node
unfoldable pub working : Op → Cell → Cell → List Node → Held
working o (Known a) (Known b) ns = record { cell = Known (arith o a b); nodes = ns }
working o (Known a) (Open j) ns = adding (operation o (Known a) (Open j)) ns
working o (Open i) b ns = adding (operation o (Open i) b) ns

-- ---- tests by the table

-- a test made, on cells
pub record Noted : Type 0 where
  pub compare : Cmp
  pub left : Cell
  pub right : Cell

abbrev pub test_of : List Node → Noted → Test
test_of ns t = as_test t.compare (meaning ns t.left) (meaning ns t.right)

-- whether a setting meets the tests, from what the nodes are under it
unfoldable pub meets_in : List ℤ → List Noted → Bool
meets_in zs [] = true
meets_in zs (t ∷ ts) = holds t.compare (number_in zs t.left) (number_in zs t.right) && meets_in zs ts
