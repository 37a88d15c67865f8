-- The kinds of nodes and tests in the memory.
use Rattle.std.specs.Prelude.{ℕ, ◌+◌, ◌*◌, ◌/◌, ◌%◌}

-- A node's kind is 0 for a free variable; else 1 and the operation's number, and to this 4 is added where the first cell is open, and 8 where the second is. So these are 0 or the operation's successor, and whether each cell is open.
abbrev pub node_op : ℕ → ℕ
node_op k = k % 4

abbrev pub left_open : ℕ → ℕ
left_open k = k / 4 % 2

abbrev pub right_open : ℕ → ℕ
right_open k = k / 8

-- A test's kind is the comparison's number, and to this 8 is added where the first cell is open, and 16 where the second is.
abbrev pub test_kind : ℕ → ℕ → ℕ → ℕ
test_kind c a b = c + 8 * a + 16 * b

abbrev pub test_compare : ℕ → ℕ
test_compare k = k % 8

abbrev pub test_sides : ℕ → ℕ
test_sides k = k / 8

abbrev pub test_left_open : ℕ → ℕ
test_left_open k = test_sides k % 2

abbrev pub test_right_open : ℕ → ℕ
test_right_open k = k / 16
