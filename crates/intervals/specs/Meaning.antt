-- What a window, a pair and pairs of the code stand for, in the words of `semantics`.
use Rattle.std.specs.Prelude.{◌≡◌, true, List, map, get_or, ℤ, pos}
use Rattle.std.specs.Int.Signed.{le_z}
use Rattle.semantics.specs.Program.{Window}
use Rattle.semantics.specs.Search.{to}
use Rattle.intervals.specs.declared.Window as code

abbrev pub of_window : code.Window → Window
of_window w = to w.low w.high

-- there is a number from low to high
abbrev pub Filled : Window → Type 0
Filled w = le_z w.low w.high ≡ true

-- a pair is low and high
abbrev pub of_pair : List ℤ → Window
of_pair p = to (get_or p 0 (pos 0)) (get_or p 1 (pos 0))

-- "The windows of a path are eight pairs, low and high"
abbrev pub of_pairs : List (List ℤ) → List Window
of_pairs ps = map of_pair ps
