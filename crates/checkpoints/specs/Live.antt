-- What is live at a point of a path, in pairs of words, one behind another; where n cells of each frame are in use.
use Rattle.std.specs.Prelude.{ℕ, ◌+◌, ◌-◌, ◌*◌, ◌≤◌, ◌<◌, ◌≡◌, List, length, get_or}
use Rattle.machine.specs.Layout.{frame_cells, cell_words, frame_words, variable_place, mark_place, index_end}
use Rattle.machine.specs.Terms.{Room}
use Rattle.paths.specs.declared.Point.{Point}

-- how many pairs there are, at depth d with k windows: the cells in use of the frames, but for the first, which is blank; with the callers; with the windows
abbrev pub framed : ℕ → ℕ → ℕ
framed n d = n * d

abbrev pub called : ℕ → ℕ → ℕ
called n d = framed n d + d

abbrev pub windowed : ℕ → ℕ → ℕ → ℕ
windowed n d k = called n d + k

-- all of them, with the temporaries
abbrev pub live_pairs : ℕ → Point → ℕ
live_pairs n p = windowed n p.run.depth p.windows + p.run.top

-- A checkpoint has a mark for each pair, and at least as many as it has numbers, which stand at the last of them.
abbrev pub number_count : ℕ
number_count = 9

abbrev pub size_of : ℕ → Point → ℕ
size_of n p = live_pairs n p + (number_count - live_pairs n p)

-- numbers of which sums can be taken
pub record Small (p : Point) : Type 0 where
  pub depth : p.run.depth < 4294967296
  pub top : p.run.top < 4294967296
  pub windows : p.windows < 4294967296

-- a memory that has all that is live at the point
pub record HasLive (m : List ℕ) (p : Point) : Type 0 where
  pub deep : p.run.depth ≤ 32
  pub few : p.windows ≤ 8
  pub tops : Room m p.run.top

-- ---- cells that are not in use

-- no cell but the first n of a frame up to frame d holds anything but 0
pub record Slim (n : ℕ) (m : List ℕ) (d : ℕ) : Type 0 where
  pub rest : (j a b : ℕ) → j ≤ d → n ≤ a → a < frame_cells → b < cell_words → get_or m (variable_place j a + b) 0 ≡ 0

-- and the first frame, that of the start, which calls main, holds nothing at all: nothing is ever stored there
pub record Unused (n : ℕ) (m : List ℕ) (d : ℕ) : Type 0 where
  pub first : (x : ℕ) → x < frame_words → get_or m x 0 ≡ 0
  pub slim : Slim n m d

-- ---- pairs in a row

-- n pairs from x on, each s words behind the one before, none of which is a mark's
pub record Row (m : List ℕ) (x s n : ℕ) : Type 0 where
  pub two : 2 ≤ s
  pub fits : x + s * n < 1099511627776
  pub inside : (i : ℕ) → i < n → x + s * i + 1 < length m
  pub apart : (i b j : ℕ) → i < n → b < 2 → mark_place j ≤ x + s * i + b → x + s * i + b < index_end j → ⊥

-- only the n marks from w on may have changed
pub record Marking (m m' : List ℕ) (w n : ℕ) : Type 0 where
  pub other : (x : ℕ) → ((i : ℕ) → w ≤ i → i < w + n → mark_place i ≤ x → x < index_end i → ⊥) → get_or m' x 0 ≡ get_or m x 0

-- they were copied to the marks from w on
pub record RowSaved (m m' : List ℕ) (x s n w : ℕ) : Type 0 where
  pub marking : Marking m m' w n
  pub pairs : (i b : ℕ) → i < n → b < 2 → get_or m' (mark_place (w + i) + b) 0 ≡ get_or m (x + s * i + b) 0

-- and back
pub record RowBack (m m' : List ℕ) (x s n w : ℕ) : Type 0 where
  pub other : (y : ℕ) → ((i b : ℕ) → i < n → b < 2 → y ≡ x + s * i + b → ⊥) → get_or m' y 0 ≡ get_or m y 0
  pub pairs : (i b : ℕ) → i < n → b < 2 → get_or m' (x + s * i + b) 0 ≡ get_or m (mark_place (w + i) + b) 0

-- the first n cells of d frames were copied, from the second frame on
pub record FramesSaved (n : ℕ) (m m' : List ℕ) (d w : ℕ) : Type 0 where
  pub marking : Marking m m' w (framed n d)
  pub pairs : (j a b : ℕ) → j < d → a < n → b < 2 → get_or m' (mark_place (w + framed n j + a) + b) 0 ≡ get_or m (variable_place (j + 1) a + b) 0

-- and back
pub record FramesBack (n : ℕ) (m m' : List ℕ) (d w : ℕ) : Type 0 where
  pub other : (y : ℕ) → ((j a b : ℕ) → j < d → a < n → b < 2 → y ≡ variable_place (j + 1) a + b → ⊥) → get_or m' y 0 ≡ get_or m y 0
  pub pairs : (j a b : ℕ) → j < d → a < n → b < 2 → get_or m' (variable_place (j + 1) a + b) 0 ≡ get_or m (mark_place (w + framed n j + a) + b) 0

-- the first n words were made 0
pub record Cleared (m m' : List ℕ) (n : ℕ) : Type 0 where
  pub blank : (x : ℕ) → x < n → get_or m' x 0 ≡ 0
  pub other : (x : ℕ) → n ≤ x → get_or m' x 0 ≡ get_or m x 0
