-- The words of a checkpoint, and what stands in the memory once they are back.
use Rattle.std.specs.Prelude.{ℕ, ◌+◌, ◌-◌, ◌≤◌, ◌<◌, ◌≡◌, Bool, true, false, List, [], ◌∷◌, length, get_or}
use Rattle.simulation.specs.Resume.{forcing}
use Rattle.machine.specs.Layout.{variable_place, caller_place, window_low, setting_place, temp_place, node_place, node_end, test_place, outcome_end, mark_place, mark_number}
use Rattle.machine.specs.Memory.{machine_at, starts_in, outcome_as, outcomes_in}
use Rattle.paths.specs.declared.Point.{Point}
use Rattle.paths.specs.Point.{state_at, Going, Stays}
use Rattle.checkpoints.specs.Live.{framed, called, windowed, number_count, size_of, Small, Unused}

-- ---- the numbers of a point

abbrev pub bit_of : Bool → ℕ
bit_of true = 1
bit_of false = 0

abbrev pub numbers_of : Point → List ℕ
numbers_of p = p.run.pc ∷ bit_of p.run.flag ∷ p.run.base ∷ p.run.top ∷ p.run.depth ∷ p.run.nodes ∷ p.steps ∷ p.windows ∷ p.choices ∷ []

-- the number of mark w
abbrev pub number_at : List ℕ → ℕ → ℕ
number_at m w = get_or m (mark_number w) 0

-- the point whose numbers stand from mark w on
abbrev pub point_at : List ℕ → ℕ → Point
point_at m w = record {
  run = record { pc = number_at m w; flag = outcome_as (number_at m (w + 1)); base = number_at m (w + 2); top = number_at m (w + 3); depth = number_at m (w + 4); nodes = number_at m (w + 5) };
  steps = number_at m (w + 6);
  windows = number_at m (w + 7);
  choices = number_at m (w + 8);
  forced = 0;
}

-- numbers that fit into words
pub record WordSized (p : Point) : Type 0 where
  pub pc : p.run.pc < 4294967296
  pub base : p.run.base < 4294967296
  pub nodes : p.run.nodes < 4294967296
  pub steps : p.steps < 4294967296
  pub choices : p.choices < 4294967296
  pub small : Small p

-- the first n of these numbers were written from mark w on
pub record Numbered (m m' : List ℕ) (h : List ℕ) (w n : ℕ) : Type 0 where
  pub other : (x : ℕ) → ((i : ℕ) → w ≤ i → i < w + n → x ≡ mark_number i → ⊥) → get_or m' x 0 ≡ get_or m x 0
  pub numbers : (i : ℕ) → i < n → number_at m' (w + i) ≡ get_or h i 0

-- ---- live pairs

-- the pairs of the marks from w on are those that were live at the point p in the memory m₀: frames, callers, windows, temporaries
pub record Lives (n : ℕ) (m m₀ : List ℕ) (p : Point) (w : ℕ) : Type 0 where
  pub frames : (j a b : ℕ) → j < p.run.depth → a < n → b < 2 → get_or m (mark_place (w + framed n j + a) + b) 0 ≡ get_or m₀ (variable_place (j + 1) a + b) 0
  pub callers : (j b : ℕ) → j < p.run.depth → b < 2 → get_or m (mark_place (w + framed n p.run.depth + j) + b) 0 ≡ get_or m₀ (caller_place j + b) 0
  pub windows : (j b : ℕ) → j < p.windows → b < 2 → get_or m (mark_place (w + called n p.run.depth + j) + b) 0 ≡ get_or m₀ (window_low j + b) 0
  pub temporaries : (j b : ℕ) → j < p.run.top → b < 2 → get_or m (mark_place (w + windowed n p.run.depth p.windows + j) + b) 0 ≡ get_or m₀ (temp_place j + b) 0

-- what is live at the point p stands in m' as it stood in m₀
pub record Alive (n : ℕ) (m₀ m' : List ℕ) (p : Point) : Type 0 where
  pub frames : (j a b : ℕ) → j < p.run.depth → a < n → b < 2 → get_or m' (variable_place (j + 1) a + b) 0 ≡ get_or m₀ (variable_place (j + 1) a + b) 0
  pub callers : (j b : ℕ) → j < p.run.depth → b < 2 → get_or m' (caller_place j + b) 0 ≡ get_or m₀ (caller_place j + b) 0
  pub windows : (j b : ℕ) → j < p.windows → b < 2 → get_or m' (window_low j + b) 0 ≡ get_or m₀ (window_low j + b) 0
  pub temporaries : (j b : ℕ) → j < p.run.top → b < 2 → get_or m' (temp_place j + b) 0 ≡ get_or m₀ (temp_place j + b) 0

-- the pairs of the marks from w on are back, and cells that are not in use are blank; of what stands behind the windows nothing else has changed
pub record Back (n : ℕ) (m m' : List ℕ) (p : Point) (w : ℕ) : Type 0 where
  pub unused : Unused n m' p.run.depth
  pub alive : (m₀ : List ℕ) → Lives n m m₀ p w → Alive n m₀ m' p
  pub other : (x : ℕ) → setting_place ≤ x → ((j b : ℕ) → j < p.run.top → b < 2 → x ≡ temp_place j + b → ⊥) → get_or m' x 0 ≡ get_or m x 0

-- ---- a checkpoint

-- the memory m₀ at the point p is kept from mark w on; a checkpoint has no forced outcome
pub record Saved (n : ℕ) (m m₀ : List ℕ) (p : Point) (w : ℕ) : Type 0 where
  pub lives : Lives n m m₀ p w
  pub unused : Unused n m₀ p.run.depth
  pub numbers : point_at m (w + size_of n p - number_count) ≡ p
  pub going : Going m₀ p
  pub same_length : length m₀ ≡ length m

-- nodes, tests, outcomes and starting pairs of that point still stand where they stood
pub record Agrees (m m₀ : List ℕ) (p : Point) : Type 0 where
  pub nodes : (k j : ℕ) → j < p.run.nodes → node_place j ≤ k → k < node_end j → get_or m k 0 ≡ get_or m₀ k 0
  pub tests : (k j : ℕ) → j < p.choices → test_place j ≤ k → k < outcome_end j → get_or m k 0 ≡ get_or m₀ k 0
  pub starts : starts_in m p.windows ≡ starts_in m₀ p.windows

-- the same point with outcomes forced from here on
abbrev pub forced : Point → ℕ → Point
forced p f = record { run = p.run; steps = p.steps; windows = p.windows; choices = p.choices; forced = f }

-- What stood at the point p in the memory m₀ stands there again, in m' at the point q: the machine and all beside it are the same, but for the outcomes that are forced, f of them.
pub record Restored (m m₀ m' : List ℕ) (p q : Point) (f : ℕ) : Type 0 where
  pub point : q ≡ forced p f
  pub machine : machine_at m' q.run ≡ machine_at m₀ p.run
  pub state : state_at m' q ≡ forcing (outcomes_in m p.choices f) (state_at m₀ p)
  pub going : Going m' q
  pub stays : Stays m m' p.run.nodes p.choices
  pub starts : (k : ℕ) → starts_in m' k ≡ starts_in m k

-- a checkpoint ends before mark w
pub record EndsBefore (n : ℕ) (m : List ℕ) (w : ℕ) : Type 0 where
  pub before : List ℕ
  pub point : Point
  pub start : ℕ
  pub size : w ≡ start + size_of n point
  pub saved : Saved n m before point start
  pub agrees : Agrees m before point
