-- What has been counted, as the code holds it, and what trying settings answers.
use Rattle.std.specs.Prelude.{◌≡◌, Bool, List, map, ℕ, ◌+◌, ◌-◌, ◌*◌, ◌≤◌, ◌<◌, get_or, ℤ, pos, Result, Ok, Err}
use Rattle.semantics.specs.Search as search
use Rattle.semantics.specs.Search.{full, spent}
use Rattle.simulation.specs.Nodes.{meaning, test_of}
use Rattle.simulation.specs.Lister as lister
use Rattle.simulation.specs.Lister.{Next, go, over, closed, tally}
use Rattle.machine.specs.Memory.{nodes_in, windows_in, tests_in}
use Rattle.machine.specs.Terms.{cell_of}
use Rattle.machine.specs.declared.Value.{Value}
use Rattle.settings.specs.Table.{Steady}
use Rattle.settings.specs.Rows.{rows_at, row_at, words_from, words_of}
use Rattle.settings.specs.declared.Tally.{Tally}
use Rattle.settings.specs.declared.Stopped.{Stopped}
use Rattle.settings.specs.declared.Stopped.TheVariants.{Full, Spent}

-- what has been counted; the rows written are the first ones of the slice
abbrev pub tally_of : List ℤ → Tally → lister.Tally
tally_of rows t = tally t.budget t.skip t.room (rows_at rows t.written) t.moves t.cut

-- the answer, where the search is over: "full: a row past the skipped ones was found and has no place"; "spent: the budget was made and the search has not ended"
abbrev pub stops : List ℤ → Stopped → search.Answer
stops rows (Full t) = closed full (tally_of rows t)
stops rows (Spent t) = closed spent (tally_of rows t)

-- the search goes on, or is over
abbrev pub next_of : List ℤ → Result Tally Stopped → Next lister.Tally
next_of rows (Ok t) = go (tally_of rows t)
next_of rows (Err e) = over (stops rows e)

abbrev pub tally_in : Result Tally Stopped → Tally
tally_in (Ok t) = t
tally_in (Err (Full t)) = t
tally_in (Err (Spent t)) = t

-- one move made
abbrev pub spending : Tally → Tally
spending t = record { budget = t.budget - 1; skip = t.skip; room = t.room; written = t.written; moves = t.moves + 1; cut = t.cut }

-- so many moves left of the budget: the others were made
abbrev pub leaving : Tally → ℕ → Tally
leaving t left = record { budget = left; skip = t.skip; room = t.room; written = t.written; moves = t.moves + (t.budget - left); cut = t.cut }

-- whether a cut run was found
abbrev pub cutting : Tally → Bool → Tally
cutting t b = record { budget = t.budget; skip = t.skip; room = t.room; written = t.written; moves = t.moves; cut = b }

-- the tests of a memory, with n nodes
abbrev pub tests : List ℕ → ℕ → ℕ → List search.Test
tests m n t = map (test_of (nodes_in m n)) (tests_in m t)

-- the moves made and those left fit a word, and the rows written and those that have a place fit the slice
pub record Fair (size : ℕ) (t : Tally) : Type 0 where
  pub sum : t.moves + t.budget < 4294967296
  pub place : 10 * (t.written + t.room) ≤ size

-- what was counted from t to u: each move comes from the budget, and each row from the places left
pub record Counts (t u : Tally) : Type 0 where
  pub sum : u.moves + u.budget ≡ t.moves + t.budget
  pub places : u.written + u.room ≡ t.written + t.room
  pub more : t.written ≤ u.written
  pub spends : u.budget ≤ t.budget

-- if the search goes on, a move was made
abbrev pub Moved : ℕ → Result Tally Stopped → Type 0
Moved b (Ok u) = u.budget < b
Moved b (Err e) = Unit {0}

-- what was done is d, whatever the rows are, and the answer is r; no row was written
pub record Counted (t : Tally) (d : List ℤ → Next lister.Tally) (r : Result Tally Stopped) : Type 0 where
  pub is : (rows : List ℤ) → next_of rows r ≡ d rows
  pub counts : Counts t (tally_in r)
  pub same : (tally_in r).written ≡ t.written

-- the same, where a move was made, or the search is over
pub record Charged (t : Tally) (d : List ℤ → Next lister.Tally) (r : Result Tally Stopped) : Type 0 where
  pub counted : Counted t d r
  pub moved : Moved t.budget r

-- rows n to k - 1 were written, each with its ten words, and no other word changed
pub record Rowed (rows rows' : List ℤ) (n k : ℕ) : Type 0 where
  pub other : (j : ℕ) → (10 * n ≤ j → j < 10 * k → ⊥) → get_or rows' j (pos 0) ≡ get_or rows j (pos 0)
  pub words : (i : ℕ) → n ≤ i → i < k → words_from rows' (10 * i) 10 ≡ words_of (row_at rows' i)

-- what was done is d, with the rows rows; then they are rows', and the answer is r
pub record Placing (rows rows' : List ℤ) (t : Tally) (d : Next lister.Tally) (r : Result Tally Stopped) : Type 0 where
  pub is : next_of rows' r ≡ d
  pub counts : Counts t (tally_in r)
  pub rowed : Rowed rows rows' t.written (tally_in r).written

-- the same, where a move was made, or the search is over
pub record Trying (rows rows' : List ℤ) (t : Tally) (d : Next lister.Tally) (r : Result Tally Stopped) : Type 0 where
  pub placed : Placing rows rows' t d r
  pub moved : Moved t.budget r

-- ---- settings of a path with n nodes, c tests and k windows, in the memory m, which then is m'

-- at a return of v
abbrev pub AllTrials : List ℕ → List ℕ → ℕ → ℕ → ℕ → Value → List ℤ → List ℤ → Tally → Result Tally Stopped → Type 0
AllTrials m m' n c k v rows rows' t r =
    Placing rows rows' t (lister.trials (meaning (nodes_in m n) (cell_of v)) (tests m n c) (search.settings (windows_in m k)) (tally_of rows t)) r × Steady m m'

-- at a cut
abbrev pub AllProbes : List ℕ → List ℕ → ℕ → ℕ → ℕ → Tally → Result Tally Stopped → Type 0
AllProbes m m' n c k t r = Counted t (λ rows. lister.probes (tests m n c) (search.settings (windows_in m k)) (tally_of rows t)) r × Steady m m'
