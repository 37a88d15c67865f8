-- The search in lent memory, path after path, and its answer.
use Rattle.std.specs.Prelude.{ℕ, ◌+◌, ◌-◌, ◌≤◌, ◌<◌, ◌≡◌, Bool, List, get_or, ℤ, Option as Maybe, Some, None, Result, Ok, Err}
use Rattle.std.proofs.Math.Option.{Option, none, some}
use Rattle.semantics.specs.Does.{does, Sure}
use Rattle.semantics.specs.Program as program
use Rattle.semantics.specs.Run.{Job}
use Rattle.semantics.specs.Search.{known, work, in_use, Close, whole, cuts, full, spent, Answer, listed}
use Rattle.simulation.specs.Code.{Code}
use Rattle.simulation.specs.Machine.{start}
use Rattle.simulation.specs.Path.{begins, End}
use Rattle.simulation.specs.Lister as lister
use Rattle.simulation.specs.Lister.{go, over, then, next, Start, finish, back, path}
use Rattle.simulation.specs.Placed.{Placed}
use Rattle.machine.specs.Layout.{setting_place, setting_end, number_place, outcome_place}
use Rattle.machine.specs.Memory.{outcomes_in}
use Rattle.settings.specs.declared.Tally.{Tally}
use Rattle.settings.specs.declared.Stopped.{Stopped}
use Rattle.settings.specs.declared.Stopped.TheVariants as settings
use Rattle.settings.specs.Rows.{rows_at, sheet}
use Rattle.settings.specs.Tries.{tally_of, tally_in, next_of, Counts, Rowed}
use Rattle.paths.specs.declared.Point.{Point}
use Rattle.paths.specs.Point.{state_at}
use Rattle.simulation.specs.Measure.{most_turns}
use Rattle.walks.specs.Walk.{Begins}
use Rattle.search.specs.declared.Next.{Next}
use Rattle.search.specs.declared.Ending.{Ending}
use Rattle.search.specs.declared.Ending.TheVariants.{Whole, Cuts, Full, Spent}
use Rattle.search.specs.declared.Answered.{Answered}

-- ---- the next path

-- the outcomes that are forced on the next path, where there is one; they stand in the memory
abbrev pub forced_in : List ℕ → Maybe ℕ → Option (List Bool)
forced_in m None = none
forced_in m (Some k) = some (outcomes_in m 0 k)

-- of n choices the last of the first k was taken back: no word but its outcome's changed
pub record Flips (m m' : List ℕ) (n k : ℕ) : Type 0 where
  pub some : 1 ≤ k
  pub most : k ≤ n
  pub other : (i : ℕ) → (i ≡ outcome_place (k - 1) → ⊥) → get_or m' i 0 ≡ get_or m i 0

abbrev pub FlipsBy : List ℕ → List ℕ → ℕ → Maybe ℕ → Type 0
FlipsBy m m' n None = m' ≡ m
FlipsBy m m' n (Some k) = Flips m m' n k

-- of n choices the newest true one was taken back, if there is one
pub record NewestBack (m m' : List ℕ) (n : ℕ) (r : Maybe ℕ) : Type 0 where
  pub is : forced_in m' r ≡ next (outcomes_in m 0 n)
  pub flips : FlipsBy m m' n r

-- ---- the answer

abbrev pub close_of : Ending → Close
close_of Whole = whole
close_of Cuts = cuts
close_of Full = full
close_of Spent = spent

-- the answer; its rows are the first ones of the slice
abbrev pub answer_of : List ℤ → Answered → Answer
answer_of rows a = record { rows = rows_at rows a.written; moves = a.moves; close = close_of a.ending }

-- the answer where so much was counted
abbrev pub closes : Tally → Ending → Answered
closes t e = record { written = t.written; moves = t.moves; ending = e }

-- the answer where the search was stopped
abbrev pub stopping : Stopped → Answered
stopping (settings.Full t) = closes t Full
stopping (settings.Spent t) = closes t Spent

-- ---- what follows a path: the outcomes forced on the next one, by their count, and what was counted; or the answer

-- where a path starts
abbrev pub start_of : List ℕ → List ℤ → ℕ → Tally → Start
start_of m rows k t = record { forced = outcomes_in m 0 k; tally = tally_of rows t }

-- another path, or the answer
abbrev pub then_of : List ℕ → List ℤ → Result (ℕ × Tally) Answered → lister.Next Start
then_of m rows (Ok x) = go (start_of m rows x.0 x.1)
then_of m rows (Err a) = over (answer_of rows a)

abbrev pub written_in : Result (ℕ × Tally) Answered → ℕ
written_in (Ok x) = x.1.written
written_in (Err a) = a.written

-- of what was counted, this many rows are written at last: each from the places left
pub record Adds (t : Tally) (n : ℕ) : Type 0 where
  pub more : t.written ≤ n
  pub most : n ≤ t.written + t.room

abbrev pub Onward : Tally → Result (ℕ × Tally) Answered → Type 0
Onward t (Ok x) = Counts t x.1
Onward t (Err a) = Adds t a.written

-- where another path follows, a choice was taken back
abbrev pub Leaves : List ℕ → List ℕ → ℕ → Result (ℕ × Tally) Answered → Type 0
Leaves m m' n (Ok x) = Flips m m' n x.0
Leaves m m' n (Err a) = Unit {0}

-- after x the newest of n choices was taken back, which is a move, or the search is over
pub record Backed (m m' : List ℕ) (n : ℕ) (x : Result Tally Stopped) (r : Result (ℕ × Tally) Answered) : Type 0 where
  pub is : (rows : List ℤ) → then_of m' rows r ≡ then (next_of rows x) (back (outcomes_in m 0 n))
  pub onward : Onward (tally_in x) r
  pub same : written_in r ≡ (tally_in x).written
  pub leaves : Leaves m m' n r

-- at a path's end settings were tried and the last of the first k choices, of n, was taken back: no word but the setting's, the nodes' numbers and that outcome changed
pub record Backtracks (m m' : List ℕ) (n k : ℕ) : Type 0 where
  pub some : 1 ≤ k
  pub most : k ≤ n
  pub other : (i : ℕ) → (setting_place ≤ i → i < setting_end → ⊥) → ((j : ℕ) → i ≡ number_place j → ⊥) → (i ≡ outcome_place (k - 1) → ⊥) → get_or m' i 0 ≡ get_or m i 0

abbrev pub BacktracksBy : List ℕ → List ℕ → ℕ → Result (ℕ × Tally) Answered → Type 0
BacktracksBy m m' n (Ok x) = Backtracks m m' n x.0
BacktracksBy m m' n (Err a) = Unit {0}

-- what is done at a path's end e, at the point p
pub record Finished (m m' : List ℕ) (rows rows' : List ℤ) (e : End) (p : Point) (t : Tally) (r : Result (ℕ × Tally) Answered) : Type 0 where
  pub is : then_of m' rows' r ≡ then (finish e (state_at m p) (tally_of rows t)) (back (outcomes_in m 0 p.choices))
  pub onward : Onward t r
  pub rowed : Rowed rows rows' t.written (written_in r)
  pub backtracks : BacktracksBy m m' p.choices r

-- one path, and what is done at its end
pub record Round (c : Code) (job : program.Window) (limit : ℕ) (m m' : List ℕ) (rows rows' : List ℤ) (forced : ℕ) (t : Tally) (r : Result (ℕ × Tally) Answered) : Type 0 where
  pub is : then_of m' rows' r ≡ path in_use job c limit (most_turns c limit) (start known work c) (begins limit (outcomes_in m 0 forced)) (tally_of rows t)
  pub onward : Onward t r
  pub rowed : Rowed rows rows' t.written (written_in r)

-- the next path without the checkpoints before it
abbrev pub ahead : Result Next Answered → Result (ℕ × Tally) Answered
ahead (Ok s) = Ok (s.forced, s.tally)
ahead (Err a) = Err a

-- and where another path follows, the checkpoints before it: what stood where its last choice was made still stands there, or is kept
abbrev pub Resumes : Code → program.Window → List ℕ → ℕ → Result Next Answered → Type 0
Resumes c job m' limit (Ok s) = Begins c job m' s.forced s.stack × (s.stack.limit ≡ limit)
Resumes c job m' limit (Err a) = Unit {0}

-- ---- the search

-- the answer to every job with this window and limit, whose program the code is, and of which no run reads a variable that holds nothing; the slice holds its rows, and behind them what it held
pub record Lists (c : Code) (window : program.Window) (limit skip room budget : ℕ) (rows rows' : List ℤ) (a : Answered) : Type 0 where
  pub is : (j : Job) → Placed c j.program → Sure (does known work j.steps j.program) → j.window ≡ window → j.steps ≡ limit → answer_of rows' a ≡ listed in_use j skip room budget
  pub sheet : rows' ≡ sheet rows (answer_of rows' a).rows
  pub few : a.written ≤ room
