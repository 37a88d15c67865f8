-- What list promises, in the words of the third demand, over texts, whole: "Take every job that is not refused, with any skip, budget and store, whatever was in the store."
use Rattle.std.specs.Prelude.{ℕ, ◌≤◌, ◌<◌, ◌≡◌, Bool, List, ◌∷◌, length, replicate, ℤ}
use Rattle.semantics.specs.Run.{Row}
use Rattle.semantics.specs.Search as S
use Rattle.semantics.specs.Search.{to, in_use, Close}
use Rattle.semantics.specs.Demand.{PlanList}
use Rattle.semantics.specs.Promise.{Promised}
use Rattle.simulation.specs.Code.{Code}
use Rattle.simulation.specs.Lister.{opening, searching}
use Rattle.simulation.specs.Back.{Searched, TakenBack}
use Rattle.simulation.specs.Placed.{Placed}
use Rattle.settings.specs.Rows.{sheet}
use Rattle.list.specs.List.{program, job_of, places, Left, listed}

-- rows written, moves made and an ending
abbrev pub answer_with : List Row → ℕ → Close → S.Answer
answer_with rows moves close = record { rows = rows; moves = moves; close = close }

-- The search goes path after path on the code c, and gives this answer: whatever bounds are set to the paths (k) and to the turns of each (n), if only they are large enough
pub record SearchOn (low high : ℤ) (steps skip room budget : ℕ) (a : S.Answer) (c : Code) : Type 0 where
  pub enough : ℕ
  pub gives : (k n : ℕ) → budget < k → enough ≤ n → searching in_use (to low high) c steps k n (opening skip room budget) ≡ a
  -- "Each choice taken back, anywhere in a search, leaves variables, windows and tests as they were when it was made."
  pub back : (earlier : List (List Bool)) (p q : List Bool) → Searched in_use (to low high) c steps (p ∷ earlier) q → TakenBack in_use (to low high) c steps (p ∷ earlier) q

pub record Keeps (text : List ℕ) (low high : ℤ) (steps skip budget : ℕ) (rows : List ℤ) (scratch : List ℕ) (left : Left) : Type 0 where
  -- "The plan list of a job is fixed by the runs alone": `plans` is what PlanList says, and no other list is
  pub plans : List Row
  pub fixed : PlanList (job_of text low high steps) plans
  pub alone : (other : List Row) → PlanList (job_of text low high steps) other → other ≡ plans
  pub written : List Row
  pub moves : ℕ
  pub ending : Close
  pub answered : left.answer ≡ listed (length written) moves ending
  -- the rows written stand in the slice, and then what it held; scratch is all zero
  pub slice : left.rows ≡ sheet rows written
  pub cleared : left.scratch ≡ replicate (length scratch) 0
  -- "When the search has ended, what is written equals the plan list less as many first rows as were to be skipped; wherever a search is stopped early, it is the front part of this that the search had found and had room for. The closing word of an ended search is 'cut' exactly when some choice of the job runs past a limit, else 'whole'." And when a search has ended, and how many moves it has made: of the endings only one can be
  pub closes : Promised in_use (job_of text low high steps) plans skip (places rows) budget (answer_with written moves ending)
  -- the text's program has a code, and the search is made on it: on this one as on every other in which the program is placed, list's own among them (`Codes`)
  pub code : Code
  pub coded : Placed code (program text)
  pub searches : (c : Code) → Placed c (program text) → SearchOn low high steps skip (places rows) budget (answer_with written moves ending) c
