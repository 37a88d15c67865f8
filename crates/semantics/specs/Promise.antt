-- What list promises of its answer, by its ending, where `plans` is the job's plan list (`PlanList` of Demand says which that is). "Written by list, whatever the lent slices held: .."
use Rattle.std.specs.Prelude.{ℕ, suc, ◌+◌, ◌≤◌, ◌<◌, ◌≡◌, List, ◌++◌, length, take, drop}
use Rattle.semantics.specs.Run.{Row, Job}
use Rattle.semantics.specs.Search.{Solver, search, rows_within, whole, cuts, full, spent, Answer}
use Rattle.semantics.specs.Demand.{SomeCut}

module _ (v : Solver) (j : Job) (plans : List Row) (skip room budget : ℕ) (a : Answer) where
  -- "at whole or cut, the plan list less the first rows to be skipped (all, if it has no more)": all moves are made, and each row past the skipped ones has a place
  pub record Ended : Type 0 where
    pub time : length (search v j) ≤ budget
    pub place : length plans ≤ skip + room
    pub made : a.moves ≡ length (search v j)
    pub written : a.rows ≡ drop skip plans

  -- "at full, the front part of this with as many rows as the slice has whole tens of words, more remaining": the last move, within the budget, is the first to find a row too many
  pub record Full : Type 0 where
    pub last : ℕ
    pub time : suc last ≤ budget
    pub place : length (rows_within (take last (search v j))) ≡ skip + room
    pub over : length (rows_within (take (suc last) (search v j))) ≡ suc (skip + room)
    pub made : a.moves ≡ suc last
    pub written : a.rows ≡ take room (drop skip plans)
    pub more : skip + room < length plans

  -- "at spent, under any budget, the front part of this that the moves made have found": the budget is made, moves are left, and no row was too many
  pub record Spent : Type 0 where
    pub time : budget < length (search v j)
    pub place : length (rows_within (take budget (search v j))) ≤ skip + room
    pub made : a.moves ≡ budget
    pub written : a.rows ≡ drop skip (rows_within (take budget (search v j)))
    pub rest : List Row
    pub front : drop skip plans ≡ a.rows ++ rest

  -- "The closing word of an ended search is 'cut' exactly when some choice of the job runs past a limit, else 'whole'." Of the four only one can be.
  pub data Promised : Type 0 where
    at_whole : a.close ≡ whole → Ended → (SomeCut j → ⊥) → Promised
    at_cut : a.close ≡ cuts → Ended → SomeCut j → Promised
    at_full : a.close ≡ full → Full → Promised
    at_spent : a.close ≡ spent → Spent → Promised
