-- What the programs print for a job that is not refused, in the words of the third demand.
use Rattle.std.specs.Prelude.{ℕ, ◌≡◌, List, ◌++◌, length}
use Rattle.semantics.specs.Run.{Row}
use Rattle.semantics.specs.Search.{in_use, Close}
use Rattle.semantics.specs.Demand.{PlanList}
use Rattle.semantics.specs.Promise.{Promised}
use Rattle.list.specs.List as S
use Rattle.list.specs.Promise.{answer_with}
use Rattle.lines.specs.declared.Job.{Job}
use Rattle.lines.specs.Print.{row_lines, last_line}
use Rattle.pages.specs.Pages.{wall_sheet, sheet_bytes}
use Rattle.pages.specs.Laid.{Laid}
use Rattle.respond.specs.Output.{text_of}

-- What was written of a job's plan list. "When the search has ended, what is written equals the plan list ..; wherever a search is stopped early, it is the front part of this that the search had found and had room for. The closing word of an ended search is 'cut' exactly when some choice of the job runs past a limit, else 'whole'." (`Promised`, with skip 0, room for 1,000 rows, and a budget of 1,000,000 moves.) "The plan list of a job is fixed by the runs alone": `plans` is what PlanList says, and no other list is.
pub record Lists (input : List ℕ) (j : Job) : Type 0 where
  pub plans : List Row
  pub fixed : PlanList (S.job_of (text_of input j) j.low j.high j.steps) plans
  pub alone : (other : List Row) → PlanList (S.job_of (text_of input j) j.low j.high j.steps) other → other ≡ plans
  pub written : List Row
  pub moves : ℕ
  pub ending : Close
  pub closes : Promised in_use (S.job_of (text_of input j) j.low j.high j.steps) plans 0 1000 1000000 (answer_with written moves ending)

-- The first program: exactly the lines of the rows written, and the last line.
pub record Shows (input : List ℕ) (j : Job) (printed : List ℕ) : Type 0 where
  pub listed : Lists input j
  pub lines : printed ≡ row_lines listed.written ++ last_line listed.ending (length listed.written) listed.moves

-- The second: exactly the sheet of the rows written, with the ending's word, laid out as the slip says (`Laid`).
pub record Posts (input : List ℕ) (j : Job) (printed : List ℕ) : Type 0 where
  pub listed : Lists input j
  pub pages : printed ≡ sheet_bytes (wall_sheet listed.written listed.ending)
  pub laid : Laid listed.written listed.ending (wall_sheet listed.written listed.ending)
