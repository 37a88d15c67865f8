-- The code of a text, and what is searched on it.
use Rattle.std.specs.Prelude.{ℕ, ◌≡◌, List, ℤ, Result, Ok, Err}
use Rattle.syntax.specs.Refusals.{number_of}
use Rattle.syntax.specs.declared.refusal.Refusal.{Refusal}
use Rattle.checker.specs.Check.{Verdict, accepted, refused}
use Rattle.simulation.specs.Code.{Code}
use Rattle.simulation.specs.Placed.{Placed}
use Rattle.semantics.specs.Does.{does, Sure}
use Rattle.semantics.specs.Search as S
use Rattle.semantics.specs.Search.{known, work, in_use}
use Rattle.list.specs.List.{program, job_of, Left, lists, places as placesIn}

-- the code is that of the text's program
pub record Codes (text : List ℕ) (code : Code) : Type 0 where
  pub placed : Placed code (program text)

-- the code of an accepted text; or the text is refused as check refuses it
pub data Translates (text : List ℕ) (code : Code) : Result (Unit {0}) Refusal → Verdict → Type 0 where
  refuses : {r : Refusal} → Translates text code (Err r) (refused (number_of r.reason) r.place)
  has : Codes text code → Translates text code (Ok tt) accepted

-- on the code of any text of which no run reads a variable that holds nothing, what is answered and left is what list answers and leaves for it
pub record Searches (code : Code) (low high : ℤ) (steps skip budget : ℕ) (rows : List ℤ) (scratch : List ℕ) (left : Left) : Type 0 where
  pub is : (text : List ℕ) → Placed code (program text) → Sure (does known work steps (program text)) → left ≡ lists rows scratch (S.listed in_use (job_of text low high steps) skip (placesIn rows) budget)
