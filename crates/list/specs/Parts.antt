-- What the answers of list and its parts stand for.
use Rattle.std.specs.Prelude.{ℕ, List, ℤ, Option, None, Some, Result, Ok, Err}
use Rattle.syntax.specs.Refusals.{number_of}
use Rattle.syntax.specs.declared.refusal.Reason.{Reason}
use Rattle.syntax.specs.declared.refusal.Refusal.{Refusal}
use Rattle.search.specs.declared.Answered.{Answered}
use Rattle.search.specs.Loop.{close_of}
use Rattle.list.specs.List.{Answer, refused, listed, Left}

-- list's answer, in document 01's words: number and place; or rows written, moves made and the ending
abbrev pub answer_of : Result Answered Refusal → Answer
answer_of (Err r) = refused (number_of r.reason) r.place
answer_of (Ok a) = listed a.written a.moves (close_of a.ending)

-- the answer, with the words of both slices at exit
abbrev pub leaves : Result Answered Refusal → List ℤ → List ℕ → Left
leaves r rows scratch = record { answer = answer_of r; rows = rows; scratch = scratch }

-- a ground for a refusal, by its number
abbrev pub ground_of : Option Reason → Option ℕ
ground_of None = None
ground_of (Some r) = Some (number_of r)
