-- What the writer answers, and what it leaves in the slice that it is lent (document 02, slip 7), for every text and every slice.
use Rattle.std.specs.Prelude.{ℕ, Bool, true, false, List, length, ltb, Result, Ok, Err}
use Rattle.std.proofs.lemmas.List.Edits.{sets}
use Rattle.syntax.specs.Refusals.{number_of}
use Rattle.syntax.specs.declared.refusal.Refusal.{Refusal}
use Rattle.checker.specs.Check as C
use Rattle.checker.specs.Check.{checked}
use Rattle.house_style.specs.Read.{written}
use Rattle.lines.specs.Print.{refusal}

-- the answer, a refusal's number and place or a length; and the bytes of the slice
pub data Answer : Type 0 where
  refused : (number place : ℕ) → Answer
  length-of : ℕ → Answer

pub record Left : Type 0 where
  pub answer : Answer
  pub bytes : List ℕ

abbrev pub left : Answer → List ℕ → Left
left a bs = record { answer = a; bytes = bs }

-- "with 20, place 0, if its output slice is too short for the whole, in which case nothing is written. Else it answers the length written; bytes after that keep their content."
abbrev pub if_short : Bool → List ℕ → List ℕ → Left
if_short true bs lent = left (refused 20 0) lent
if_short false bs lent = left (length-of (length bs)) (sets lent 0 bs)

abbrev pub into : List ℕ → List ℕ → Left
into bs lent = if_short (ltb (length lent) (length bs)) bs lent

-- "It refuses as check does, and then" so
abbrev pub answering : List ℕ → List ℕ → C.Verdict → Left
answering bs lent (C.refused n p) = left (refused n p) lent
answering bs lent C.accepted = into bs lent

unfoldable pub wrote : List ℕ → List ℕ → Left
wrote text lent = answering (written text) lent (checked text)

-- the paper's number and values for each case of the answer
abbrev pub answer_of : Result ℕ Refusal → Answer
answer_of (Err r) = refused (number_of r.reason) r.place
answer_of (Ok n) = length-of n

-- what the program `house` prints for a text: its house style, or `refused N at P`
unfoldable pub printed : List ℕ → List ℕ
printed text =
    elim (checked text) [
      | C.refused n p ↦ refusal n p
      | C.accepted ↦ written text
    ]
