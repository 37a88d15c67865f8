-- List (document 01, "The three operations and the program"): what it answers, and every word of rows and scratch at exit, for every input.
use Rattle.std.specs.Prelude.{ℕ, ◌/◌, cond, ◌||◌, List, [], length, replicate, ℤ, eqb, ltb}
use Rattle.std.specs.Prelude.{Option, None, Some}
use Rattle.std.specs.Int.Signed.{lt_z}
use Rattle.lexer.specs.Lex as L
use Rattle.lexer.specs.Lex.{lexed}
use Rattle.grammar.specs.Parse.{parsed, ok, bad}
use Rattle.checker.specs.Check as C
use Rattle.checker.specs.Check.{Verdict, kinds, checked, program_of}
use Rattle.semantics.specs.Program.{Program}
use Rattle.semantics.specs.Run.{numbers, Job}
use Rattle.semantics.specs.Search as S
use Rattle.semantics.specs.Search.{to, in_use, Close}
use Rattle.settings.specs.Rows.{sheet}

-- ---- the program of a text

-- The program of a text that check accepts: that of its tokens' tree, with names resolved. A text without tokens or tree is refused by check, and is given no function here.
abbrev pub no_program_there : Program
no_program_there = record { bodies = []; main = 0 }

unfoldable pub program : List ℕ → Program
program text = elim (lexed text) [ L.refused n p ↦ no_program_there | L.tokens ts ↦ elim (parsed (kinds ts)) [ bad m ↦ no_program_there | ok t m ↦ program_of text ts t ] ]

-- "A job is a text that check accepts, a window (low to high) and a step limit."
abbrev pub job_of : List ℕ → ℤ → ℤ → ℕ → Job
job_of text low high steps = record { program = program text; window = to low high; steps = steps }

-- ---- the answer

-- a refusal, by number and place; or "rows written, moves made and an ending": whole, cut, full or spent
pub data Answer : Type 0 where
  refused : (number place : ℕ) → Answer
  listed : (rows moves : ℕ) (ending : Close) → Answer

-- the answer, and the words of both slices at exit
pub record Left : Type 0 where
  pub answer : Answer
  pub rows : List ℤ
  pub scratch : List ℕ

-- "It refuses, place 0: 11 scratch under 16,384 words; 12 low above high; 13 over 4,096 values; 14 steps 0 or over 1,000"
unfoldable pub ground : (words : ℕ) (low high : ℤ) (steps : ℕ) → Option ℕ
ground words low high steps =
    cond (ltb words 16384) (Some 11)
    (cond (lt_z high low) (Some 12)
    (cond (ltb 4096 (length (numbers (to low high)))) (Some 13)
    (cond (eqb steps 0 || ltb 1000 steps) (Some 14) None)))

-- "A refusal writes nothing into what was lent."
abbrev pub refuses : List ℤ → List ℕ → (number place : ℕ) → Left
refuses rows scratch n p = record { answer = refused n p; rows = rows; scratch = scratch }

-- "Else scratch is left all zero, with rows written, moves made and an ending": the rows of the search from the slice's start on, and then what it held
abbrev pub lists : List ℤ → List ℕ → S.Answer → Left
lists rows scratch a = record { answer = listed (length a.rows) a.moves a.close; rows = sheet rows a.rows; scratch = replicate (length scratch) 0 }

-- the first ground for a refusal, ".. then as check. Else .." what the search has found
abbrev pub answering : List ℤ → List ℕ → S.Answer → Option ℕ → Verdict → Left
answering rows scratch found (Some n) v = refuses rows scratch n 0
answering rows scratch found None (C.refused n p) = refuses rows scratch n p
answering rows scratch found None C.accepted = lists rows scratch found

-- "as many rows as the slice has whole tens of words"
abbrev pub places : List ℤ → ℕ
places rows = length rows / 10

-- "List takes text, low and high (32 bits, signed), step limit, rows to skip and a budget of moves (all three 32 bits, unsigned), a rows slice and a scratch slice of 32-bit words."
unfoldable pub list : List ℕ → ℤ → ℤ → (steps skip budget : ℕ) → List ℤ → List ℕ → Left
list text low high steps skip budget rows scratch =
    answering rows scratch (S.listed in_use (job_of text low high steps) skip (places rows) budget) (ground (length scratch) low high steps) (checked text)
