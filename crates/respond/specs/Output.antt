-- The programs (document 01, "The program"; document 02, slip 3): all that they print, for every input. The input is the list of its bytes.
use Rattle.std.specs.Prelude.{ℕ, ◌+◌, Bool, true, ◌&&◌, ◌||◌, List, ◌++◌, ltb, length, drop, replicate, ℤ, pos, Option, None, Some, is_some}
use Rattle.lines.specs.declared.Job.{Job}
use Rattle.lines.specs.JobLine.{line_job, line_settled}
use Rattle.lines.specs.Print.{refusal, row_lines, last_line}
use Rattle.lines.specs.Written.{rows_from}
use Rattle.pages.specs.Pages.{wall_sheet, sheet_bytes}
use Rattle.list.specs.List.{Answer, refused, listed, Left, ground, list}

-- "a line `job LOW HIGH STEPS` ended by LF .., then the text"
abbrev pub text_of : List ℕ → Job → List ℕ
text_of input j = drop j.text input

-- "It lists with 1,000 rows, skip 0, budget 1,000,000.": ten words for each row, and the scratch that list asks for, all zero
abbrev pub row_words : List ℤ
row_words = replicate 10000 (pos 0)

abbrev pub scratch_words : List ℕ
scratch_words = replicate 16384 0

unfoldable pub listing : (text : List ℕ) (low high : ℤ) (steps : ℕ) → Left
listing text low high steps = list text low high steps 0 1000000 row_words scratch_words

-- ---- what is answered, before it is printed: a bad job line, or what list answers and leaves

pub data Answered : Type 0 where
  bad_line : Answered
  by_list : Left → Answered

abbrev pub answered_for : List ℕ → Option Job → Answered
answered_for input None = bad_line
answered_for input (Some j) = by_list (listing (text_of input j) j.low j.high j.steps)

unfoldable pub answered : List ℕ → Answered
answered input = answered_for input (line_job input)

-- ---- in lines: the first program

-- "a refusal prints `refused N at P`", and "after a refusal its line is the only one"; else a line for each row that was written, and the last line
unfoldable pub shown : Answer → List ℤ → List ℕ
shown (refused n p) rows = refusal n p
shown (listed k m c) rows = row_lines (rows_from k rows) ++ last_line c k m

-- "A bad job line is refusal 16 at 0"
abbrev pub in_lines : Answered → List ℕ
in_lines bad_line = refusal 16 0
in_lines (by_list l) = shown l.answer l.rows

unfoldable pub output : List ℕ → List ℕ
output input = in_lines (answered input)

-- ---- on pages: "A second program prints them from the first one's input, and a refusal as the first does."

-- the sheet of the rows that were written, with the ending's word
unfoldable pub laid_out : Answer → List ℤ → List ℕ
laid_out (refused n p) rows = refusal n p
laid_out (listed k m c) rows = sheet_bytes (wall_sheet (rows_from k rows) c)

abbrev pub on_pages : Answered → List ℕ
on_pages bad_line = refusal 16 0
on_pages (by_list l) = laid_out l.answer l.rows

unfoldable pub posted : List ℕ → List ℕ
posted input = on_pages (answered input)

-- ---- how much input the programs need: input that never ends is read no further than the answer needs

-- a bad job line, a job that is refused whatever its text, or a text that is too long already, of these many bytes of input
abbrev pub job_enough : ℕ → Option Job → Bool
job_enough n None = true
job_enough n (Some j) = is_some (ground 16384 j.low j.high j.steps) || ltb (j.text + 2048) n

unfoldable pub enough_input : List ℕ → Bool
enough_input input = line_settled input && job_enough (length input) (line_job input)
