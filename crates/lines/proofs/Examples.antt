-- Job lines and printed answers, by computation: each limit and one past it, and document 01's sample.
use Prim.Native.Nat.{ℕ}
use mathlib.Core.Path.{◌≡◌, refl}
use mathlib.Core.List.{List, [], ◌∷◌, ◌++◌, map}
use Rattle.std.specs.Prelude.{Option, None, Some}
use Rattle.lines.specs.declared.Job.{Job}
use lib.IntN.{ℤ, pos, negsuc}
use Rattle.lexer.specs.Lex.{bytes, all, same, decimal}
use Rattle.semantics.specs.Run.{Row}
use Rattle.semantics.specs.Search.{whole, cuts}
use Rattle.lines.specs.JobLine.{plain, minus, number_of, place, job_in, line_job}
use Rattle.printing.specs.Decimal.{digits, natural, integer}
use Rattle.lines.specs.Print.{refusal, spaced, row_line, row_lines, ending, last_line, printed}

-- a line ended by LF, then a text
abbrev line : List ℕ → Option Job
line l = line_job (l ++ 10 ∷ bytes "text")

abbrev job : ℤ → ℤ → ℕ → ℕ → Option Job
job l h s t = Some (record { low = l; high = h; steps = s; text = t })

lines-good : map line (
    bytes "job 0 3 100"
    ∷ bytes "job -2147483648 2147483647 -0"
    ∷ bytes "job 0000000007 -0 1001"
    ∷ []
    )
    ≡ job (pos 0) (pos 3) 100 12 ∷ job (negsuc 2147483647) (pos 2147483647) 0 30 ∷ job (pos 7) (pos 0) 1001 23 ∷ []
unfolding line_job job_in place number_of plain minus all same decimal
lines-good = refl

lines-bad : map line (
    bytes "job 0 2147483648 1"
    ∷ bytes "job -2147483649 0 1"
    ∷ bytes "job 00000000007 0 1"
    ∷ bytes "job 0 3 -1"
    ∷ bytes "job 0 3"
    ∷ bytes "job 0 3 "
    ∷ bytes "job 0 3 1 "
    ∷ bytes "job 0 3 1 1"
    ∷ bytes "job  0 3 1"
    ∷ bytes "job 0 +3 1"
    ∷ bytes "job 0 --3 1"
    ∷ bytes "job 0 - 1"
    ∷ bytes "job 0 3x 1"
    ∷ bytes " job 0 3 1"
    ∷ bytes "Job 0 3 1"
    ∷ bytes "jobs 0 3 1"
    ∷ (bytes "job 0 3 1" ++ 13 ∷ [])
    ∷ (bytes "job" ++ 9 ∷ bytes "0 3 1")
    ∷ []
    ∷ []
    )
    ≡ None ∷ None ∷ None ∷ None ∷ None ∷ None ∷ None ∷ None ∷ None ∷ None ∷ None ∷ None ∷ None ∷ None ∷ None ∷ None ∷ None ∷ None ∷ None ∷ []
unfolding line_job job_in place number_of plain minus all same decimal
lines-bad = refl

-- no LF at all, and no text
no_end : line_job (bytes "job 0 3 100") ≡ None
unfolding line_job job_in place number_of plain minus all same decimal
no_end = refl

no_text : line_job (bytes "job 0 3 100" ++ 10 ∷ []) ≡ job (pos 0) (pos 3) 100 12
unfolding line_job job_in place number_of plain minus all same decimal
no_text = refl

-- ---- printing

abbrev row : ℤ → List ℤ → Row
row z vs = record { result = z; values = vs }

-- the sample of document 01
sample : printed (record { rows = row (pos 0) (pos 0 ∷ []) ∷ row (pos 1) (pos 1 ∷ []) ∷ []; moves = 9; close = whole })
    ≡ bytes "0 : 0" ++ 10 ∷ bytes "1 : 1" ++ 10 ∷ bytes "whole 2 rows 9 moves" ++ 10 ∷ []
unfolding printed row_lines row_line spaced integer natural digits last_line ending
sample = refl

no-values : row_line (row (negsuc 11) []) ≡ bytes "-12 :" ++ 10 ∷ []
unfolding row_line spaced integer natural digits
no-values = refl

two-values : row_line (row (pos 100) (negsuc 0 ∷ pos 20 ∷ [])) ≡ bytes "100 : -1 20" ++ 10 ∷ []
unfolding row_line spaced integer natural digits
two-values = refl

refused : refusal 16 0 ≡ bytes "refused 16 at 0" ++ 10 ∷ []
unfolding refusal natural digits
refused = refl

none-cut : last_line cuts 0 51 ≡ bytes "cut 0 rows 51 moves" ++ 10 ∷ []
unfolding last_line ending natural digits
none-cut = refl
