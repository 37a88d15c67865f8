-- What the printing functions ask of an answer, and how far they write.
use Rattle.std.specs.Prelude.{ℕ, ◌≤◌, List, ℤ}
use Rattle.list.specs.List.{Answer, refused, listed}
use Rattle.respond.specs.declared.Layout.{Layout}
use Rattle.respond.specs.declared.Layout.TheVariants.{Lines, Sheet}
use Rattle.lines.specs.Print.{refusal}
use Rattle.respond.specs.Output.{Answered, bad_line, by_list, shown, laid_out}

-- the rows that an answer counts, and the place that it names
abbrev pub count_in : Answer → ℕ
count_in (refused n p) = 0
count_in (listed k m c) = k

abbrev pub place_in : Answer → ℕ
place_in (refused n p) = p
place_in (listed k m c) = 0

-- list's answers to the program: at most 1,000 rows, and a place in the text or at its end
pub record Small (a : Answer) : Type 0 where
  pub few : count_in a ≤ 1000
  pub near : place_in a ≤ 2048

-- which way to print
abbrev pub printed_of : Layout → Answer → List ℤ → List ℕ
printed_of Sheet a rows = laid_out a rows
printed_of Lines a rows = shown a rows

abbrev pub printed_for : Layout → Answered → List ℕ
printed_for y bad_line = refusal 16 0
printed_for y (by_list l) = printed_of y l.answer l.rows

-- the most bytes of it: 18 pages of 4,860; or 1,000 rows of at most 110 and a last line of at most 39
abbrev pub size_of : Layout → ℕ
size_of Sheet = 87480
size_of Lines = 110039
