-- What the programs print: document 01, "The program", and the line for a text that is only checked.
use Rattle.std.specs.Prelude.{ℕ, List, [], ◌∷◌, ◌++◌, map, length, ℤ, pos}
use Rattle.lexer.specs.Lex.{bytes}
use Rattle.printing.specs.Decimal.{natural, integer}
use Rattle.semantics.specs.Run.{Row}
use Rattle.semantics.specs.Search.{Close, whole, cuts, full, spent, Answer}

-- "Each line ends with LF"
abbrev pub line_end : List ℕ
line_end = 10 ∷ []

-- "a refusal prints `refused N at P`"
unfoldable pub refusal : ℕ → ℕ → List ℕ
refusal number place = bytes "refused " ++ natural number ++ bytes " at " ++ natural place ++ line_end

-- "Row: result, colon, values, single blanks; with no values it ends after the colon."
unfoldable pub spaced : List ℤ → List ℕ
spaced [] = []
spaced (v ∷ vs) = (bytes " " ++ integer v) ++ spaced vs

unfoldable pub row_line : Row → List ℕ
row_line r = integer r.result ++ bytes " :" ++ spaced r.values ++ line_end

unfoldable pub row_lines : List Row → List ℕ
row_lines [] = []
row_lines (r ∷ rs) = row_line r ++ row_lines rs

unfoldable pub ending : Close → List ℕ
ending whole = bytes "whole"
ending cuts = bytes "cut"
ending full = bytes "full"
ending spent = bytes "spent"

-- "Last line: ending, rows written, the word `rows`, moves, the word `moves`, single blanks between."
unfoldable pub last_line : Close → ℕ → ℕ → List ℕ
last_line c rows moves = ending c ++ bytes " " ++ natural rows ++ bytes " rows " ++ natural moves ++ bytes " moves" ++ line_end

-- all that is printed of an answer
unfoldable pub printed : Answer → List ℕ
printed a = row_lines a.rows ++ last_line a.close (length a.rows) a.moves

-- ---- what the checking program prints for a text that is accepted: the word, and the offsets of remarks as a row's values
unfoldable pub acceptance : List ℕ → List ℕ
acceptance offsets = bytes "accepted" ++ spaced (map pos offsets) ++ line_end
