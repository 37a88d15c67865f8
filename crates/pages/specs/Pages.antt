-- The sheet for the wall: document 02, slip 3. A line is the list of its characters, without its LF; a page is the list of its lines, a sheet the list of its pages.
use Rattle.std.specs.Prelude.{ℕ, zero, suc, ◌-◌, true, false, List, [], ◌∷◌, ◌++◌, map, length, take, drop, ltb, leb, ℤ}
use Rattle.lexer.specs.Lex.{bytes}
use Rattle.printing.specs.Decimal.{natural, integer}
use Rattle.printing.specs.Written.{blanks}
use Rattle.semantics.specs.Run.{Row}
use Rattle.semantics.specs.Search.{Close}
use Rattle.lines.specs.Print.{line_end, ending}

abbrev pub Line : Type 0
Line = List ℕ

abbrev pub Page : Type 0
Page = List Line

-- "right-aligned", in so many columns
unfoldable pub right : ℕ → List ℕ → List ℕ
right width word = blanks (width - length word) ++ word

-- "lines of 80 characters, each line filled with blanks" (No words of a sheet are longer: proofs/Widths.)
unfoldable pub filled : List ℕ → Line
filled words = take 80 (words ++ blanks 80)

-- ---- lines 2 to 59

-- "columns of 8 for the values, right-aligned", "A value wider than 8 is shown as eight `#`."
unfoldable pub column : ℤ → List ℕ
column v = elim (ltb 8 (length (integer v))) [ true ↦ bytes "########" | false ↦ right 8 (integer v) ]

-- so many columns for the values, "blank where unused"
unfoldable pub columns : ℕ → List ℤ → List ℕ
columns zero vs = []
columns (suc n) [] = blanks 8 ++ columns n []
columns (suc n) (v ∷ vs) = column v ++ columns n vs

-- "a result in 12 columns, right-aligned, then eight columns of 8 for the values, .., then 4 blanks"
unfoldable pub row_across : Row → List ℕ
row_across r = (right 12 (integer r.result) ++ columns 8 r.values) ++ blanks 4

-- so many lines for the rows; "unused row lines are blank"
unfoldable pub rows_down : ℕ → List Row → List (List ℕ)
rows_down zero rows = []
rows_down (suc n) [] = [] ∷ rows_down n []
rows_down (suc n) (r ∷ rows) = row_across r ∷ rows_down n rows

-- ---- line 1

-- "Of a page number over 99,999 the last five digits stand."
unfoldable pub last_five : List ℕ → List ℕ
last_five ds = drop (length ds - 5) ds

-- "the words `plan list`, two blanks and the page number, .., in 5 columns, right-aligned"
unfoldable pub heading : ℕ → List ℕ
heading number = (bytes "plan list" ++ blanks 2) ++ right 5 (last_five (natural number))

-- ---- pages

-- "pages of 60 lines": line 1, lines 2 to 59, and line 60 with this word or none
unfoldable pub page : ℕ → List Row → List ℕ → Page
page number rows foot = map filled (heading number ∷ (rows_down 58 rows ++ (foot ∷ [])))

-- The pages from this number on, for these rows and this word: where all the rows have place, the last page, with "the ending's word from column 1"; else a full page, "blanks" on its line 60, and the pages for the other rows. (k is more than the pages can be.)
unfoldable pub pages_from : ℕ → ℕ → List Row → List ℕ → List Page
pages_from zero number rows word = []
pages_from (suc k) number rows word = elim (leb (length rows) 58) [
  | true ↦ page number rows word ∷ []
  | false ↦ page number (take 58 rows) [] ∷ pages_from k (suc number) (drop 58 rows) word
]

-- "the page number, from 1"; "No rows still make one page."
unfoldable pub wall_sheet : List Row → Close → List Page
wall_sheet rows close = pages_from (suc (length rows)) 1 rows (ending close)

-- ---- bytes

-- "each line .. ended by LF"
unfoldable pub page_bytes : Page → List ℕ
page_bytes [] = []
page_bytes (l ∷ ls) = (l ++ line_end) ++ page_bytes ls

unfoldable pub sheet_bytes : List Page → List ℕ
sheet_bytes [] = []
sheet_bytes (p ∷ ps) = page_bytes p ++ sheet_bytes ps
