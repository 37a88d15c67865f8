-- What holds of a sheet, in the slip's words: where each line stands, and where each row.
use Rattle.std.specs.Prelude.{ℕ, suc, ◌+◌, ◌*◌, ◌/◌, ◌%◌, ◌<◌, ◌≤◌, max, ◌≡◌, List, [], length, get_or, take, drop, pos}
use Rattle.printing.specs.Written.{blanks}
use Rattle.semantics.specs.Run.{Row}
use Rattle.semantics.specs.Search.{Close}
use Rattle.lines.specs.Print.{ending}
use Rattle.pages.specs.Pages.{Line, Page, filled, row_across, heading, sheet_bytes}

-- Page p and line l, both counted from 0, so that line 1 of the paper is line 0 here.
abbrev pub line_at : List Page → ℕ → ℕ → Line
line_at sheet p l = get_or (get_or sheet p []) l []

-- what stands for a row where there is none; no row is taken from past the end below
abbrev pub no_row : Row
no_row = record { result = pos 0; values = [] }

pub record Laid (rows : List Row) (close : Close) (sheet : List Page) : Type 0 where
  -- 58 rows a page, and "No rows still make one page": the greater of 1 and the rows divided by 58, rounded up
  pub pages : length sheet ≡ max 1 ((length rows + 57) / 58)
  -- "pages of 60 lines of 80 characters"
  pub sixty : (p : ℕ) → p < length sheet → length (get_or sheet p []) ≡ 60
  pub eighty : (p l : ℕ) → p < length sheet → l < 60 → length (line_at sheet p l) ≡ 80
  -- "Line 1 has .. the page number, from 1"
  pub headed : (p : ℕ) → p < length sheet → line_at sheet p 0 ≡ filled (heading (suc p))
  -- "Lines 2 to 59 hold rows": row i, counted from 0, stands on page i / 58 and there on row line i % 58, and "unused row lines are blank". So each row of the list stands once, in the list's order, and no other row.
  pub held : (i : ℕ) → i < length rows → line_at sheet (i / 58) (suc (i % 58)) ≡ filled (row_across (get_or rows i no_row))
  pub unused : (p l : ℕ) → p < length sheet → l < 58 → length rows ≤ 58 * p + l → line_at sheet p (suc l) ≡ blanks 80
  -- "Line 60 has the ending's word from column 1 on the last page and blanks before that."
  pub ends : (p : ℕ) → suc p ≡ length sheet → line_at sheet p 59 ≡ filled (ending close)
  pub before : (p : ℕ) → suc p < length sheet → line_at sheet p 59 ≡ blanks 80
  -- "each line filled with blanks and ended by LF": of the bytes, 81 for each line, the first 80 are the line and the last is LF
  pub size : length (sheet_bytes sheet) ≡ 4860 * length sheet
  pub written : (p l : ℕ) → p < length sheet → l < 60 → take 80 (drop (4860 * p + 81 * l) (sheet_bytes sheet)) ≡ line_at sheet p l
  pub closed : (p l : ℕ) → p < length sheet → l < 60 → get_or (sheet_bytes sheet) (4860 * p + 81 * l + 80) 0 ≡ 10
