-- One page of a sheet, for a caller.
use Rattle.std.specs.Prelude.{ℕ, ◌/◌, min, cond, List, length, ltb, ℤ}
use Rattle.std.proofs.lemmas.List.Edits.{sets}
use Rattle.semantics.specs.Run.{Row}
use Rattle.lines.specs.Written.{rows_from}
use Rattle.pages.specs.Pages.{page, page_bytes}
use Rattle.pages.specs.Parts.{foot_at}

-- the rows in a slice's whole tens of words, the first 58 of them
abbrev pub rows_within : List ℤ → List Row
rows_within rows = rows_from (min (length rows / 10) 58) rows

-- with fewer than 4,860 bytes nothing is written; else the page, at the front, and every other byte kept
abbrev pub page_out : List ℤ → ℕ → ℕ → List ℕ → List ℕ
page_out rows number ending out = cond (ltb (length out) 4860) out (sets out 0 (page_bytes (page number (rows_within rows) (foot_at ending))))
