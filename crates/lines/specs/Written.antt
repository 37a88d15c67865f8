-- What the functions for printing say, in the words of Print: an ending's number, the rows that words stand for.
use Rattle.std.specs.Prelude.{ℕ, zero, suc, ◌/◌, min, length, List, [], ◌∷◌, take, drop, get_or, ℤ, pos}
use Rattle.semantics.specs.Run.{Row, clamp}
use Rattle.semantics.specs.Search.{Close, whole, cuts, full, spent}

-- an ending by its number
abbrev pub ending_at : ℕ → Close
ending_at zero = whole
ending_at (suc zero) = cuts
ending_at (suc (suc zero)) = full
ending_at (suc (suc (suc n))) = spent

-- "A row is 10 signed 32-bit words: result, count of values, eight values, unused ones 0.": the row that ten words stand for
abbrev pub count_of : ℤ → ℕ
count_of z = min (clamp z) 8

unfoldable pub row_from : List ℤ → Row
row_from ws = record { result = get_or ws 0 (pos 0); values = take (count_of (get_or ws 1 (pos 0))) (drop 2 ws) }

-- the n rows at the front of words
unfoldable pub rows_from : ℕ → List ℤ → List Row
rows_from zero ws = []
rows_from (suc n) ws = row_from ws ∷ rows_from n (drop 10 ws)

-- the rows in a slice's whole tens of words
abbrev pub rows_of : List ℤ → List Row
rows_of ws = rows_from (length ws / 10) ws
