-- Rows in the lent slice: "A row is 10 signed 32-bit words: result, count of values, eight values, unused ones 0."
use Rattle.std.specs.Prelude.{◌≡◌, List, [], ◌∷◌, ◌++◌, ℕ, zero, suc, ◌+◌, ◌*◌, ◌≤◌, ◌<◌, get_or, length, take, drop, ℤ, pos}
use Rattle.semantics.specs.Does.{frame}
use Rattle.semantics.specs.Run.{Row, clamp, each}

-- n words from word i on
unfoldable pub words_from : List ℤ → ℕ → ℕ → List ℤ
words_from rows i zero = []
words_from rows i (suc n) = get_or rows i (pos 0) ∷ words_from rows (suc i) n

-- the ten words of a row
abbrev pub words_of : Row → List ℤ
words_of r = r.result ∷ pos (length r.values) ∷ frame (pos 0) 8 r.values

abbrev pub row_with : ℤ → List ℤ → Row
row_with z s = record { result = z; values = s }

-- row i: its result, and as many of its eight values as it counts
abbrev pub row_at : List ℤ → ℕ → Row
row_at rows i = row_with (get_or rows (10 * i) (pos 0)) (take (clamp (get_or rows (10 * i + 1) (pos 0))) (words_from rows (10 * i + 2) 8))

-- the first n rows
unfoldable pub rows_at : List ℤ → ℕ → List Row
rows_at rows zero = []
rows_at rows (suc n) = rows_at rows n ++ row_at rows n ∷ []

-- the slice that held `rows`, with these rows written into it from its start: "Words after the last row keep their content."
abbrev pub sheet : List ℤ → List Row → List ℤ
sheet rows rs = each words_of rs ++ drop (10 * length rs) rows

-- a row was written after n others: its ten words, and no other word
pub record Written (rows rows' : List ℤ) (n : ℕ) (r : Row) : Type 0 where
  pub words : words_from rows' (10 * n) 10 ≡ words_of r
  pub other : (j : ℕ) → (10 * n ≤ j → j < 10 * n + 10 → ⊥) → get_or rows' j (pos 0) ≡ get_or rows j (pos 0)
  pub is : rows_at rows' (n + 1) ≡ rows_at rows n ++ r ∷ []
