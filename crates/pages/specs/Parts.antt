-- What the functions inside say: line 60 by the number of an ending.
use Rattle.std.specs.Prelude.{ℕ, zero, suc, List, [], ◌∷◌, ◌++◌, replicate, Option, None, Some}
use Rattle.semantics.specs.Search.{whole, cuts, full, spent}
use Rattle.search.specs.declared.Ending.{Ending}
use Rattle.search.specs.Loop.{close_of}
use Rattle.printing.specs.Written.{blanks}
use Rattle.semantics.specs.Run.{Row}
use Rattle.lines.specs.Print.{line_end, ending}
use Rattle.pages.specs.Pages.{filled, row_across}

-- 0 whole, 1 cut, 2 full, 3 spent; any other number for no word
abbrev pub foot_at : ℕ → List ℕ
foot_at zero = ending whole
foot_at (suc zero) = ending cuts
foot_at (suc (suc zero)) = ending full
foot_at (suc (suc (suc zero))) = ending spent
foot_at (suc (suc (suc (suc n)))) = []

-- the word of line 60, or none
abbrev pub foot_of : Option Ending → List ℕ
foot_of (Some e) = ending (close_of e)
foot_of None = []

-- columns, one after the other
unfoldable pub joined : {A : Type 0} → (A → List ℕ) → List A → List ℕ
joined f [] = []
joined f (x ∷ xs) = f x ++ joined f xs

-- the lines of rows, and so many blank lines
abbrev pub rows_bytes : List Row → List ℕ
rows_bytes rows = joined (λ r. filled (row_across r) ++ line_end) rows

abbrev pub blank_lines : ℕ → List ℕ
blank_lines n = joined (λ l. l ++ line_end) (replicate n (blanks 80))
