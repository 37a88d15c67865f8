-- Numbers in decimal: no zeros in front, a minus before a negative one.
use Rattle.std.specs.Prelude.{ℕ, zero, suc, ◌+◌, ◌/◌, ◌%◌, true, false, List, [], ◌∷◌, ◌++◌, ltb, ℤ, pos, negsuc}
use Rattle.lexer.specs.Lex.{bytes}

-- the digits of n; k is more than there can be
unfoldable pub digits : ℕ → ℕ → List ℕ
digits zero n = []
digits (suc k) n = elim (ltb n 10) [ true ↦ (48 + n) ∷ [] | false ↦ digits k (n / 10) ++ (48 + n % 10) ∷ [] ]

unfoldable pub natural : ℕ → List ℕ
natural n = digits (suc n) n

unfoldable pub integer : ℤ → List ℕ
integer (pos n) = natural n
integer (negsuc n) = bytes "-" ++ natural (suc n)
