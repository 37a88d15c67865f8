-- Columns and page numbers, by computation: each limit and one past it.
use mathlib.Core.Path.{◌≡◌, refl}
use mathlib.Core.List.{[], ◌∷◌, map}
use lib.IntN.{pos, negsuc}
use Rattle.lexer.specs.Lex.{bytes}
use Rattle.printing.specs.Decimal.{digits, natural, integer}
use Rattle.pages.specs.Pages.{right, column, columns, row_across, last_five, heading}

-- 12345678 and -1234567 are shown, 123456789 and -12345678 are wider than 8; a minus counts
widths : map column (pos 0 ∷ pos 12345678 ∷ pos 123456789 ∷ negsuc 1234566 ∷ negsuc 12345677 ∷ [])
    ≡ bytes "       0" ∷ bytes "12345678" ∷ bytes "########" ∷ bytes "-1234567" ∷ bytes "########" ∷ []
unfolding column right integer natural digits
widths = refl

-- two full columns touch, and the longest result has eleven characters
touching : row_across (record { result = negsuc 2147483647; values = pos 12345678 ∷ negsuc 1234566 ∷ [] })
    ≡ bytes " -214748364812345678-1234567                                                    "
unfolding row_across columns column right integer natural digits
touching = refl

numbers : map heading (1 ∷ 12345 ∷ 99999 ∷ 100000 ∷ 100007 ∷ 4294967295 ∷ [])
    ≡ bytes "plan list      1" ∷ bytes "plan list  12345" ∷ bytes "plan list  99999" ∷ bytes "plan list  00000" ∷ bytes "plan list  00007" ∷ bytes "plan list  67295" ∷ []
unfolding heading right last_five natural digits
numbers = refl
