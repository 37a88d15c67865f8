-- What the function inside the reader of the job line answers for digits, in the words of JobLine.
use Rattle.std.specs.Prelude.{ℕ, true, false, List, Option, None, Some}
use Rattle.lexer.specs.Lex.{decimal}
use Rattle.lines.specs.JobLine.{is_natural}

-- the number that one to ten digits stand for
unfoldable pub magnitude_of : List ℕ → Option ℕ
magnitude_of ds = elim (is_natural ds) [ true ↦ Some (decimal 0 ds) | false ↦ None ]
