-- A text of over 2,048 bytes is refused, whatever they are.
use Prim.Native.Nat.{ℕ, ◌<◌}
use mathlib.Core.Path.{◌≡◌}
use mathlib.Core.List.{List}
use lib.ListN.{length}
use borrow.Author.Tests.{lt-ltb}
use Rattle.lexer.specs.Lex as L
use Rattle.lexer.specs.Lex.{lexed}
use Rattle.checker.specs.Check.{refused, checked}

long-lexed : (text : List ℕ) → 2048 < length text → lexed text ≡ L.refused 1 2048
unfolding lexed
long-lexed text h = rw (lt-ltb 2048 (length text) h, lexed)

pub long-text : (text : List ℕ) → 2048 < length text → checked text ≡ refused 1 2048
unfolding checked
long-text text h = rw (long-lexed text h, checked)
