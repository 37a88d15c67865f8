use Prim.Native.Nat.{◌≤◌, min}
use mathlib.Core.Path.{◌≡◌}
use lib.ListN.{drop}
use Rattle.lexer.specs.Lex.{decimal, digits_of}
use Rattle.lexer.specs.Parts.{limit}
use Rattle.lexer.proofs.number_value.Given as goal

abbrev pub invariant-loop-b : goal.invariant-loop-b
invariant-loop-b l = (l.value ≤ limit) × (min (decimal 0 (digits_of l.number)) limit ≡ min (decimal l.value (digits_of (drop l.b-index l.number))) limit)
