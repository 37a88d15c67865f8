use Prim.Native.Nat.{◌+◌, ◌≤◌}
use mathlib.Core.Path.{◌≡◌}
use lib.ListN.{drop}
use Rattle.lexer.specs.Lex.{longest}
use Rattle.lexer.proofs.Numbers.{more, end_of}
use Rattle.lexer.proofs.number_end.Given as goal

-- the bytes before i are read, and `end` is after the last digit of them
abbrev pub invariant-loop-i : goal.invariant-loop-i
invariant-loop-i l = (l.end ≤ l.i) × (l.at + longest (drop l.at l.text) ≡ end_of l.end l.i (more (drop l.i l.text)))
