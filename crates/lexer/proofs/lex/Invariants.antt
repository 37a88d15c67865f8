use Prim.Native.Nat.{◌-◌}
use lib.ListN.{length}
use Rattle.syntax.specs.TokenKinds.{kind_numbers}
use Rattle.lexer.proofs.Turns.{Turn}
use Rattle.lexer.proofs.lex.Given as goal

abbrev pub invariant-loop-at : goal.invariant-loop-at
invariant-loop-at l = Turn l.text (kind_numbers l.initial.kinds) l.initial.places l.initial.values (kind_numbers l.kinds) l.places l.values l.at l.n l.large

abbrev pub decreases-loop-at : goal.decreases-loop-at
decreases-loop-at l = length l.text - l.at
