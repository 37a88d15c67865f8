use Prim.Native.Nat.{◌+◌}
use mathlib.Core.Path.{◌≡◌}
use lib.ListN.{drop}
use Rattle.lexer.specs.Lex.{is_word}
use Rattle.lexer.specs.Parts.{span}
use Rattle.lexer.proofs.word_end.Given as goal

abbrev pub invariant-loop-end : goal.invariant-loop-end
invariant-loop-end l = l.at + span is_word (drop l.at l.text) ≡ l.end + span is_word (drop l.end l.text)
