use Prim.Native.Nat.{◌*◌, ◌-◌, ◌+◌}
use lib.ListN.{length}
use Rattle.grammar.proofs.+block_body_braces_if_else_statement_while_do.Given as goal

abbrev pub decreases-block : goal.decreases-block
decreases-block l = 16 * (length l.source.now.kinds - l.at) + 1

abbrev pub decreases-body : goal.decreases-body
decreases-body l = 16 * (length l.source.now.kinds - l.at) + 8

abbrev pub decreases-braces : goal.decreases-braces
decreases-braces l = 16 * (length l.source.now.kinds - l.at) + 9

abbrev pub decreases-if_else : goal.decreases-if_else
decreases-if_else l = 16 * (length l.source.now.kinds - l.at) + 1

abbrev pub decreases-statement : goal.decreases-statement
decreases-statement l = 16 * (length l.source.now.kinds - l.at) + 7

abbrev pub decreases-while_do : goal.decreases-while_do
decreases-while_do l = 16 * (length l.source.now.kinds - l.at) + 1
