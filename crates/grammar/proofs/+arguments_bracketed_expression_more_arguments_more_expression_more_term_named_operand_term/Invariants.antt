use Prim.Native.Nat.{◌*◌, ◌-◌, ◌+◌}
use lib.ListN.{length}
use Rattle.grammar.proofs.+arguments_bracketed_expression_more_arguments_more_expression_more_term_named_operand_term.Given as goal

abbrev pub decreases-arguments : goal.decreases-arguments
decreases-arguments l = 8 * (length l.source.now.kinds - l.at) + 5

abbrev pub decreases-bracketed : goal.decreases-bracketed
decreases-bracketed l = 8 * (length l.source.now.kinds - l.at) + 1

abbrev pub decreases-expression : goal.decreases-expression
decreases-expression l = 8 * (length l.source.now.kinds - l.at) + 4

abbrev pub decreases-more_arguments : goal.decreases-more_arguments
decreases-more_arguments l = 8 * (length l.source.now.kinds - l.at) + 1

abbrev pub decreases-more_expression : goal.decreases-more_expression
decreases-more_expression l = 8 * (length l.source.now.kinds - l.at) + 1

abbrev pub decreases-more_term : goal.decreases-more_term
decreases-more_term l = 8 * (length l.source.now.kinds - l.at) + 1

abbrev pub decreases-named : goal.decreases-named
decreases-named l = 8 * (length l.source.now.kinds - l.at) + 1

abbrev pub decreases-operand : goal.decreases-operand
decreases-operand l = 8 * (length l.source.now.kinds - l.at) + 2

abbrev pub decreases-term : goal.decreases-term
decreases-term l = 8 * (length l.source.now.kinds - l.at) + 3
