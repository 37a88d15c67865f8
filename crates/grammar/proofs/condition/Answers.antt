use native.Mathlib.Omega.{arith}
use Rattle.grammar.proofs.Steps.{begin, call, fail, hand}
use Rattle.grammar.specs.Parse.{read_cond}
use Rattle.syntax.specs.Abstract.{ast}
use Rattle.syntax.specs.Tree.{one_conj}
use Rattle.grammar.proofs.condition.Goals as goal

pub returns-in_err-next : goal.returns-in_err-next
unfolding read_cond ast
returns-in_err-next c = record { same = cc; tells = fail _ c.in_err-next.ensures.tells (begin 7 (read_cond c.args.source.now.kinds) c.requires) (omega arith) c.from_residual.ensures }

pub returns : goal.returns
unfolding read_cond ast
returns c = record { same = cc; tells = let C = call _ c.in_ok-next.ensures.tells (begin 7 (read_cond c.args.source.now.kinds) c.requires) (omega arith) in hand (c.more_condition.ensures.after (one_conj C.tree) C.holds) C.sofar (omega arith) (omega arith) }
