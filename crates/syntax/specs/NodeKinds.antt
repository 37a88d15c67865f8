-- The kinds of nodes that the code has, as the numbers of Table.
use Rattle.std.specs.Prelude.{ℕ}
use Rattle.syntax.specs.Table.{
  n_number,
  n_negative,
  n_name,
  n_call,
  n_bracket,
  n_times,
  n_plus,
  n_minus,
  n_no_args,
  n_more_args,
  n_always,
  n_never,
  n_compare,
  n_both,
  n_either,
  n_empty,
  n_declare,
  n_declare_free,
  n_declare_own,
  n_assign,
  n_eval,
  n_block,
  n_if_else,
  n_while,
  n_return,
  n_fail,
  n_no_stmts,
  n_more_stmts,
  n_braced,
  n_no_params,
  n_more_params,
  n_function,
  n_no_funs,
  n_more_funs,
}
use Rattle.syntax.specs.declared.node.NodeKind.{NodeKind}
use Rattle.syntax.specs.declared.node.NodeKind.TheVariants as kind

-- the number of a kind
abbrev pub node_number : NodeKind → ℕ
node_number kind.Number = n_number
node_number kind.Negative = n_negative
node_number kind.Name = n_name
node_number kind.Call = n_call
node_number kind.Bracket = n_bracket
node_number kind.Times = n_times
node_number kind.Plus = n_plus
node_number kind.Minus = n_minus
node_number kind.NoArgs = n_no_args
node_number kind.MoreArgs = n_more_args
node_number kind.Always = n_always
node_number kind.Never = n_never
node_number kind.Compare = n_compare
node_number kind.Both = n_both
node_number kind.Either = n_either
node_number kind.Empty = n_empty
node_number kind.Declare = n_declare
node_number kind.DeclareFree = n_declare_free
node_number kind.DeclareOwn = n_declare_own
node_number kind.Assign = n_assign
node_number kind.Eval = n_eval
node_number kind.Block = n_block
node_number kind.IfElse = n_if_else
node_number kind.While = n_while
node_number kind.Return = n_return
node_number kind.Fail = n_fail
node_number kind.NoStmts = n_no_stmts
node_number kind.MoreStmts = n_more_stmts
node_number kind.Braced = n_braced
node_number kind.NoParams = n_no_params
node_number kind.MoreParams = n_more_params
node_number kind.Function = n_function
node_number kind.NoFuns = n_no_funs
node_number kind.MoreFuns = n_more_funs
