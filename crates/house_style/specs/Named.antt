-- "the same program tree (brackets not counted)" (document 02, slip 7): the syntax tree without brackets and without numbers of tokens.
-- A name is its bytes, a number its value. Minus signs stay: `-0` and `0` are two trees.
use Rattle.std.specs.Prelude.{ℕ, ◌+◌, Bool, List}
use Rattle.syntax.specs.Tree.{Mul, Cmp}
use Rattle.syntax.specs.Ast as A
use Rattle.syntax.specs.Ast.{Sort, Ast, expr, args, mark, cond, stmt, stmts, body, params, fun, prog, low_first, low_number, high_number}

pub data Named : Sort → Type 0 where
  -- an expression
  number negative : ℕ → Named expr
  name : List ℕ → Named expr
  call : List ℕ → Named args → Named expr
  times : Mul → Named expr → Named expr → Named expr
  plus minus : Named expr → Named expr → Named expr
  -- arguments, left to right
  no_args : Named args
  more_args : Named args → Named expr → Named args
  -- a condition
  cmp_mark : Cmp → Named mark
  always never : Named cond
  compare : Named expr → Named mark → Named expr → Named cond
  both either : Named cond → Named cond → Named cond
  -- a statement
  empty : Named stmt
  declare declare_free : List ℕ → Named stmt
  -- with a pair of its own: of each end, whether it has a minus, and its number
  declare_own : List ℕ → Bool → ℕ → Bool → ℕ → Named stmt
  assign : List ℕ → Named expr → Named stmt
  eval : Named expr → Named stmt
  block : Named body → Named stmt
  if_else : Named cond → Named stmt → Named stmt → Named stmt
  while : Named cond → Named stmt → Named stmt
  return : Named expr → Named stmt
  fail : Named stmt
  -- statements, left to right; in braces
  no_stmts : Named stmts
  more_stmts : Named stmts → Named stmt → Named stmts
  braced : Named stmts → Named body
  -- parameters, left to right; a function; the functions of a program
  no_params : Named params
  more_params : Named params → List ℕ → Named params
  function : List ℕ → Named params → Named body → Named fun
  no_funs : Named prog
  more_funs : Named prog → Named fun → Named prog

-- `spell i`: the bytes of the name at token i; `value i`: the value of the number at token i
module _ (spell : ℕ → List ℕ) (value : ℕ → ℕ) where
  unfoldable pub strip : {s : Sort} → Ast s → Named s
  strip (A.number i) = number (value i)
  strip (A.negative i) = negative (value (i + 1))
  strip (A.name i) = name (spell i)
  strip (A.call i a) = call (spell i) (strip a)
  -- "brackets not counted"
  strip (A.bracket i e) = strip e
  strip (A.times o a b) = times o (strip a) (strip b)
  strip (A.plus a b) = plus (strip a) (strip b)
  strip (A.minus a b) = minus (strip a) (strip b)
  strip A.no_args = no_args
  strip (A.more_args l e) = more_args (strip l) (strip e)
  strip (A.cmp_mark o) = cmp_mark o
  strip A.always = always
  strip A.never = never
  strip (A.compare a o b) = compare (strip a) (strip o) (strip b)
  strip (A.both a b) = both (strip a) (strip b)
  strip (A.either a b) = either (strip a) (strip b)
  strip (A.empty i) = empty
  strip (A.declare i) = declare (spell (i + 1))
  strip (A.declare_free i) = declare_free (spell (i + 1))
  strip (A.declare_own i a b) = declare_own (spell (i + 1)) a (value (low_number (low_first i) a)) b (value (high_number (low_first i) a b))
  strip (A.assign i e) = assign (spell i) (strip e)
  strip (A.eval e) = eval (strip e)
  strip (A.block i b) = block (strip b)
  strip (A.if_else i c s t) = if_else (strip c) (strip s) (strip t)
  strip (A.while i c s) = while (strip c) (strip s)
  strip (A.return i e) = return (strip e)
  strip (A.fail i) = fail
  strip A.no_stmts = no_stmts
  strip (A.more_stmts l s) = more_stmts (strip l) (strip s)
  strip (A.braced l j) = braced (strip l)
  strip A.no_params = no_params
  strip (A.more_params l i) = more_params (strip l) (spell i)
  strip (A.function i p b) = function (spell i) (strip p) (strip b)
  strip A.no_funs = no_funs
  strip (A.more_funs p f) = more_funs (strip p) (strip f)
