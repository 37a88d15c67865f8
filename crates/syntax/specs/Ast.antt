-- Abstract syntax trees: the concrete ones without the grammar's ranks. The rules of a text speak of these.
-- A number in a tree is that of a token in the token list; a comment says of which.
use Rattle.std.specs.Prelude.{ℕ, ◌+◌, Bool, true, false}
use Rattle.syntax.specs.Tree.{Mul, Cmp}

pub data Sort : Type 0 where
  expr args mark cond stmt stmts body params fun prog : Sort

pub data Ast : Sort → Type 0 where
  -- an expression: the first token of its own (the minus, the name, the opening bracket)
  number : ℕ → Ast expr
  negative : ℕ → Ast expr
  name : ℕ → Ast expr
  call : ℕ → Ast args → Ast expr
  bracket : ℕ → Ast expr → Ast expr
  times : Mul → Ast expr → Ast expr → Ast expr
  plus minus : Ast expr → Ast expr → Ast expr
  -- arguments, left to right
  no_args : Ast args
  more_args : Ast args → Ast expr → Ast args
  -- a condition
  cmp_mark : Cmp → Ast mark
  always never : Ast cond
  compare : Ast expr → Ast mark → Ast expr → Ast cond
  both either : Ast cond → Ast cond → Ast cond
  -- a statement: its first token (the name of a declaration is the token after it)
  empty : ℕ → Ast stmt
  declare : ℕ → Ast stmt
  declare_free : ℕ → Ast stmt
  -- with a pair of its own: whether the low end has a minus, and whether the high end has
  declare_own : ℕ → Bool → Bool → Ast stmt
  assign : ℕ → Ast expr → Ast stmt
  eval : Ast expr → Ast stmt
  block : ℕ → Ast body → Ast stmt
  if_else : ℕ → Ast cond → Ast stmt → Ast stmt → Ast stmt
  while : ℕ → Ast cond → Ast stmt → Ast stmt
  return : ℕ → Ast expr → Ast stmt
  fail : ℕ → Ast stmt
  -- statements, left to right; in braces: the closing brace
  no_stmts : Ast stmts
  more_stmts : Ast stmts → Ast stmt → Ast stmts
  braced : Ast stmts → ℕ → Ast body
  -- parameters, left to right: the names; a function: its name; the functions of a program
  no_params : Ast params
  more_params : Ast params → ℕ → Ast params
  function : ℕ → Ast params → Ast body → Ast fun
  no_funs : Ast prog
  more_funs : Ast prog → Ast fun → Ast prog

-- ---- the ends of a pair

-- how many tokens the minus of an end is
abbrev pub bit : Bool → ℕ
bit true = 1
bit false = 0

-- the low end's first token, of `int x free l .. h;` with the first token i
abbrev pub low_first : ℕ → ℕ
low_first i = i + 3

-- where the low end's first token is t: the numbers of both ends
abbrev pub low_number : ℕ → Bool → ℕ
low_number t a = t + bit a

abbrev pub high_number : ℕ → Bool → Bool → ℕ
high_number t a b = t + bit a + 2 + bit b
