-- Concrete syntax trees of the grammar (document 01, "The text"), brackets kept, and the tokens of a tree.
-- A number in a tree is that of a token in the token list; a comment says of which.
use Rattle.std.specs.Prelude.{ℕ, ◌+◌, Bool, true, false, List, [], ◌∷◌, length}
use Rattle.syntax.specs.Token.{k_name, k_number, k_int, k_free, k_if, k_else, k_while, k_return, k_fail, k_true, k_false, k_open, k_close, k_lbrace, k_rbrace, k_semi, k_comma, k_assign, k_less, k_less_eq, k_greater, k_greater_eq, k_equal, k_unequal, k_and, k_or, k_plus, k_minus, k_times, k_dot_dot}

-- what the grammar has a rule for
pub data Cat : Type 0 where
  operand term sum args arg_list cmp atom conj cond stmt stmts body params param_list fun prog : Cat

-- an operation of the rank of `*`
pub data Mul : Type 0 where
  product : Mul

abbrev pub mul_kind : Mul → ℕ
mul_kind product = k_times

-- "one of `< <= > >= == !=`"
pub data Cmp : Type 0 where
  less less_eq greater greater_eq equal unequal : Cmp

abbrev pub cmp_kind : Cmp → ℕ
cmp_kind less = k_less
cmp_kind less_eq = k_less_eq
cmp_kind greater = k_greater
cmp_kind greater_eq = k_greater_eq
cmp_kind equal = k_equal
cmp_kind unequal = k_unequal

pub data Tree : Cat → Type 0 where
  -- "operands are numbers, `-` with a number, names, calls, `( e )`": the first token's number
  number : ℕ → Tree operand
  negative : ℕ → Tree operand
  name : ℕ → Tree operand
  call : ℕ → Tree args → Tree operand
  bracket : ℕ → Tree sum → Tree operand
  -- the arguments of a call, with the closing bracket
  no_args : Tree args
  some_args : Tree arg_list → Tree args
  first_arg : Tree sum → Tree arg_list
  next_arg : Tree arg_list → Tree sum → Tree arg_list
  -- "`*` above `+` and `-`, left to right"
  factor : Tree operand → Tree term
  times : Mul → Tree term → Tree operand → Tree term
  addend : Tree term → Tree sum
  plus : Tree sum → Tree term → Tree sum
  minus : Tree sum → Tree term → Tree sum
  -- "operands are true, false or two expressions with one of .. between"
  cmp_mark : Cmp → Tree cmp
  always : Tree atom
  never : Tree atom
  compare : Tree sum → Tree cmp → Tree sum → Tree atom
  -- "`&&` above `||`, left to right"
  one_atom : Tree atom → Tree conj
  both : Tree conj → Tree atom → Tree conj
  one_conj : Tree conj → Tree cond
  either : Tree cond → Tree conj → Tree cond
  -- a statement: the first token's number (that of `e;` is the expression's)
  empty : ℕ → Tree stmt
  declare : ℕ → Tree stmt
  declare_free : ℕ → Tree stmt
  -- "`int x free 5 .. 400;` gives that declaration its own pair, each end a number with or without a minus": whether the low end has a minus, and whether the high end has
  declare_own : ℕ → Bool → Bool → Tree stmt
  assign : ℕ → Tree sum → Tree stmt
  eval : Tree sum → Tree stmt
  block : ℕ → Tree body → Tree stmt
  if_else : ℕ → Tree cond → Tree stmt → Tree stmt → Tree stmt
  while : ℕ → Tree cond → Tree stmt → Tree stmt
  return : ℕ → Tree sum → Tree stmt
  fail : ℕ → Tree stmt
  -- statements; and statements with the closing brace, whose number it is
  no_stmts : Tree stmts
  more_stmts : Tree stmts → Tree stmt → Tree stmts
  braced : Tree stmts → ℕ → Tree body
  -- the parameters of a function, with the closing bracket: the names' numbers
  no_params : Tree params
  some_params : Tree param_list → Tree params
  first_param : ℕ → Tree param_list
  next_param : Tree param_list → ℕ → Tree param_list
  -- a function: its name's number; a program
  function : ℕ → Tree params → Tree body → Tree fun
  no_funs : Tree prog
  more_funs : Tree prog → Tree fun → Tree prog

-- the kinds of the tokens of an end of a pair, which has a minus or not, followed by ks
abbrev pub end_onto : Bool → List ℕ → List ℕ
end_onto true ks = k_minus ∷ k_number ∷ ks
end_onto false ks = k_number ∷ ks

-- the kinds of the tokens of a tree, followed by ks
unfoldable pub onto : {c : Cat} → Tree c → List ℕ → List ℕ
onto (number i) ks = k_number ∷ ks
onto (negative i) ks = k_minus ∷ k_number ∷ ks
onto (name i) ks = k_name ∷ ks
onto (call i a) ks = k_name ∷ k_open ∷ onto a ks
onto (bracket i e) ks = k_open ∷ onto e (k_close ∷ ks)
onto no_args ks = k_close ∷ ks
onto (some_args l) ks = onto l (k_close ∷ ks)
onto (first_arg e) ks = onto e ks
onto (next_arg l e) ks = onto l (k_comma ∷ onto e ks)
onto (factor o) ks = onto o ks
onto (times m t o) ks = onto t (mul_kind m ∷ onto o ks)
onto (addend t) ks = onto t ks
onto (plus s t) ks = onto s (k_plus ∷ onto t ks)
onto (minus s t) ks = onto s (k_minus ∷ onto t ks)
onto (cmp_mark o) ks = cmp_kind o ∷ ks
onto always ks = k_true ∷ ks
onto never ks = k_false ∷ ks
onto (compare a o b) ks = onto a (onto o (onto b ks))
onto (one_atom a) ks = onto a ks
onto (both c a) ks = onto c (k_and ∷ onto a ks)
onto (one_conj c) ks = onto c ks
onto (either b c) ks = onto b (k_or ∷ onto c ks)
onto (empty i) ks = k_semi ∷ ks
onto (declare i) ks = k_int ∷ k_name ∷ k_semi ∷ ks
onto (declare_free i) ks = k_int ∷ k_name ∷ k_free ∷ k_semi ∷ ks
onto (declare_own i a b) ks = k_int ∷ k_name ∷ k_free ∷ end_onto a (k_dot_dot ∷ end_onto b (k_semi ∷ ks))
onto (assign i e) ks = k_name ∷ k_assign ∷ onto e (k_semi ∷ ks)
onto (eval e) ks = onto e (k_semi ∷ ks)
onto (block i b) ks = k_lbrace ∷ onto b ks
onto (if_else i c s t) ks = k_if ∷ k_open ∷ onto c (k_close ∷ onto s (k_else ∷ onto t ks))
onto (while i c s) ks = k_while ∷ k_open ∷ onto c (k_close ∷ onto s ks)
onto (return i e) ks = k_return ∷ onto e (k_semi ∷ ks)
onto (fail i) ks = k_fail ∷ k_semi ∷ ks
onto no_stmts ks = ks
onto (more_stmts l s) ks = onto l (onto s ks)
onto (braced l i) ks = onto l (k_rbrace ∷ ks)
onto no_params ks = k_close ∷ ks
onto (some_params l) ks = onto l (k_close ∷ ks)
onto (first_param i) ks = k_int ∷ k_name ∷ ks
onto (next_param l i) ks = onto l (k_comma ∷ k_int ∷ k_name ∷ ks)
onto (function i p b) ks = k_int ∷ k_name ∷ k_open ∷ onto p (k_lbrace ∷ onto b ks)
onto no_funs ks = ks
onto (more_funs p f) ks = onto p (onto f ks)

-- how many tokens a tree has
abbrev pub width : {c : Cat} → Tree c → ℕ
width t = length (onto t [])

-- the tree with the numbers that its tokens have where its first token is token p
unfoldable pub numbered : {c : Cat} → ℕ → Tree c → Tree c
numbered p (number i) = number p
numbered p (negative i) = negative p
numbered p (name i) = name p
numbered p (call i a) = call p (numbered (p + 2) a)
numbered p (bracket i e) = bracket p (numbered (p + 1) e)
numbered p no_args = no_args
numbered p (some_args l) = some_args (numbered p l)
numbered p (first_arg e) = first_arg (numbered p e)
numbered p (next_arg l e) = next_arg (numbered p l) (numbered (p + width l + 1) e)
numbered p (factor o) = factor (numbered p o)
numbered p (times m t o) = times m (numbered p t) (numbered (p + width t + 1) o)
numbered p (addend t) = addend (numbered p t)
numbered p (plus s t) = plus (numbered p s) (numbered (p + width s + 1) t)
numbered p (minus s t) = minus (numbered p s) (numbered (p + width s + 1) t)
numbered p (cmp_mark o) = cmp_mark o
numbered p always = always
numbered p never = never
numbered p (compare a o b) = compare (numbered p a) o (numbered (p + width a + 1) b)
numbered p (one_atom a) = one_atom (numbered p a)
numbered p (both c a) = both (numbered p c) (numbered (p + width c + 1) a)
numbered p (one_conj c) = one_conj (numbered p c)
numbered p (either b c) = either (numbered p b) (numbered (p + width b + 1) c)
numbered p (empty i) = empty p
numbered p (declare i) = declare p
numbered p (declare_free i) = declare_free p
numbered p (declare_own i a b) = declare_own p a b
numbered p (assign i e) = assign p (numbered (p + 2) e)
numbered p (eval e) = eval (numbered p e)
numbered p (block i b) = block p (numbered (p + 1) b)
numbered p (if_else i c s t) = if_else p (numbered (p + 2) c) (numbered (p + 2 + width c + 1) s) (numbered (p + 2 + width c + 1 + width s + 1) t)
numbered p (while i c s) = while p (numbered (p + 2) c) (numbered (p + 2 + width c + 1) s)
numbered p (return i e) = return p (numbered (p + 1) e)
numbered p (fail i) = fail p
numbered p no_stmts = no_stmts
numbered p (more_stmts l s) = more_stmts (numbered p l) (numbered (p + width l) s)
numbered p (braced l i) = braced (numbered p l) (p + width l)
numbered p no_params = no_params
numbered p (some_params l) = some_params (numbered p l)
numbered p (first_param i) = first_param (p + 1)
numbered p (next_param l i) = next_param (numbered p l) (p + width l + 2)
numbered p (function i ps b) = function (p + 1) (numbered (p + 3) ps) (numbered (p + 3 + width ps + 1) b)
numbered p no_funs = no_funs
numbered p (more_funs l f) = more_funs (numbered p l) (numbered (p + width l) f)
