-- The abstract syntax tree of a concrete one.
use Rattle.syntax.specs.Tree as T
use Rattle.syntax.specs.Ast as A
use Rattle.syntax.specs.Tree.{Cat, Tree}
use Rattle.syntax.specs.Ast.{Sort, Ast}

abbrev pub sort_of : Cat → Sort
sort_of T.operand = A.expr
sort_of T.term = A.expr
sort_of T.sum = A.expr
sort_of T.args = A.args
sort_of T.arg_list = A.args
sort_of T.cmp = A.mark
sort_of T.atom = A.cond
sort_of T.conj = A.cond
sort_of T.cond = A.cond
sort_of T.stmt = A.stmt
sort_of T.stmts = A.stmts
sort_of T.body = A.body
sort_of T.params = A.params
sort_of T.param_list = A.params
sort_of T.fun = A.fun
sort_of T.prog = A.prog

-- brackets stay; the ranks of the grammar (operand, term, sum; atom, conjunction, condition) go
unfoldable pub ast : {c : Cat} → Tree c → Ast (sort_of c)
ast (T.number i) = A.number i
ast (T.negative i) = A.negative i
ast (T.name i) = A.name i
ast (T.empty i) = A.empty i
ast (T.declare i) = A.declare i
ast (T.declare_free i) = A.declare_free i
ast (T.declare_own i a b) = A.declare_own i a b
ast (T.fail i) = A.fail i
ast (T.call i a) = A.call i (ast a)
ast (T.bracket i e) = A.bracket i (ast e)
ast T.no_args = A.no_args
ast (T.some_args l) = ast l
ast (T.first_arg e) = A.more_args A.no_args (ast e)
ast (T.next_arg l e) = A.more_args (ast l) (ast e)
ast (T.factor o) = ast o
ast (T.times m t o) = A.times m (ast t) (ast o)
ast (T.addend t) = ast t
ast (T.plus s t) = A.plus (ast s) (ast t)
ast (T.minus s t) = A.minus (ast s) (ast t)
ast (T.cmp_mark o) = A.cmp_mark o
ast T.always = A.always
ast T.never = A.never
ast (T.compare a o b) = A.compare (ast a) (ast o) (ast b)
ast (T.one_atom a) = ast a
ast (T.both c a) = A.both (ast c) (ast a)
ast (T.one_conj c) = ast c
ast (T.either b c) = A.either (ast b) (ast c)
ast (T.assign i e) = A.assign i (ast e)
ast (T.eval e) = A.eval (ast e)
ast (T.block i b) = A.block i (ast b)
ast (T.if_else i c s t) = A.if_else i (ast c) (ast s) (ast t)
ast (T.while i c s) = A.while i (ast c) (ast s)
ast (T.return i e) = A.return i (ast e)
ast T.no_stmts = A.no_stmts
ast (T.more_stmts l s) = A.more_stmts (ast l) (ast s)
ast (T.braced l i) = A.braced (ast l) i
ast T.no_params = A.no_params
ast (T.some_params l) = ast l
ast (T.first_param i) = A.more_params A.no_params i
ast (T.next_param l i) = A.more_params (ast l) i
ast (T.function i p b) = A.function i (ast p) (ast b)
ast T.no_funs = A.no_funs
ast (T.more_funs l f) = A.more_funs (ast l) (ast f)
