-- The table that holds an abstract syntax tree: five words for each node, its kind, a token's number and three more. A node's children have smaller numbers.
use Rattle.std.specs.Prelude.{ℕ, ◌+◌, ◌*◌, ◌<◌, ◌≡◌, Bool, List, get_or, set}
use Rattle.syntax.specs.Tree.{Mul, product, Cmp, less, less_eq, greater, greater_eq, equal, unequal}
use Rattle.syntax.specs.Ast as A
use Rattle.syntax.specs.Ast.{Sort, Ast, bit}

-- ---- the kinds of nodes

abbrev pub n_number : ℕ
n_number = 1

abbrev pub n_negative : ℕ
n_negative = 2

abbrev pub n_name : ℕ
n_name = 3

abbrev pub n_call : ℕ
n_call = 4

abbrev pub n_bracket : ℕ
n_bracket = 5

abbrev pub n_times : ℕ
n_times = 6

abbrev pub n_plus : ℕ
n_plus = 7

abbrev pub n_minus : ℕ
n_minus = 8

abbrev pub n_no_args : ℕ
n_no_args = 9

abbrev pub n_more_args : ℕ
n_more_args = 10

abbrev pub n_always : ℕ
n_always = 11

abbrev pub n_never : ℕ
n_never = 12

abbrev pub n_compare : ℕ
n_compare = 13

abbrev pub n_both : ℕ
n_both = 14

abbrev pub n_either : ℕ
n_either = 15

abbrev pub n_empty : ℕ
n_empty = 16

abbrev pub n_declare : ℕ
n_declare = 17

abbrev pub n_declare_free : ℕ
n_declare_free = 18

abbrev pub n_declare_own : ℕ
n_declare_own = 19

abbrev pub n_assign : ℕ
n_assign = 20

abbrev pub n_eval : ℕ
n_eval = 21

abbrev pub n_block : ℕ
n_block = 22

abbrev pub n_if_else : ℕ
n_if_else = 23

abbrev pub n_while : ℕ
n_while = 24

abbrev pub n_return : ℕ
n_return = 25

abbrev pub n_fail : ℕ
n_fail = 26

abbrev pub n_no_stmts : ℕ
n_no_stmts = 27

abbrev pub n_more_stmts : ℕ
n_more_stmts = 28

abbrev pub n_braced : ℕ
n_braced = 29

abbrev pub n_no_params : ℕ
n_no_params = 30

abbrev pub n_more_params : ℕ
n_more_params = 31

abbrev pub n_function : ℕ
n_function = 32

abbrev pub n_no_funs : ℕ
n_no_funs = 33

abbrev pub n_more_funs : ℕ
n_more_funs = 34

-- the third word of an operation of the rank of `*`
abbrev pub mul_number : Mul → ℕ
mul_number product = 0

-- the comparison's number
abbrev pub cmp_number : Cmp → ℕ
cmp_number less = 0
cmp_number less_eq = 1
cmp_number greater = 2
cmp_number greater_eq = 3
cmp_number equal = 4
cmp_number unequal = 5

-- ---- rows

-- the words of a node: its kind, then these
abbrev pub node_words : ℕ
node_words = 5

abbrev pub node_token : ℕ
node_token = 1

abbrev pub node_first : ℕ
node_first = 2

abbrev pub node_second : ℕ
node_second = 3

abbrev pub node_third : ℕ
node_third = 4

-- node i is written: its kind, its token and three words
abbrev pub row : List ℕ → ℕ → ℕ → ℕ → ℕ → ℕ → ℕ → List ℕ
row l i k t a b c = set (set (set (set (set l (node_words * i) k) (node_words * i + node_token) t) (node_words * i + node_first) a) (node_words * i + node_second) b) (node_words * i + node_third) c

-- node i has the kind k, the token t and the words a, b and c
pub record Row (l : List ℕ) (i k t a b c : ℕ) : Type 0 where
  pub kind : get_or l (node_words * i) 0 ≡ k
  pub token : get_or l (node_words * i + node_token) 0 ≡ t
  pub first : get_or l (node_words * i + node_first) 0 ≡ a
  pub second : get_or l (node_words * i + node_second) 0 ≡ b
  pub third : get_or l (node_words * i + node_third) 0 ≡ c

-- ---- trees

-- node i, of kind k, is the root of a tree
pub data At (l : List ℕ) : (s : Sort) → ℕ → ℕ → Ast s → Type 0 where
  at-number : {i t : ℕ} → Row l i n_number t 0 0 0 → At l A.expr i n_number (A.number t)
  at-negative : {i t : ℕ} → Row l i n_negative t 0 0 0 → At l A.expr i n_negative (A.negative t)
  at_name : {i t : ℕ} → Row l i n_name t 0 0 0 → At l A.expr i n_name (A.name t)
  at_call : {i t a k : ℕ} {x : Ast A.args} → Row l i n_call t a 0 0 → a < i → At l A.args a k x → At l A.expr i n_call (A.call t x)
  at_bracket : {i t a k : ℕ} {x : Ast A.expr} → Row l i n_bracket t a 0 0 → a < i → At l A.expr a k x → At l A.expr i n_bracket (A.bracket t x)
  at-times : {i a b j k : ℕ} {o : Mul} {x y : Ast A.expr} → Row l i n_times 0 a b (mul_number o) → a < i → b < i → At l A.expr a j x → At l A.expr b k y → At l A.expr i n_times (A.times o x y)
  at-plus : {i a b j k : ℕ} {x y : Ast A.expr} → Row l i n_plus 0 a b 0 → a < i → b < i → At l A.expr a j x → At l A.expr b k y → At l A.expr i n_plus (A.plus x y)
  at-minus : {i a b j k : ℕ} {x y : Ast A.expr} → Row l i n_minus 0 a b 0 → a < i → b < i → At l A.expr a j x → At l A.expr b k y → At l A.expr i n_minus (A.minus x y)
  at_no_args : {i : ℕ} → Row l i n_no_args 0 0 0 0 → At l A.args i n_no_args A.no_args
  at-more-args : {i a b j k : ℕ} {x : Ast A.args} {y : Ast A.expr} → Row l i n_more_args 0 a b 0 → a < i → b < i → At l A.args a j x → At l A.expr b k y → At l A.args i n_more_args (A.more_args x y)
  at-always : {i : ℕ} → Row l i n_always 0 0 0 0 → At l A.cond i n_always A.always
  at-never : {i : ℕ} → Row l i n_never 0 0 0 0 → At l A.cond i n_never A.never
  at-compare : {i a b j k : ℕ} {o : Cmp} {x y : Ast A.expr} → Row l i n_compare 0 a b (cmp_number o) → a < i → b < i → At l A.expr a j x → At l A.expr b k y → At l A.cond i n_compare (A.compare x (A.cmp_mark o) y)
  at_both : {i a b j k : ℕ} {x y : Ast A.cond} → Row l i n_both 0 a b 0 → a < i → b < i → At l A.cond a j x → At l A.cond b k y → At l A.cond i n_both (A.both x y)
  at-either : {i a b j k : ℕ} {x y : Ast A.cond} → Row l i n_either 0 a b 0 → a < i → b < i → At l A.cond a j x → At l A.cond b k y → At l A.cond i n_either (A.either x y)
  at-empty : {i t : ℕ} → Row l i n_empty t 0 0 0 → At l A.stmt i n_empty (A.empty t)
  at-declare : {i t : ℕ} → Row l i n_declare t 0 0 0 → At l A.stmt i n_declare (A.declare t)
  at-declare-free : {i t : ℕ} → Row l i n_declare_free t 0 0 0 → At l A.stmt i n_declare_free (A.declare_free t)
  -- whether each end of the pair has a minus stands in the first two words
  at-declare-own : {i t : ℕ} {a b : Bool} → Row l i n_declare_own t (bit a) (bit b) 0 → At l A.stmt i n_declare_own (A.declare_own t a b)
  at-assign : {i t a k : ℕ} {x : Ast A.expr} → Row l i n_assign t a 0 0 → a < i → At l A.expr a k x → At l A.stmt i n_assign (A.assign t x)
  at-eval : {i a k : ℕ} {x : Ast A.expr} → Row l i n_eval 0 a 0 0 → a < i → At l A.expr a k x → At l A.stmt i n_eval (A.eval x)
  at_block : {i t a k : ℕ} {x : Ast A.body} → Row l i n_block t a 0 0 → a < i → At l A.body a k x → At l A.stmt i n_block (A.block t x)
  at-if-else : {i t a b c h j k : ℕ} {x : Ast A.cond} {y z : Ast A.stmt} → Row l i n_if_else t a b c → a < i → b < i → c < i → At l A.cond a h x → At l A.stmt b j y → At l A.stmt c k z → At l A.stmt i n_if_else (A.if_else t x y z)
  at-while : {i t a b j k : ℕ} {x : Ast A.cond} {y : Ast A.stmt} → Row l i n_while t a b 0 → a < i → b < i → At l A.cond a j x → At l A.stmt b k y → At l A.stmt i n_while (A.while t x y)
  at_return : {i t a k : ℕ} {x : Ast A.expr} → Row l i n_return t a 0 0 → a < i → At l A.expr a k x → At l A.stmt i n_return (A.return t x)
  at-fail : {i t : ℕ} → Row l i n_fail t 0 0 0 → At l A.stmt i n_fail (A.fail t)
  at-no-stmts : {i : ℕ} → Row l i n_no_stmts 0 0 0 0 → At l A.stmts i n_no_stmts A.no_stmts
  at-more-stmts : {i a b j k : ℕ} {x : Ast A.stmts} {y : Ast A.stmt} → Row l i n_more_stmts 0 a b 0 → a < i → b < i → At l A.stmts a j x → At l A.stmt b k y → At l A.stmts i n_more_stmts (A.more_stmts x y)
  at-braced : {i t a k : ℕ} {x : Ast A.stmts} → Row l i n_braced t a 0 0 → a < i → At l A.stmts a k x → At l A.body i n_braced (A.braced x t)
  at-no-params : {i : ℕ} → Row l i n_no_params 0 0 0 0 → At l A.params i n_no_params A.no_params
  at-more-params : {i t a k : ℕ} {x : Ast A.params} → Row l i n_more_params t a 0 0 → a < i → At l A.params a k x → At l A.params i n_more_params (A.more_params x t)
  at-function : {i t a b j k : ℕ} {x : Ast A.params} {y : Ast A.body} → Row l i n_function t a b 0 → a < i → b < i → At l A.params a j x → At l A.body b k y → At l A.fun i n_function (A.function t x y)
  at-no-funs : {i : ℕ} → Row l i n_no_funs 0 0 0 0 → At l A.prog i n_no_funs A.no_funs
  at-more-funs : {i a b j k : ℕ} {x : Ast A.prog} {y : Ast A.fun} → Row l i n_more_funs 0 a b 0 → a < i → b < i → At l A.prog a j x → At l A.fun b k y → At l A.prog i n_more_funs (A.more_funs x y)

-- a tree stands at node i
pub record Holds {s : Sort} (l : List ℕ) (i : ℕ) (t : Ast s) : Type 0 where
  pub kind : ℕ
  pub at : At l s i kind t
