-- The program of a syntax tree, with names resolved: every variable an Address, every call a function's number.
use Rattle.std.specs.Prelude.{ℕ, suc, ◌+◌, Bool, true, false, cond, List, [], ◌∷◌, pos, ◌-ℤ◌}
use Rattle.std.proofs.Math.Option.{Option}
use Rattle.syntax.specs.Tree.{product, less, less_eq, greater, greater_eq, equal, unequal}
use Rattle.syntax.specs.Ast.{Sort, Ast, low_first}
use Rattle.syntax.specs.Ast as A
use Rattle.syntax.specs.Tree as T
use Rattle.semantics.specs.Int.{Op, Cmp, add, sub, mul, lt, le, gt, ge, eq, ne}
use Rattle.semantics.specs.Program as P
use Rattle.semantics.specs.Program.{Expr, Exprs, Cond, Stmt, Stmts, Program, slot}
use Rattle.text_rules.specs.Rules.{Head}
use Rattle.text_rules.specs.Own.{pair_at}

-- what a part of a tree becomes. Of arguments, statements and functions: what follows them, with them before it
abbrev pub Part : Sort → Type 0
Part A.expr = Expr
Part A.args = Exprs → Exprs
Part A.mark = Cmp
Part A.cond = Cond
Part A.stmt = Stmt
Part A.stmts = Stmts → Stmts
Part A.body = Stmts
Part A.params = ℕ
Part A.fun = Stmts
Part A.prog = List Stmts → List Stmts

abbrev pub multiplied : T.Mul → Op
multiplied product = mul

abbrev pub comparison : T.Cmp → Cmp
comparison less = lt
comparison less_eq = le
comparison greater = gt
comparison greater_eq = ge
comparison equal = eq
comparison unequal = ne

-- `value i`: the value of the number at token i; `means i`: what the name at token i means
module _ (value means : ℕ → ℕ) where
  unfoldable pub part : {s : Sort} → Ast s → Part s
  part (A.number i) = P.number (pos (value i))
  part (A.negative i) = P.number (pos 0 -ℤ pos (value (i + 1)))
  part (A.name i) = P.name (slot (means i))
  part (A.call i a) = P.call (means i) (part a P.none)
  part (A.bracket i e) = part e
  part (A.times o a b) = P.op (multiplied o) (part a) (part b)
  part (A.plus a b) = P.op add (part a) (part b)
  part (A.minus a b) = P.op sub (part a) (part b)
  part A.no_args = λ es. es
  part (A.more_args l e) = λ es. part l (P.more (part e) es)
  part (A.cmp_mark o) = comparison o
  part A.always = P.const true
  part A.never = P.const false
  part (A.compare a o b) = P.compare (part o) (part a) (part b)
  part (A.both a b) = P.and (part a) (part b)
  part (A.either a b) = P.or (part a) (part b)
  part (A.empty i) = P.empty
  part (A.declare i) = P.declare (slot (means (i + 1)))
  part (A.declare_free i) = P.unknown (slot (means (i + 1))) Option.none
  part (A.declare_own i a b) = P.unknown (slot (means (i + 1))) (Option.some (pair_at value (low_first i) a b))
  part (A.assign i e) = P.assign (slot (means i)) (part e)
  part (A.eval e) = P.eval (part e)
  part (A.block i b) = P.block (part b)
  part (A.if_else i c s t) = P.if (part c) (part s) (part t)
  part (A.while i c s) = P.while (part c) (part s)
  part (A.return i e) = P.return (part e)
  part (A.fail i) = P.fail
  part A.no_stmts = λ ss. ss
  part (A.more_stmts l s) = λ ss. part l (P.next (part s) ss)
  part (A.braced l j) = part l P.end
  part A.no_params = 0
  part (A.more_params l i) = suc (part l)
  part (A.function i p b) = part b
  part A.no_funs = λ fs. fs
  part (A.more_funs l f) = λ fs. part l (part f ∷ fs)

-- the number of the function main: `is_main i`: the token i spells main
unfoldable pub main_of : (ℕ → Bool) → List Head → ℕ
main_of is_main [] = 0
main_of is_main (h ∷ hs) = cond (is_main h.name) 0 (suc (main_of is_main hs))

abbrev pub resolved : (value means : ℕ → ℕ) → (ℕ → Bool) → List Head → Ast A.prog → Program
resolved value means is_main hs p = record { bodies = part value means p []; main = main_of is_main hs }
