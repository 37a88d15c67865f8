-- How long a program's code is: no longer than the text it comes from has tokens, and three entries.
use Prim.Native.Nat.{ℕ, suc, ◌+◌, ◌*◌, ◌≤◌}
use mathlib.Core.Bool.{Bool}
use mathlib.Core.Option.{none, some}
use mathlib.Core.List.{List, [], ◌∷◌, ◌++◌}
use native.Mathlib.Omega.{arith}
use native.Mathlib.Nat.{le_refl}
use lib.ListN.{length, length-append}
use Rattle.semantics.specs.Program.{Expr, Exprs, Cond, Stmt, Stmts, Program}
use Rattle.simulation.specs.Code.{operate, compare, call, jump, skip, again, store, return, fail, argument, act, count, code_e, code_es, code_c, code_s, code_ss, code_b, entries_of, code_of}

-- ---- the fewest tokens that a part can have in a text

unfoldable mutual
  pub tokens_e : Expr → ℕ
  tokens_e (Expr.number z) = 1
  tokens_e (Expr.name a) = 1
  tokens_e (Expr.op o a b) = tokens_e a + suc (tokens_e b)
  -- the name and two brackets, and a comma between two arguments: no fewer than the arguments have ends
  tokens_e (Expr.call g es) = 2 + tokens_es es

  -- each argument with a comma or the closing bracket after it
  pub tokens_es : Exprs → ℕ
  tokens_es Exprs.none = 0
  tokens_es (Exprs.more e es) = suc (tokens_e e) + tokens_es es

unfoldable pub tokens_c : Cond → ℕ
tokens_c (Cond.const b) = 1
tokens_c (Cond.compare c a b) = tokens_e a + suc (tokens_e b)
tokens_c (Cond.and a b) = tokens_c a + suc (tokens_c b)
tokens_c (Cond.or a b) = tokens_c a + suc (tokens_c b)

unfoldable mutual
  pub tokens_s : Stmt → ℕ
  tokens_s Stmt.empty = 1
  tokens_s (Stmt.declare a) = 3
  tokens_s (Stmt.unknown a none) = 4
  -- and two ends with `..` between
  tokens_s (Stmt.unknown a (some w)) = 7
  tokens_s (Stmt.assign a e) = 3 + tokens_e e
  tokens_s (Stmt.eval e) = 1 + tokens_e e
  tokens_s (Stmt.block ss) = 2 + tokens_ss ss
  tokens_s (Stmt.if c s t) = 4 + tokens_c c + tokens_s s + tokens_s t
  tokens_s (Stmt.while c s) = 3 + tokens_c c + tokens_s s
  tokens_s (Stmt.return e) = 2 + tokens_e e
  tokens_s Stmt.fail = 2

  pub tokens_ss : Stmts → ℕ
  tokens_ss Stmts.end = 0
  tokens_ss (Stmts.next s ss) = tokens_s s + tokens_ss ss

-- `int name ( ) { }` and the body
unfoldable pub tokens_bs : List Stmts → ℕ
tokens_bs [] = 0
tokens_bs (b ∷ bs) = 6 + tokens_ss b + tokens_bs bs

-- ---- the code is no longer

mutual
  unfolding code_e tokens_e

  e-size : (e : Expr) → length (code_e e) ≤ tokens_e e
  e-size (Expr.number z) = le_refl _
  e-size (Expr.name a) = le_refl _
  e-size (Expr.op o a b) = omega (arith, e-size a, e-size b, length-append (code_e a) (code_e b ++ act (operate o (length (code_e b))) ∷ []), length-append (code_e b) (act (operate o (length (code_e b))) ∷ []))
  e-size (Expr.call g es) = omega (arith, es-size es, length-append (code_es es) (act (call g (count es 0)) ∷ []))

  es-size : (es : Exprs) → length (code_es es) ≤ tokens_es es
  es-size Exprs.none = le_refl _
  es-size (Exprs.more e es) = omega (arith, e-size e, es-size es, length-append (code_e e) (argument (length (code_e e)) ∷ code_es es))

c-size : (c : Cond) → length (code_c c) ≤ tokens_c c
unfolding code_c tokens_c
c-size (Cond.const b) = le_refl _
c-size (Cond.compare o a b) = omega (arith, e-size a, e-size b, length-append (code_e a) (code_e b ++ act (compare o (length (code_e b))) ∷ []), length-append (code_e b) (act (compare o (length (code_e b))) ∷ []))
c-size (Cond.and a b) = omega (arith, c-size a, c-size b, length-append (code_c a) (act (jump Bool.false (length (code_c b))) ∷ code_c b))
c-size (Cond.or a b) = omega (arith, c-size a, c-size b, length-append (code_c a) (act (jump Bool.true (length (code_c b))) ∷ code_c b))

mutual
  unfolding code_s tokens_s

  s-size : (s : Stmt) → length (code_s s) ≤ tokens_s s
  s-size Stmt.empty = le_refl _
  s-size (Stmt.declare a) = omega arith
  s-size (Stmt.unknown a none) = omega arith
  s-size (Stmt.unknown a (some w)) = omega arith
  s-size (Stmt.assign a e) = omega (arith, e-size e, length-append (code_e e) (act (store a) ∷ []))
  s-size (Stmt.eval e) = omega (arith, e-size e)
  s-size (Stmt.block ss) = omega (arith, ss-size ss)
  s-size (Stmt.if c s t) =
      omega (arith, c-size c, s-size s, s-size t, length-append (code_c c) (act (jump Bool.false (suc (length (code_s s)))) ∷ (code_s s ++ act (skip (length (code_s t))) ∷ code_s t)), length-append (code_s s) (act (skip (length (code_s t))) ∷ code_s t))
  s-size (Stmt.while c s) =
      omega (arith, c-size c, s-size s, length-append (code_c c) (act (jump Bool.false (suc (length (code_s s)))) ∷ (code_s s ++ act (again (length (code_c c) + suc (length (code_s s)))) ∷ [])), length-append (code_s s) (act (again (length (code_c c) + suc (length (code_s s)))) ∷ []))
  s-size (Stmt.return e) = omega (arith, e-size e, length-append (code_e e) (act return ∷ []))
  s-size Stmt.fail = le_refl _

  ss-size : (ss : Stmts) → length (code_ss ss) ≤ tokens_ss ss
  ss-size Stmts.end = le_refl _
  ss-size (Stmts.next s ss) = omega (arith, s-size s, ss-size ss, length-append (code_s s) (code_ss ss))

-- a function has six tokens beside its body, and its code one entry
bs-size : (bs : List Stmts) → length (entries_of bs) + 5 * length bs ≤ tokens_bs bs
unfolding entries_of code_b tokens_bs
bs-size [] = le_refl _
bs-size (b ∷ bs) = omega (arith, ss-size b, bs-size bs, length-append (code_ss b ++ act fail ∷ []) (entries_of bs), length-append (code_ss b) (act fail ∷ []))

-- so the code of a program that has a function has fewer entries than tokens
pub code-size : (p : Program) → length (code_of p).entries + 5 * length p.bodies ≤ 3 + tokens_bs p.bodies
unfolding code_of
code-size p = omega (arith, bs-size p.bodies)
