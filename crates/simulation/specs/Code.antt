-- Programs as flat code: one list of entries in the order of the text. An expression stands in postfix order and control entries stand in place, with jumps by distance, so that a part's code does not depend on where it stands.
use Rattle.std.specs.Prelude.{ℕ, suc, ◌+◌, Bool, true, false, List, [], ◌∷◌, ◌++◌, length, ℤ}
use Rattle.std.proofs.Math.Option.{none, some}
use Rattle.semantics.specs.Int.{Op, Cmp}
use Rattle.semantics.specs.Program.{Address, Expr, Exprs, Cond, Stmt, Stmts, Program}

-- An operand that takes no work, a number or a variable: it is read where it is used.
pub data Leaf : Type 0 where
  number : ℤ → Leaf
  name : Address → Leaf

pub data Act : Type 0 where
  -- an operation on two operands: the right one's code ends just before this entry and is so many entries long, and the left one's ends before that
  operate : Op → ℕ → Act
  -- a comparison of two operands, which lie as for an operation; its outcome is the flag
  compare : Cmp → ℕ → Act
  -- a call of a function, by its number, with so many arguments, the last of which ends just before this entry
  call : ℕ → ℕ → Act
  -- the flag is set to this
  constant : Bool → Act
  -- forward over so many entries, if the flag is as said
  jump : Bool → ℕ → Act
  -- forward over so many entries
  skip : ℕ → Act
  -- back by so many entries, to a while's condition, which is a step
  again : ℕ → Act
  -- a statement begun, which is a step
  begin : Act
  -- a variable declared free: begun, and set to a new unknown
  ask : Address → Act
  -- the same with its own pair: the numbers at the two entries before this one, low and high
  own : Address → Act
  -- the operand that ends just before this entry goes into a variable
  store : Address → Act
  -- the operand that ends just before this entry is returned
  return : Act
  -- the run fails
  fail : Act

pub data Entry : Type 0 where
  leaf : Leaf → Entry
  -- the end of an argument, whose code is so many entries long
  argument : ℕ → Entry
  act : Act → Entry

-- the entries, and where each function's body begins
pub record Code : Type 0 where
  pub entries : List Entry
  pub starts : List ℕ

-- ---- the code of each part of a program

-- n and the count of the arguments
unfoldable pub count : Exprs → ℕ → ℕ
count Exprs.none n = n
count (Exprs.more e es) n = count es (suc n)

unfoldable mutual
  pub code_e : Expr → List Entry
  code_e (Expr.number z) = leaf (number z) ∷ []
  code_e (Expr.name a) = leaf (name a) ∷ []
  code_e (Expr.op o a b) = code_e a ++ (code_e b ++ act (operate o (length (code_e b))) ∷ [])
  code_e (Expr.call g es) = code_es es ++ act (call g (count es 0)) ∷ []

  pub code_es : Exprs → List Entry
  code_es Exprs.none = []
  code_es (Exprs.more e es) = code_e e ++ argument (length (code_e e)) ∷ code_es es

unfoldable pub code_c : Cond → List Entry
code_c (Cond.const b) = act (constant b) ∷ []
code_c (Cond.compare c a b) = code_e a ++ (code_e b ++ act (compare c (length (code_e b))) ∷ [])
code_c (Cond.and a b) = code_c a ++ act (jump false (length (code_c b))) ∷ code_c b
code_c (Cond.or a b) = code_c a ++ act (jump true (length (code_c b))) ∷ code_c b

unfoldable mutual
  pub code_s : Stmt → List Entry
  code_s Stmt.empty = act begin ∷ []
  code_s (Stmt.declare a) = act begin ∷ []
  code_s (Stmt.unknown a none) = act (ask a) ∷ []
  code_s (Stmt.unknown a (some w)) = leaf (number w.low) ∷ leaf (number w.high) ∷ act (own a) ∷ []
  code_s (Stmt.assign a e) = act begin ∷ (code_e e ++ act (store a) ∷ [])
  code_s (Stmt.eval e) = act begin ∷ code_e e
  code_s (Stmt.block ss) = act begin ∷ code_ss ss
  code_s (Stmt.if c s t) = act begin ∷ (code_c c ++ act (jump false (suc (length (code_s s)))) ∷ (code_s s ++ act (skip (length (code_s t))) ∷ code_s t))
  code_s (Stmt.while c s) = act begin ∷ (code_c c ++ act (jump false (suc (length (code_s s)))) ∷ (code_s s ++ act (again (length (code_c c) + suc (length (code_s s)))) ∷ []))
  code_s (Stmt.return e) = act begin ∷ (code_e e ++ act return ∷ [])
  code_s Stmt.fail = act begin ∷ act fail ∷ []

  pub code_ss : Stmts → List Entry
  code_ss Stmts.end = []
  code_ss (Stmts.next s ss) = code_s s ++ code_ss ss

-- a body, after which the run fails: no body of an accepted text reaches its end
unfoldable pub code_b : Stmts → List Entry
code_b ss = code_ss ss ++ act fail ∷ []

-- the bodies one after another, and where each begins, the first one at i
unfoldable pub entries_of : List Stmts → List Entry
entries_of [] = []
entries_of (b ∷ bs) = code_b b ++ entries_of bs

unfoldable pub starts_of : ℕ → List Stmts → List ℕ
starts_of i [] = []
starts_of i (b ∷ bs) = i ∷ starts_of (i + length (code_b b)) bs

-- First comes the call of main, whose value is returned; then, at 2, where a call of what is no function would go.
unfoldable pub code_of : Program → Code
code_of p = record { entries = act (call p.main 0) ∷ act return ∷ act fail ∷ entries_of p.bodies; starts = starts_of 3 p.bodies }
