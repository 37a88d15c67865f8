-- A program in which every name is resolved: each variable is the address of its declaration, each call the number of its function.
use Rattle.std.specs.Prelude.{ℕ, Bool, List, ℤ}
use Rattle.std.proofs.Math.Option.{Option}
use Rattle.semantics.specs.Int.{Op, Cmp}

-- "An address names a variable and is never itself a value of the program": the number of its declaration in its function, from 0, parameters first.
pub data Address : Type 0 where
  slot : ℕ → Address

-- "Expression e: `*` above `+` and `-`, left to right; operands are numbers, `-` with a number, names, calls, `( e )`." A minus before a number is part of the number.
mutual
  pub data Expr : Type 0 where
    number : ℤ → Expr
    name : Address → Expr
    op : Op → Expr → Expr → Expr
    call : ℕ → Exprs → Expr

  -- the arguments of a call
  pub data Exprs : Type 0 where
    none : Exprs
    more : Expr → Exprs → Exprs

-- "Condition b: `&&` above `||`, left to right; operands are true, false or two expressions with one of `< <= > >= == !=` between."
pub data Cond : Type 0 where
  const : Bool → Cond
  compare : Cmp → Expr → Expr → Cond
  and or : Cond → Cond → Cond

-- a window, "low to high"
pub record Window : Type 0 where
  pub low : ℤ
  pub high : ℤ

-- "Statement: `;`, `int x;`, `int x free;`, `x = e;`, `e;`, `{ statements }`, `if (b) s else s` (else always), `while (b) s`, `return e;`, `fail;`."
mutual
  pub data Stmt : Type 0 where
    empty : Stmt
    declare : Address → Stmt
    -- "`int x free 5 .. 400;` gives that declaration its own pair"; none is a plain `free`, which "takes the job's pair"
    unknown : Address → Option Window → Stmt
    assign : Address → Expr → Stmt
    eval : Expr → Stmt
    block : Stmts → Stmt
    if : Cond → Stmt → Stmt → Stmt
    while : Cond → Stmt → Stmt
    return : Expr → Stmt
    fail : Stmt

  pub data Stmts : Type 0 where
    end : Stmts
    next : Stmt → Stmts → Stmts

-- The functions' bodies in the order of the text, by which a call numbers them, and the number of main. It is the initial environment ρ₀ of 002, which maps functions to their code.
pub record Program : Type 0 where
  pub bodies : List Stmts
  pub main : ℕ
