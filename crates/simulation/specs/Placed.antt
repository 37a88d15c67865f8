-- Where the parts of a program stand in its code: each from one index up to another.
use Rattle.std.specs.Prelude.{ℕ, suc, ◌+◌, ◌-◌, ◌≡◌, Bool, true, false, List, get_or, ℤ, T}
use Rattle.std.proofs.Math.Option.{Option, some}
use Rattle.std.specs.Int.Signed.{le_z}
use Rattle.semantics.specs.Int.{Op, Cmp}
use Rattle.semantics.specs.Program.{Window, Address, Expr, Exprs, Cond, Stmt, Stmts, Program}
use Rattle.simulation.specs.Code.{Leaf, Act, Entry, leaf, argument, act, Code, count}

abbrev pub at : List Entry → ℕ → Entry
at l i = get_or l i (act Act.fail)

module _ (l : List Entry) where
  mutual
    pub data InE : Expr → ℕ → ℕ → Type 0 where
      number : {z : ℤ} {i : ℕ} → at l i ≡ leaf (Leaf.number z) → InE (Expr.number z) i (suc i)
      name : {a : Address} {i : ℕ} → at l i ≡ leaf (Leaf.name a) → InE (Expr.name a) i (suc i)
      op : {o : Op} {a b : Expr} {i m n d : ℕ} → InE a i m → InE b m n → at l n ≡ act (Act.operate o d) → n - d ≡ m → InE (Expr.op o a b) i (suc n)
      call : {g : ℕ} {es : Exprs} {i n : ℕ} → InEs es i n → at l n ≡ act (Act.call g (count es 0)) → InE (Expr.call g es) i (suc n)

    pub data InEs : Exprs → ℕ → ℕ → Type 0 where
      none : {i : ℕ} → InEs Exprs.none i i
      more : {e : Expr} {es : Exprs} {i m n d : ℕ} → InE e i m → at l m ≡ argument d → m - d ≡ i → InEs es (suc m) n → InEs (Exprs.more e es) i n

  pub data InC : Cond → ℕ → ℕ → Type 0 where
    const : {b : Bool} {i : ℕ} → at l i ≡ act (Act.constant b) → InC (Cond.const b) i (suc i)
    compare : {c : Cmp} {a b : Expr} {i m n d : ℕ} → InE a i m → InE b m n → at l n ≡ act (Act.compare c d) → n - d ≡ m → InC (Cond.compare c a b) i (suc n)
    and : {a b : Cond} {i m n d : ℕ} → InC a i m → at l m ≡ act (Act.jump false d) → InC b (suc m) n → suc m + d ≡ n → InC (Cond.and a b) i n
    or : {a b : Cond} {i m n d : ℕ} → InC a i m → at l m ≡ act (Act.jump true d) → InC b (suc m) n → suc m + d ≡ n → InC (Cond.or a b) i n

  mutual
    pub data InS : Stmt → ℕ → ℕ → Type 0 where
      empty : {i : ℕ} → at l i ≡ act Act.begin → InS Stmt.empty i (suc i)
      declare : {a : Address} {i : ℕ} → at l i ≡ act Act.begin → InS (Stmt.declare a) i (suc i)
      unknown : {a : Address} {i : ℕ} → at l i ≡ act (Act.ask a) → InS (Stmt.unknown a Option.none) i (suc i)
      own : {a : Address} {w : Window} {i : ℕ} → at l i ≡ leaf (Leaf.number w.low) → at l (suc i) ≡ leaf (Leaf.number w.high) → at l (suc (suc i)) ≡ act (Act.own a) → T (le_z w.low w.high)
          → InS (Stmt.unknown a (some w)) i (suc (suc (suc i)))
      assign : {a : Address} {e : Expr} {i n : ℕ} → at l i ≡ act Act.begin → InE e (suc i) n → at l n ≡ act (Act.store a) → InS (Stmt.assign a e) i (suc n)
      eval : {e : Expr} {i n : ℕ} → at l i ≡ act Act.begin → InE e (suc i) n → InS (Stmt.eval e) i n
      block : {ss : Stmts} {i n : ℕ} → at l i ≡ act Act.begin → InSs ss (suc i) n → InS (Stmt.block ss) i n
      if : {c : Cond} {s t : Stmt} {i m n j d e : ℕ} → at l i ≡ act Act.begin → InC c (suc i) m → at l m ≡ act (Act.jump false d) → InS s (suc m) n → at l n ≡ act (Act.skip e) → InS t (suc n) j
          → suc m + d ≡ suc n → suc n + e ≡ j → InS (Stmt.if c s t) i j
      while : {c : Cond} {s : Stmt} {i m n d e : ℕ} → at l i ≡ act Act.begin → InC c (suc i) m → at l m ≡ act (Act.jump false d) → InS s (suc m) n → at l n ≡ act (Act.again e)
          → suc m + d ≡ suc n → n - e ≡ suc i → InS (Stmt.while c s) i (suc n)
      return : {e : Expr} {i n : ℕ} → at l i ≡ act Act.begin → InE e (suc i) n → at l n ≡ act Act.return → InS (Stmt.return e) i (suc n)
      fail : {i : ℕ} → at l i ≡ act Act.begin → at l (suc i) ≡ act Act.fail → InS Stmt.fail i (suc (suc i))

    pub data InSs : Stmts → ℕ → ℕ → Type 0 where
      end : {i : ℕ} → InSs Stmts.end i i
      next : {s : Stmt} {ss : Stmts} {i m n : ℕ} → InS s i m → InSs ss m n → InSs (Stmts.next s ss) i n

-- a body and the entry after it
pub record InB (l : List Entry) (b : Stmts) (i : ℕ) : Type 0 where
  pub end : ℕ
  pub body : InSs l b i end
  pub last : at l end ≡ act Act.fail

-- a program's code
pub record Placed (c : Code) (p : Program) : Type 0 where
  pub first : at c.entries 0 ≡ act (Act.call p.main 0)
  pub second : at c.entries 1 ≡ act Act.return
  pub bodies : (g : ℕ) → InB c.entries (get_or p.bodies g Stmts.end) (get_or c.starts g 2)
