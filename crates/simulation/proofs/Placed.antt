-- The parts of a program stand in its code as `Placed` says.
use Prim.Native.Nat.{ℕ, zero, suc, ◌+◌}
use mathlib.Core.Path.{◌≡◌, refl, subst}
use mathlib.Core.Option.{none, some}
use mathlib.Core.List.{List, [], ◌∷◌, ◌++◌, append_assoc}
use native.Mathlib.Omega.{arith}
use lib.ListN.{length, get_or, length-append}
use lib.Seq.{get_or_at}
use lib.Dec.{T}
use lib.Signed.{le_z}
use Rattle.semantics.specs.Program.{Window, Expr, Exprs, Cond, Stmt, Stmts, Program}
use Rattle.semantics.proofs.Own.{PairsS, PairsSs, Pairs}
use Rattle.simulation.specs.Code.{Act, Entry, act, code_e, code_es, code_c, code_s, code_ss, code_b, entries_of, starts_of, code_of}
use Rattle.simulation.specs.Placed.{at, InE, InEs, InC, InS, InSs, InB, Placed}

-- a pair whose low end is not above its high end
abbrev pub Upward : Window → Type 0
Upward w = T (le_z w.low w.high)

module _ (l : List Entry) where
  -- the entries from i on are these
  data Holds : ℕ → List Entry → Type 0 where
    nothing : {i : ℕ} → Holds i []
    these : {i : ℕ} {x : Entry} {xs : List Entry} → at l i ≡ x → Holds (suc i) xs → Holds i (x ∷ xs)

  head : {i : ℕ} {x : Entry} {xs : List Entry} → Holds i (x ∷ xs) → at l i ≡ x
  head (these e h) = e

  tail : {i : ℕ} {x : Entry} {xs : List Entry} → Holds i (x ∷ xs) → Holds (suc i) xs
  tail (these e h) = h

  left : (i : ℕ) (xs ys : List Entry) → Holds i (xs ++ ys) → Holds i xs
  left i [] ys h = nothing
  left i (x ∷ xs) ys h = these (head h) (left (suc i) xs ys (tail h))

  right : (i : ℕ) (xs ys : List Entry) → Holds i (xs ++ ys) → Holds (i + length xs) ys
  right i [] ys h = subst (λ j. Holds j ys) (omega arith) h
  right i (x ∷ xs) ys h = subst (λ j. Holds j ys) (omega arith) (right (suc i) xs ys (tail h))

  -- two parts, and the second is an entry or begins with one
  record Both (i : ℕ) (xs ys : List Entry) : Type 0 where
    one : Holds i xs
    two : Holds (i + length xs) ys

  both : (i : ℕ) (xs ys : List Entry) → Holds i (xs ++ ys) → Both i xs ys
  both i xs ys h = record { one = left i xs ys h; two = right i xs ys h }

  mutual
    unfolding code_e

    in_e : (e : Expr) (i : ℕ) → Holds i (code_e e) → InE l e i (i + length (code_e e))
    in_e (Expr.number z) i h = subst (InE l (Expr.number z) i) (omega arith) (InE.number (head h))
    in_e (Expr.name a) i h = subst (InE l (Expr.name a) i) (omega arith) (InE.name (head h))
    in_e (Expr.op o a b) i h =
        let p = both i (code_e a) _ h in
        let q = both _ (code_e b) _ p.two in
        subst (InE l (Expr.op o a b) i) (simp (length-append) (omega arith)) (InE.op (in_e a i p.one) (in_e b _ q.one) (head q.two) (omega arith))
    in_e (Expr.call g es) i h =
        let p = both i (code_es es) _ h in
        subst (InE l (Expr.call g es) i) (simp length-append (omega arith)) (InE.call (in-es es i p.one) (head p.two))

    in-es : (es : Exprs) (i : ℕ) → Holds i (code_es es) → InEs l es i (i + length (code_es es))
    in-es Exprs.none i h = subst (InEs l Exprs.none i) (omega arith) InEs.none
    in-es (Exprs.more e es) i h =
        let p = both i (code_e e) _ h in
        subst (InEs l (Exprs.more e es) i) (simp length-append (omega arith)) (InEs.more (in_e e i p.one) (head p.two) (omega arith) (in-es es _ (tail p.two)))

  in_c : (c : Cond) (i : ℕ) → Holds i (code_c c) → InC l c i (i + length (code_c c))
  unfolding code_c
  in_c (Cond.const b) i h = subst (InC l (Cond.const b) i) (omega arith) (InC.const (head h))
  in_c (Cond.compare c a b) i h =
      let p = both i (code_e a) _ h in
      let q = both _ (code_e b) _ p.two in
      subst (InC l (Cond.compare c a b) i) (simp length-append (omega arith)) (InC.compare (in_e a i p.one) (in_e b _ q.one) (head q.two) (omega arith))
  in_c (Cond.and a b) i h =
      let p = both i (code_c a) _ h in
      subst (InC l (Cond.and a b) i) (simp length-append (omega arith)) (InC.and (in_c a i p.one) (head p.two) (in_c b _ (tail p.two)) (omega arith))
  in_c (Cond.or a b) i h =
      let p = both i (code_c a) _ h in
      subst (InC l (Cond.or a b) i) (simp length-append (omega arith)) (InC.or (in_c a i p.one) (head p.two) (in_c b _ (tail p.two)) (omega arith))

  mutual
    unfolding code_s PairsS

    in-s : (s : Stmt) → PairsS Upward s → (i : ℕ) → Holds i (code_s s) → InS l s i (i + length (code_s s))
    in-s Stmt.empty o i h = subst (InS l Stmt.empty i) (omega arith) (InS.empty (head h))
    in-s (Stmt.declare a) o i h = subst (InS l (Stmt.declare a) i) (omega arith) (InS.declare (head h))
    in-s (Stmt.unknown a none) o i h = subst (InS l (Stmt.unknown a none) i) (omega arith) (InS.unknown (head h))
    in-s (Stmt.unknown a (some w)) o i h = subst (InS l (Stmt.unknown a (some w)) i) (omega arith) (InS.own (head h) (head (tail h)) (head (tail (tail h))) o)
    in-s (Stmt.assign a e) o i h =
        let p = both (suc i) (code_e e) _ (tail h) in
        subst (InS l (Stmt.assign a e) i) (simp length-append (omega arith)) (InS.assign (head h) (in_e e _ p.one) (head p.two))
    in-s (Stmt.eval e) o i h = subst (InS l (Stmt.eval e) i) (omega arith) (InS.eval (head h) (in_e e _ (tail h)))
    in-s (Stmt.block ss) o i h = subst (InS l (Stmt.block ss) i) (omega arith) (InS.block (head h) (in-ss ss o _ (tail h)))
    in-s (Stmt.if c s t) o i h =
        let p = both (suc i) (code_c c) _ (tail h) in
        let q = both _ (code_s s) _ (tail p.two) in
        subst (InS l (Stmt.if c s t) i) (simp length-append (omega arith))
        (InS.if (head h) (in_c c _ p.one) (head p.two) (in-s s o.0 _ q.one) (head q.two) (in-s t o.1 _ (tail q.two)) (omega arith) (omega arith))
    in-s (Stmt.while c s) o i h =
        let p = both (suc i) (code_c c) _ (tail h) in
        let q = both _ (code_s s) _ (tail p.two) in
        subst (InS l (Stmt.while c s) i) (simp length-append (omega arith))
        (InS.while (head h) (in_c c _ p.one) (head p.two) (in-s s o _ q.one) (head q.two) (omega arith) (omega arith))
    in-s (Stmt.return e) o i h =
        let p = both (suc i) (code_e e) _ (tail h) in
        subst (InS l (Stmt.return e) i) (simp length-append (omega arith)) (InS.return (head h) (in_e e _ p.one) (head p.two))
    in-s Stmt.fail o i h = subst (InS l Stmt.fail i) (omega arith) (InS.fail (head h) (head (tail h)))

    in-ss : (ss : Stmts) → PairsSs Upward ss → (i : ℕ) → Holds i (code_ss ss) → InSs l ss i (i + length (code_ss ss))
    in-ss Stmts.end o i h = subst (InSs l Stmts.end i) (omega arith) InSs.end
    in-ss (Stmts.next s ss) o i h =
        let p = both i (code_s s) _ h in
        subst (InSs l (Stmts.next s ss) i) (simp length-append (omega arith)) (InSs.next (in-s s o.0 i p.one) (in-ss ss o.1 _ p.two))

  in_b : (b : Stmts) → PairsSs Upward b → (i : ℕ) → Holds i (code_b b) → InB l b i
  unfolding code_b
  in_b b o i h =
      let p = both i (code_ss b) _ h in
      record { end = i + length (code_ss b); body = in-ss b o i p.one; last = head p.two }

  -- what is no function has an empty body, at 2
  in-bs : at l 2 ≡ act Act.fail → (bs : List Stmts) → ((g : ℕ) → PairsSs Upward (get_or bs g Stmts.end)) → (i : ℕ) → Holds i (entries_of bs) → (g : ℕ) → InB l (get_or bs g Stmts.end) (get_or (starts_of i bs) g 2)
  unfolding entries_of starts_of
  in-bs e [] o i h g = record { end = 2; body = InSs.end; last = e }
  in-bs e (b ∷ bs) o i h zero = in_b b (o 0) i (left i (code_b b) _ h)
  in-bs e (b ∷ bs) o i h (suc g) = in-bs e bs (λ g. o (suc g)) _ (right i (code_b b) _ h) g

-- a list holds what it ends with
holds-from : (xs ys : List Entry) (i : ℕ) → length xs ≡ i → Holds (xs ++ ys) i ys
holds-from xs [] i e = nothing
holds-from xs (y ∷ ys) i e = these (get_or_at xs y ys _ i e) (subst (λ l. Holds l (suc i) ys) (append_assoc xs (y ∷ []) ys) (holds-from (xs ++ y ∷ []) ys (suc i) (simp length-append (omega arith))))

pub placed : (p : Program) → Pairs Upward p → Placed (code_of p) p
unfolding code_of
placed p o = record { first = refl; second = refl; bodies = in-bs _ refl p.bodies o 3 (holds-from (_ ∷ _ ∷ _ ∷ []) (entries_of p.bodies) 3 refl) }
