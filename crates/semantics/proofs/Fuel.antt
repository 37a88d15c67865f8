-- The turns allowed to a while never run out within the limit of steps: what a program does within l steps is the same for every allowance of l turns or more.
use Prim.Native.Nat.{ℕ, zero, suc, ◌≤◌, ◌<◌}
use mathlib.Core.Path.{◌≡◌, refl, ap, fun_ext}
use mathlib.Core.Bool.{Bool, true, false}
use mathlib.Core.Option.{Option, none, some}
use mathlib.Core.List.{List, [], ◌∷◌, map}
use native.Mathlib.Omega.{arith}
use lib.ListN.{get_or}
use lib.IntN.{ℤ}
use Rattle.semantics.specs.Int.{Op, Cmp, arith as arith32}
use Rattle.semantics.specs.Does
use Rattle.semantics.specs.Program.{Window, Expr, Exprs, Cond, const, compare, and, or, number, name, op, call, more, Stmt, Stmts, Program}
use Rattle.semantics.specs.Does.{Does, returned, failed, cut, stuck, step, free, test, within, Frame, frame, expr, exprs, loop, stmt, stmts, enter, does, fetch, store}
use Rattle.semantics.specs.Run.{Job, meaning}
use Rattle.semantics.specs.Search.{known, work as workOpen, openly}

module _ {X : Type 0} where
  -- two trees are the same within L steps
  pub record Upto (L : ℕ) (t u : Does X) : Type 0 where
    pub upto : (l f : ℕ) → l ≤ L → within l f t ≡ within l f u

  upto-same : (L : ℕ) (t : Does X) → Upto L t t
  upto-same L t = record { upto = λ l f h. refl }

  upto-less : {K L : ℕ} {t u : Does X} → K ≤ L → Upto L t u → Upto K t u
  upto-less k p = record { upto = λ l f h. p.upto l f (omega arith) }

  -- a step needs what follows it only for one step less
  upto_zero : {t u : Does X} → Upto zero (step t) (step u)
  unfolding within
  upto_zero {t} {u} = record { upto = go }
    where
      go : (l f : ℕ) → l ≤ zero → within l f (step t) ≡ within l f (step u)
      go zero f h = refl
      go (suc l) f h = absurd (omega arith)

  upto-suc : {L : ℕ} {t u : Does X} → Upto L t u → Upto (suc L) (step t) (step u)
  unfolding within
  upto-suc {L} {t} {u} p = record { upto = go }
    where
      go : (l f : ℕ) → l ≤ suc L → within l f (step t) ≡ within l f (step u)
      go zero f h = refl
      go (suc l) f h = ap step (p.upto l f (omega arith))

  upto_step : {L : ℕ} {t u : Does X} → Upto L t u → Upto L (step t) (step u)
  unfolding within
  upto_step {L} {t} {u} p = record { upto = go }
    where
      go : (l f : ℕ) → l ≤ L → within l f (step t) ≡ within l f (step u)
      go zero f h = refl
      go (suc l) f h = ap step (p.upto l f (omega arith))

  upto-free : {L : ℕ} {o : Option Window} {k m : X → Does X} → ((v : X) → Upto L (k v) (m v)) → Upto L (free o k) (free o m)
  unfolding within
  upto-free {L} {o} {k} {m} p = record { upto = go }
    where
      go : (l f : ℕ) → l ≤ L → within l f (free o k) ≡ within l f (free o m)
      go zero f h = refl
      go (suc l) zero h = refl
      go (suc l) (suc f) h = ap (free o) (fun_ext (λ v. (p v).upto l f (omega arith)))

  upto-test : {L : ℕ} {c : Cmp} {a b : X} {k m : Bool → Does X} → ((o : Bool) → Upto L (k o) (m o)) → Upto L (test c a b k) (test c a b m)
  unfolding within
  upto-test {L} {c} {a} {b} p = record { upto = λ l f h. ap (test c a b) (fun_ext (λ o. (p o).upto l f h)) }

  -- what a place holds, if it holds something
  upto-held : {L : ℕ} (o : Option X) {k m : X → Does X} → ((v : X) → Upto L (k v) (m v))
      → Upto L (elim o as (λ o. Does X) [ none ↦ stuck | some v ↦ k v ]) (elim o as (λ o. Does X) [ none ↦ stuck | some v ↦ m v ])
  upto-held {L} none h = upto-same L stuck
  upto-held (some v) h = h v

module _ {X : Type 0} (num : ℤ → X) (work : Op → X → X → X) where
  module _ (L : ℕ) (call₁ call₂ : ℕ → List X → (X → Does X) → Does X)
      (calls : (K : ℕ) → K ≤ L → (g : ℕ) (vs : List X) (k m : X → Does X) → ((v : X) → Upto K (k v) (m v)) → Upto K (call₁ g vs k) (call₂ g vs m)) where
    mutual
      unfolding expr

      expr-upto : (e : Expr) (f : Frame X) (K : ℕ) (k m : X → Does X) → K ≤ L → ((v : X) → Upto K (k v) (m v)) → Upto K (expr num work call₁ e f k) (expr num work call₂ e f m)
      expr-upto (number z) f K k m l h = h (num z)
      expr-upto (name a) f K k m l h = upto-held (fetch none f a) h
      expr-upto (op o a b) f K k m l h = expr-upto a f K _ _ l λ x. expr-upto b f K _ _ l λ y. upto_step (h (work o x y))
      expr-upto (call g es) f K k m l h = exprs-upto es f K _ _ l λ vs. calls K l g vs k m h

      exprs-upto : (es : Exprs) (f : Frame X) (K : ℕ) (k m : List X → Does X) → K ≤ L → ((vs : List X) → Upto K (k vs) (m vs)) → Upto K (exprs num work call₁ es f k) (exprs num work call₂ es f m)
      exprs-upto Exprs.none f K k m l h = h []
      exprs-upto (more e es) f K k m l h = expr-upto e f K _ _ l λ v. exprs-upto es f K _ _ l λ vs. h (v ∷ vs)

    cond-upto : (c : Cond) (f : Frame X) (K : ℕ) (k m : Bool → Does X) → K ≤ L → ((o : Bool) → Upto K (k o) (m o)) → Upto K (Does.cond num work call₁ c f k) (Does.cond num work call₂ c f m)
    unfolding Does.cond
    cond-upto (const b) f K k m l h = h b
    cond-upto (compare c a b) f K k m l h = expr-upto a f K _ _ l λ x. expr-upto b f K _ _ l λ y. upto_step (upto-test h)
    cond-upto (and a b) f K k m l h = cond-upto a f K _ _ l (elim [ true ↦ cond-upto b f K k m l h | false ↦ h false ])
    cond-upto (or a b) f K k m l h = cond-upto a f K _ _ l (elim [ true ↦ h true | false ↦ cond-upto b f K k m l h ])

    -- both loops have more turns left than the steps that count
    loop-upto : (n m K : ℕ) → K < n → K < m → K ≤ L → (turn turn' : Frame X → (Frame X → Does X) → Does X)
        → ((J : ℕ) → J ≤ K → (f : Frame X) (k k' : Frame X → Does X) → ((g : Frame X) → Upto J (k g) (k' g)) → Upto J (turn f k) (turn' f k'))
        → (f : Frame X) → Upto K (loop num work call₁ n turn f) (loop num work call₂ m turn' f)
    unfolding loop
    loop-upto zero m K p q l turn turn' h f = absurd (omega arith)
    loop-upto (suc n) zero K p q l turn turn' h f = absurd (omega arith)
    loop-upto (suc n) (suc m) zero p q l turn turn' h f = h zero (omega arith) f _ _ λ g. upto_zero
    loop-upto (suc n) (suc m) (suc K) p q l turn turn' h f = h (suc K) (omega arith) f _ _ λ g.
        upto-suc (loop-upto n m K (omega arith) (omega arith) (omega arith) turn turn' (λ J j. h J (omega arith)) g)

    module _ (n m : ℕ) (n-enough : L ≤ n) (m-enough : L ≤ m) where
      mutual
        unfolding stmt

        stmt-upto : (t : Stmt) (f : Frame X) (K : ℕ) (k k' : Frame X → Does X) (r r' : X → Does X) → K ≤ L → ((g : Frame X) → Upto K (k g) (k' g)) → ((v : X) → Upto K (r v) (r' v))
            → Upto K (stmt num work call₁ n t f k r) (stmt num work call₂ m t f k' r')
        stmt-upto Stmt.empty f K k k' r r' l h i = upto_step (h f)
        stmt-upto (Stmt.declare a) f K k k' r r' l h i = upto_step (h _)
        stmt-upto (Stmt.unknown a o) f K k k' r r' l h i = upto-free λ v. h (store f a (some v))
        stmt-upto (Stmt.assign a e) f K k k' r r' l h i = upto_step (expr-upto e f K _ _ l λ v. h (store f a (some v)))
        stmt-upto (Stmt.eval e) f K k k' r r' l h i = upto_step (expr-upto e f K _ _ l λ v. h f)
        stmt-upto (Stmt.block ss) f K k k' r r' l h i = upto_step (stmts-upto ss f K k k' r r' l h i)
        stmt-upto (Stmt.if c t u) f K k k' r r' l h i = upto_step (cond-upto c f K _ _ l (elim [ true ↦ stmt-upto t f K k k' r r' l h i | false ↦ stmt-upto u f K k k' r r' l h i ]))
        stmt-upto (Stmt.while c t) f zero k k' r r' l h i = upto_zero
        stmt-upto (Stmt.while c t) f (suc K) k k' r r' l h i =
            upto-suc (loop-upto n m K (omega arith) (omega arith) (omega arith) _ _
            (λ J j g a b p. cond-upto c g J _ _ (omega arith) (elim [ true ↦ stmt-upto t g J a b r r' (omega arith) p (λ v. upto-less (omega arith) (i v)) | false ↦ upto-less (omega arith) (h g) ])) f)
        stmt-upto (Stmt.return e) f K k k' r r' l h i = upto_step (expr-upto e f K r r' l i)
        stmt-upto Stmt.fail f K k k' r r' l h i = upto-same K (step failed)

        stmts-upto : (ss : Stmts) (f : Frame X) (K : ℕ) (k k' : Frame X → Does X) (r r' : X → Does X) → K ≤ L → ((g : Frame X) → Upto K (k g) (k' g)) → ((v : X) → Upto K (r v) (r' v))
            → Upto K (stmts num work call₁ n ss f k r) (stmts num work call₂ m ss f k' r')
        stmts-upto Stmts.end f K k k' r r' l h i = h f
        stmts-upto (Stmts.next t ss) f K k k' r r' l h i = stmt-upto t f K _ _ r r' l (λ g. stmts-upto ss g K k k' r r' l h i) i

  enter-upto : (L n m : ℕ) → L ≤ n → L ≤ m → (p : List Stmts) (d K : ℕ) → K ≤ L → (g : ℕ) (vs : List X) (k k' : X → Does X) → ((v : X) → Upto K (k v) (k' v)) → Upto K (enter num work n p d g vs k) (enter num work m p d g vs k')
  unfolding enter
  enter-upto L n m a b p zero K l g vs k k' h = upto-same K cut
  enter-upto L n m a b p (suc d) K l g vs k k' h =
      upto_step (stmts-upto L (enter num work n p d) (enter num work m p d) (enter-upto L n m a b p d) n m a b (get_or p g Stmts.end) (frame none 16 (map some vs)) K _ _ k k' l (λ f. upto-same K failed) h)

  enough_turns : (l f n m : ℕ) → l ≤ n → l ≤ m → (p : Program) → within l f (does num work n p) ≡ within l f (does num work m p)
  unfolding does
  enough_turns l f n m a b p = (enter-upto l n m a b p.bodies 32 l (omega arith) p.main [] returned returned (λ v. upto-same l (returned v))).upto l f (omega arith)

-- The turns of a while never run out before the step limit: with any greater allowance of turns, a job's runs and its search are the same.
pub turns : (j : Job) (n : ℕ) → j.steps ≤ n → (within j.steps 8 (does (λ z. z) arith32 n j.program) ≡ meaning j) × (within j.steps 8 (does known workOpen n j.program) ≡ openly j)
unfolding meaning openly
turns j n h = (enough_turns (λ z. z) arith32 j.steps 8 n j.steps h (omega arith) j.program, enough_turns known workOpen j.steps 8 n j.steps h (omega arith) j.program)
