-- The own pairs of a program's free declarations: what holds of each of them holds of each that a run asks for.
use Prim.Native.Nat.{ℕ, zero, suc}
use mathlib.Core.Bool.{Bool, true, false}
use mathlib.Core.Option.{Option, none, some}
use mathlib.Core.List.{List, [], ◌∷◌, map}
use lib.ListN.{get_or}
use lib.IntN.{ℤ}
use Rattle.semantics.specs.Int.{Op}
use Rattle.semantics.specs.Does
use Rattle.semantics.specs.Program.{Window, Expr, Exprs, more, Cond, const, compare, and, or, number, name, op, call, Stmt, Stmts, Program}
use Rattle.semantics.specs.Does.{Does, returned, failed, cut, stuck, step, free, test, Frame, frame, fetch, expr, exprs, loop, stmt, stmts, enter, does}
use Rattle.semantics.specs.Run.{pair_of}

module _ (P : Window → Type 0) where
  -- of the own pair, if there is one
  abbrev pub Given : Option Window → Type 0
  Given none = Unit {0}
  Given (some w) = P w

  pub pair-given : (job : Window) → P job → (o : Option Window) → Given o → P (pair_of job o)
  pair-given job h none g = h
  pair-given job h (some w) g = g

  -- of each own pair of a program
  unfoldable mutual
    pub PairsS : Stmt → Type 0
    PairsS Stmt.empty = Unit {0}
    PairsS (Stmt.declare a) = Unit {0}
    PairsS (Stmt.unknown a o) = Given o
    PairsS (Stmt.assign a e) = Unit {0}
    PairsS (Stmt.eval e) = Unit {0}
    PairsS (Stmt.block ss) = PairsSs ss
    PairsS (Stmt.if c s t) = PairsS s × PairsS t
    PairsS (Stmt.while c s) = PairsS s
    PairsS (Stmt.return e) = Unit {0}
    PairsS Stmt.fail = Unit {0}

    pub PairsSs : Stmts → Type 0
    PairsSs Stmts.end = Unit {0}
    PairsSs (Stmts.next s ss) = PairsS s × PairsSs ss

  abbrev pub Pairs : Program → Type 0
  Pairs p = (g : ℕ) → PairsSs (get_or p.bodies g Stmts.end)

  -- of each that is asked for, whatever values are chosen and however the tests go
  unfoldable pub Asks : {X : Type 0} → Does X → Type 0
  Asks (returned v) = Unit {0}
  Asks failed = Unit {0}
  Asks cut = Unit {0}
  Asks stuck = Unit {0}
  Asks (step t) = Asks t
  Asks {X} (free o k) = Given o × ((v : X) → Asks (k v))
  Asks (test c a b k) = (o : Bool) → Asks (k o)

module _ {P Q : Window → Type 0} (f : (w : Window) → P w → Q w) where
  given-map : (o : Option Window) → Given P o → Given Q o
  given-map none g = tt
  given-map (some w) g = f w g

  mutual
    unfolding PairsS

    stmt-map : (s : Stmt) → PairsS P s → PairsS Q s
    stmt-map Stmt.empty h = tt
    stmt-map (Stmt.declare a) h = tt
    stmt-map (Stmt.unknown a o) h = given-map o h
    stmt-map (Stmt.assign a e) h = tt
    stmt-map (Stmt.eval e) h = tt
    stmt-map (Stmt.block ss) h = pairs-map ss h
    stmt-map (Stmt.if c s t) h = (stmt-map s h.0, stmt-map t h.1)
    stmt-map (Stmt.while c s) h = stmt-map s h
    stmt-map (Stmt.return e) h = tt
    stmt-map Stmt.fail h = tt

    pub pairs-map : (ss : Stmts) → PairsSs P ss → PairsSs Q ss
    pairs-map Stmts.end h = tt
    pairs-map (Stmts.next s ss) h = (stmt-map s h.0, pairs-map ss h.1)

module _ (P : Window → Type 0) {X : Type 0} (num : ℤ → X) (work : Op → X → X → X) where
  module _ (invoke : ℕ → List X → (X → Does X) → Does X) (calls : (g : ℕ) (vs : List X) (k : X → Does X) → ((x : X) → Asks P (k x)) → Asks P (invoke g vs k)) where
    held : (o : Option X) (k : X → Does X) → ((x : X) → Asks P (k x)) → Asks P {X = X} (elim o as (λ o. Does X) [ none ↦ stuck | some x ↦ k x ])
    unfolding Asks
    held none k s = tt
    held (some x) k s = s x

    mutual
      unfolding expr Asks

      expr-asks : (e : Expr) (f : Frame X) (k : X → Does X) → ((x : X) → Asks P (k x)) → Asks P (expr num work invoke e f k)
      expr-asks (number z) f k s = s (num z)
      expr-asks (name a) f k s = held (fetch none f a) k s
      expr-asks (op o a b) f k s = expr-asks a f _ λ x. expr-asks b f _ λ y. s (work o x y)
      expr-asks (call g es) f k s = exprs-asks es f _ λ vs. calls g vs k s

      exprs-asks : (es : Exprs) (f : Frame X) (k : List X → Does X) → ((vs : List X) → Asks P (k vs)) → Asks P (exprs num work invoke es f k)
      exprs-asks Exprs.none f k s = s []
      exprs-asks (more e es) f k s = expr-asks e f _ λ x. exprs-asks es f _ λ vs. s (x ∷ vs)

    cond-asks : (c : Cond) (f : Frame X) (k : Bool → Does X) → ((o : Bool) → Asks P (k o)) → Asks P (Does.cond num work invoke c f k)
    unfolding Does.cond Asks
    cond-asks (const b) f k s = s b
    cond-asks (compare c a b) f k s = expr-asks a f _ λ x. expr-asks b f _ λ y. s
    cond-asks (and a b) f k s = cond-asks a f _ (elim [ true ↦ cond-asks b f k s | false ↦ s false ])
    cond-asks (or a b) f k s = cond-asks a f _ (elim [ true ↦ s true | false ↦ cond-asks b f k s ])

    loop-asks : (n : ℕ) (turn : Frame X → (Frame X → Does X) → Does X) → ((f : Frame X) (k : Frame X → Does X) → ((g : Frame X) → Asks P (k g)) → Asks P (turn f k)) → (f : Frame X) → Asks P (loop num work invoke n turn f)
    unfolding loop Asks
    loop-asks zero turn t f = tt
    loop-asks (suc n) turn t f = t f _ λ g. loop-asks n turn t g

    module _ (most : ℕ) where
      mutual
        unfolding stmt PairsS Asks

        stmt-asks : (s : Stmt) → PairsS P s → (f : Frame X) (k : Frame X → Does X) (r : X → Does X) → ((g : Frame X) → Asks P (k g)) → ((x : X) → Asks P (r x)) → Asks P (stmt num work invoke most s f k r)
        stmt-asks Stmt.empty h f k r s t = s f
        stmt-asks (Stmt.declare a) h f k r s t = s _
        stmt-asks (Stmt.unknown a o) h f k r s t = (h, λ x. s _)
        stmt-asks (Stmt.assign a e) h f k r s t = expr-asks e f _ λ x. s _
        stmt-asks (Stmt.eval e) h f k r s t = expr-asks e f _ λ x. s f
        stmt-asks (Stmt.block ss) h f k r s t = stmts-asks ss h f k r s t
        stmt-asks (Stmt.if c a b) h f k r s t = cond-asks c f _ (elim [ true ↦ stmt-asks a h.0 f k r s t | false ↦ stmt-asks b h.1 f k r s t ])
        stmt-asks (Stmt.while c a) h f k r s t = loop-asks most _ (λ g again u. cond-asks c g _ (elim [ true ↦ stmt-asks a h g again r u t | false ↦ s g ])) f
        stmt-asks (Stmt.return e) h f k r s t = expr-asks e f r t
        stmt-asks Stmt.fail h f k r s t = tt

        stmts-asks : (ss : Stmts) → PairsSs P ss → (f : Frame X) (k : Frame X → Does X) (r : X → Does X) → ((g : Frame X) → Asks P (k g)) → ((x : X) → Asks P (r x)) → Asks P (stmts num work invoke most ss f k r)
        stmts-asks Stmts.end h f k r s t = s f
        stmts-asks (Stmts.next a ss) h f k r s t = stmt-asks a h.0 f _ r (λ g. stmts-asks ss h.1 g k r s t) t

  enter-asks : (most : ℕ) (p : Program) → Pairs P p → (d g : ℕ) (vs : List X) (k : X → Does X) → ((x : X) → Asks P (k x)) → Asks P (enter num work most p.bodies d g vs k)
  unfolding enter Asks
  enter-asks most p h zero g vs k s = tt
  enter-asks most p h (suc d) g vs k s = stmts-asks (enter num work most p.bodies d) (enter-asks most p h d) most (get_or p.bodies g Stmts.end) (h g) (frame none 16 (map some vs)) _ k (λ g. tt) s

  pub does-asks : (most : ℕ) (p : Program) → Pairs P p → Asks P (does num work most p)
  unfolding does Asks
  does-asks most p h = enter-asks most p h 32 p.main [] _ (λ x. tt)
