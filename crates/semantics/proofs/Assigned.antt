-- Definite assignment keeps runs from being stuck: what is known of each variable from place to place in a program, and that a program which reads only what is assigned is sure.
use Prim.Native.Nat.{ℕ, zero, suc, ◌≤◌, ◌<◌}
use mathlib.Core.Path.{◌≡◌, refl, sym, ap, ◌∙◌, subst}
use mathlib.Core.Bool.{Bool, true, false, not, ◌&&◌, ◌||◌}
use mathlib.Core.Option.{Option, none, some}
use mathlib.Core.List.{List, [], ◌∷◌, map}
use native.Mathlib.Omega.{arith}
use native.Mathlib.Nat.{le_of_suc-le-suc}
use lib.ListN.{length, get_or, set, length-set}
use lib.Seq.{get_or-set_same, get_or-set_other}
use lib.Dec.{T, eqb, eqb→eq, eqb_refl, ltb, ltb→lt}
use lib.IntN.{ℤ}
use Rattle.semantics.specs.Int.{Op}
use Rattle.semantics.specs.Does
use Rattle.semantics.specs.Program.{slot, Expr, Exprs, more, Cond, const, compare, and, or, number, name, op, call, Stmt, Stmts, Program}
use Rattle.semantics.proofs.Frames.{length-frame}
use Rattle.semantics.specs.Does.{Does, stuck, Frame, frame, expr, exprs, loop, stmt, stmts, enter, does, Sure}

-- ---- what is known of a variable at a place in a program

-- no run comes here, or whether it is assigned
pub data Flow : Type 0 where
  nowhere : Flow
  at : Bool → Flow

-- where two ways meet
abbrev pub meet : Flow → Flow → Flow
meet nowhere g = g
meet (at b) nowhere = at b
meet (at b) (at c) = at (b && c)

-- after a condition that came out so
unfoldable pub when : Cond → Bool → Flow → Flow
when (const true) true f = f
when (const true) false f = nowhere
when (const false) true f = nowhere
when (const false) false f = f
when (compare c a b) o f = f
when (and a b) true f = when b true (when a true f)
when (and a b) false f = meet (when a false f) (when b false (when a true f))
when (or a b) true f = meet (when a true f) (when b true (when a false f))
when (or a b) false f = when b false (when a false f)

-- of variable v, after an assignment to variable i
abbrev pub assigned : ℕ → ℕ → Flow → Flow
assigned i v nowhere = nowhere
assigned i v (at b) = at (eqb i v || b)

-- of variable v, after a statement; a declaration changes nothing
unfoldable mutual
  pub after : Stmt → ℕ → Flow → Flow
  after Stmt.empty v f = f
  after (Stmt.declare a) v f = f
  after (Stmt.unknown (slot i) o) v f = assigned i v f
  after (Stmt.assign (slot i) e) v f = assigned i v f
  after (Stmt.eval e) v f = f
  after (Stmt.block ss) v f = after_all ss v f
  after (Stmt.if c s t) v f = meet (after s v (when c true f)) (after t v (when c false f))
  after (Stmt.while c s) v f = when c false f
  after (Stmt.return e) v f = nowhere
  after Stmt.fail v f = nowhere

  pub after_all : Stmts → ℕ → Flow → Flow
  after_all Stmts.end v f = f
  after_all (Stmts.next s ss) v f = after_all ss v (after s v f)

-- ---- what a program keeps to

-- a variable that may be read; one that may be declared, since nothing that was assigned is lost
abbrev pub Assigned : Flow → Type 0
Assigned nowhere = Unit {0}
Assigned (at b) = T b

abbrev pub Unassigned : Flow → Type 0
Unassigned nowhere = Unit {0}
Unassigned (at b) = T (not b)

unfoldable pub many : Exprs → ℕ
many Exprs.none = 0
many (more e es) = suc (many es)

-- what is known of all variables
abbrev pub Flows : Type 0
Flows = ℕ → Flow

module _ (arity : ℕ → ℕ) where
  unfoldable mutual
    pub KeepsE : Expr → Flows → Type 0
    KeepsE (number z) φ = Unit {0}
    KeepsE (name (slot i)) φ = Assigned (φ i)
    KeepsE (op o a b) φ = KeepsE a φ × KeepsE b φ
    KeepsE (call g es) φ = (many es ≡ arity g) × KeepsEs es φ

    pub KeepsEs : Exprs → Flows → Type 0
    KeepsEs Exprs.none φ = Unit {0}
    KeepsEs (more e es) φ = KeepsE e φ × KeepsEs es φ

  unfoldable pub KeepsC : Cond → Flows → Type 0
  KeepsC (const b) φ = Unit {0}
  KeepsC (compare c a b) φ = KeepsE a φ × KeepsE b φ
  KeepsC (and a b) φ = KeepsC a φ × KeepsC b (λ v. when a true (φ v))
  KeepsC (or a b) φ = KeepsC a φ × KeepsC b (λ v. when a false (φ v))

  unfoldable mutual
    pub KeepsS : Stmt → Flows → Type 0
    KeepsS Stmt.empty φ = Unit {0}
    KeepsS (Stmt.declare (slot i)) φ = Unassigned (φ i)
    KeepsS (Stmt.unknown (slot i) o) φ = i < 16
    KeepsS (Stmt.assign (slot i) e) φ = (i < 16) × KeepsE e φ
    KeepsS (Stmt.eval e) φ = KeepsE e φ
    KeepsS (Stmt.block ss) φ = KeepsSs ss φ
    KeepsS (Stmt.if c s t) φ = KeepsC c φ × KeepsS s (λ v. when c true (φ v)) × KeepsS t (λ v. when c false (φ v))
    KeepsS (Stmt.while c s) φ = KeepsC c φ × KeepsS s (λ v. when c true (φ v))
    KeepsS (Stmt.return e) φ = KeepsE e φ
    KeepsS Stmt.fail φ = Unit {0}

    pub KeepsSs : Stmts → Flows → Type 0
    KeepsSs Stmts.end φ = Unit {0}
    KeepsSs (Stmts.next s ss) φ = KeepsS s φ × KeepsSs ss (λ v. after s v (φ v))

-- where a function starts: its parameters are assigned
abbrev pub parameters : ℕ → Flows
parameters n v = at (ltb v n)

-- ---- what is assigned stays so

-- what g lets a frame hold, f does too
data Below : Flow → Flow → Type 0 where
  dead : {f : Flow} → Below f nowhere
  same : Below (at true) (at true)
  any : {b : Bool} → Below (at false) (at b)

below-refl : (f : Flow) → Below f f
below-refl nowhere = dead
below-refl (at true) = same
below-refl (at false) = any

below-trans : {f g h : Flow} → Below f g → Below g h → Below f h
below-trans b dead = dead
below-trans same same = same
below-trans any same = any
below-trans any any = any

below-meet : {f g h : Flow} → Below f g → Below f h → Below f (meet g h)
below-meet dead q = q
below-meet same dead = same
below-meet same same = same
below-meet any dead = any
below-meet any any = any

below-when : (c : Cond) (o : Bool) (f : Flow) → Below f (when c o f)
unfolding when
below-when (const true) true f = below-refl f
below-when (const true) false f = dead
below-when (const false) true f = dead
below-when (const false) false f = below-refl f
below-when (compare c a b) o f = below-refl f
below-when (and a b) true f = below-trans (below-when a true f) (below-when b true (when a true f))
below-when (and a b) false f = below-meet (below-when a false f) (below-trans (below-when a true f) (below-when b false (when a true f)))
below-when (or a b) true f = below-meet (below-when a true f) (below-trans (below-when a false f) (below-when b true (when a false f)))
below-when (or a b) false f = below-trans (below-when a false f) (below-when b false (when a false f))

below-assigned : (i v : ℕ) (f : Flow) → Below f (assigned i v f)
below-assigned i v nowhere = dead
below-assigned i v (at true) = go (eqb i v)
  where
    go : (b : Bool) → Below (at true) (at (b || true))
    go true = same
    go false = same
below-assigned i v (at false) = any

mutual
  unfolding after

  below-after : (s : Stmt) (v : ℕ) (f : Flow) → Below f (after s v f)
  below-after Stmt.empty v f = below-refl f
  below-after (Stmt.declare a) v f = below-refl f
  below-after (Stmt.unknown (slot i) o) v f = below-assigned i v f
  below-after (Stmt.assign (slot i) e) v f = below-assigned i v f
  below-after (Stmt.eval e) v f = below-refl f
  below-after (Stmt.block ss) v f = below_all ss v f
  below-after (Stmt.if c s t) v f =
      below-meet (below-trans (below-when c true f) (below-after s v (when c true f))) (below-trans (below-when c false f) (below-after t v (when c false f)))
  below-after (Stmt.while c s) v f = below-when c false f
  below-after (Stmt.return e) v f = dead
  below-after Stmt.fail v f = dead

  below_all : (ss : Stmts) (v : ℕ) (f : Flow) → Below f (after_all ss v f)
  below_all Stmts.end v f = below-refl f
  below_all (Stmts.next s ss) v f = below-trans (below-after s v f) (below_all ss v (after s v f))

-- ---- frames that fit

module _ {X : Type 0} where
  abbrev Fit : Flow → Option X → Type 0
  Fit nowhere o = ⊥
  Fit (at true) none = ⊥
  Fit (at true) (some x) = Unit {0}
  Fit (at false) o = Unit {0}

  record Fits (F : Frame X) (φ : Flows) : Type 0 where
    size : length F ≡ 16
    fits : (v : ℕ) → Fit (φ v) (get_or F v none)

  fit-below : {f g : Flow} → Below f g → (o : Option X) → Fit g o → Fit f o
  fit-below dead o h = absurd h
  fit-below same o h = h
  fit-below any o h = tt

  fit-left : (f g : Flow) (o : Option X) → Fit f o → Fit (meet f g) o
  fit-left nowhere g o h = absurd h
  fit-left (at b) nowhere o h = h
  fit-left (at true) (at true) o h = h
  fit-left (at true) (at false) o h = tt
  fit-left (at false) (at c) o h = tt

  fit-right : (f g : Flow) (o : Option X) → Fit g o → Fit (meet f g) o
  fit-right nowhere g o h = h
  fit-right (at b) nowhere o h = absurd h
  fit-right (at true) (at c) o h = h
  fit-right (at false) (at c) o h = tt

  fits-as : {F : Frame X} {φ ψ : Flows} → ((v : ℕ) (o : Option X) → Fit (φ v) o → Fit (ψ v) o) → Fits F φ → Fits F ψ
  fits-as {F} g h = record { size = h.size; fits = λ v. g v (get_or F v none) (h.fits v) }

  -- one place is set, and of the others no more is asked
  fits-set : {F : Frame X} {φ ψ : Flows} (i : ℕ) (o : Option X) → Fits F φ → Fit (ψ i) (get_or (set F i o) i none) → ((v : ℕ) → (v ≡ i → ⊥) → (p : Option X) → Fit (φ v) p → Fit (ψ v) p)
      → Fits (set F i o) ψ
  fits-set {F} {φ} {ψ} i o h g k = record { size = length-set F i o ∙ h.size; fits = λ v. go v (eqb v i) refl }
    where
      go : (v : ℕ) (b : Bool) → eqb v i ≡ b → Fit (ψ v) (get_or (set F i o) v none)
      go v true e = let q : v ≡ i = eqb→eq v i (subst T (sym e) tt) in rw q g
      go v false e =
          let q : v ≡ i → ⊥ = λ x. subst T (ap (eqb v) x ∙ e) (eqb_refl v) in
          rw (get_or-set_other F i v o none q) (k v q (get_or F v none) (h.fits v))

  fits-store : {F : Frame X} {φ : Flows} (i : ℕ) (x : X) → i < 16 → Fits F φ → Fits (set F i (some x)) (λ v. assigned i v (φ v))
  fits-store {F} {φ} i x l h = fits-set i (some x) h (rw (get_or-set_same F i (some x) none (omega (arith, h.size, l))) (here (φ i) (h.fits i))) (λ v q p. other v (φ v) p q)
    where
      here : (f : Flow) → Fit f (get_or F i none) → Fit (assigned i i f) (some x)
      here nowhere k = k
      here (at b) k = go (eqb i i) (eqb_refl i)
        where
          go : (c : Bool) → T c → Fit (at (c || b)) (some x)
          go true t = tt
          go false t = elim t [ ]

      other : (v : ℕ) (f : Flow) (p : Option X) → (v ≡ i → ⊥) → Fit f p → Fit (assigned i v f) p
      other v nowhere p q k = k
      other v (at b) p q k = go (eqb i v) (eqb→eq i v)
        where
          go : (c : Bool) → (T c → i ≡ v) → Fit (at (c || b)) p
          go true t = absurd (q (sym (t tt)))
          go false t = k

  -- the place of a variable that is not assigned may hold anything
  fits-declare : {F : Frame X} {φ : Flows} (i : ℕ) (o : Option X) → Unassigned (φ i) → Fits F φ → Fits (set F i o) φ
  fits-declare {F} {φ} i o u h = fits-set i o h (go (φ i) _ u (h.fits i)) (λ v q p k. k)
    where
      go : (f : Flow) (o : Option X) → Unassigned f → Fit f (get_or F i none) → Fit f o
      go nowhere o u k = absurd k
      go (at true) o u k = absurd u
      go (at false) o u k = tt

  -- the frame of a function that starts
  given : (n : ℕ) (vs : List X) (v : ℕ) → v < length vs → v < n → Fit (at true) (get_or (frame none n (map some vs)) v none)
  unfolding frame
  given zero vs v l m = absurd (omega arith)
  given (suc n) [] v l m = absurd (omega arith)
  given (suc n) (x ∷ vs) zero l m = tt
  given (suc n) (x ∷ vs) (suc v) l m = given n vs v (le_of_suc-le-suc l) (le_of_suc-le-suc m)

  fits-start : (vs : List X) → length vs ≤ 16 → Fits (frame none 16 (map some vs)) (parameters (length vs))
  fits-start vs l = record { size = length-frame none 16 (map some vs); fits = λ v. go v (ltb v (length vs)) (ltb→lt v (length vs)) }
    where
      go : (v : ℕ) (b : Bool) → (T b → v < length vs) → Fit (at b) (get_or (frame none 16 (map some vs)) v none)
      go v true h = let k = h tt in given 16 vs v k (omega (arith, k, l))
      go v false h = tt

-- ---- a program that keeps to it is sure

module _ {X : Type 0} (num : ℤ → X) (work : Op → X → X → X) (arity : ℕ → ℕ) where
  module _ (invoke : ℕ → List X → (X → Does X) → Does X)
      (calls : (g : ℕ) (vs : List X) (k : X → Does X) → length vs ≡ arity g → ((x : X) → Sure (k x)) → Sure (invoke g vs k)) where
    held : (f : Flow) (o : Option X) (k : X → Does X) → Assigned f → Fit f o → ((x : X) → Sure (k x)) → Sure {X = X} (elim o as (λ o. Does X) [ none ↦ stuck | some x ↦ k x ])
    held nowhere o k a h s = absurd h
    held (at true) none k a h s = absurd h
    held (at true) (some x) k a h s = s x
    held (at false) o k a h s = absurd a

    mutual
      unfolding expr KeepsE many Sure

      expr-sure : (e : Expr) {F : Frame X} {φ : Flows} → Fits F φ → KeepsE arity e φ → (k : X → Does X) → ((x : X) → Sure (k x)) → Sure (expr num work invoke e F k)
      expr-sure (number z) h e k s = s (num z)
      expr-sure (name (slot i)) {F} {φ} h e k s = held (φ i) (get_or F i none) k e (h.fits i) s
      expr-sure (op o a b) h e k s = expr-sure a h e.0 _ λ x. expr-sure b h e.1 _ λ y. s (work o x y)
      expr-sure (call g es) h e k s = exprs-sure es h e.1 _ λ vs l. calls g vs k (l ∙ e.0) s

      exprs-sure : (es : Exprs) {F : Frame X} {φ : Flows} → Fits F φ → KeepsEs arity es φ → (k : List X → Does X) → ((vs : List X) → length vs ≡ many es → Sure (k vs))
          → Sure (exprs num work invoke es F k)
      exprs-sure Exprs.none h e k s = s [] refl
      exprs-sure (more a es) h e k s = expr-sure a h e.0 _ λ x. exprs-sure es h e.1 _ λ vs l. s (x ∷ vs) (ap suc l)

    cond-sure : (c : Cond) {F : Frame X} {φ : Flows} → Fits F φ → KeepsC arity c φ → (k : Bool → Does X) → ((o : Bool) → Fits F (λ v. when c o (φ v)) → Sure (k o))
        → Sure (Does.cond num work invoke c F k)
    unfolding Does.cond KeepsC when Sure
    cond-sure (const true) h e k s = s true h
    cond-sure (const false) h e k s = s false h
    cond-sure (compare c a b) h e k s = expr-sure a h e.0 _ λ x. expr-sure b h e.1 _ λ y o. s o h
    cond-sure (and a b) {φ} h e k s = cond-sure a h e.0 _ (elim [
      | true ↦ λ g. cond-sure b g e.1 k (elim [ true ↦ s true | false ↦ λ m. s false (fits-as (λ v. fit-right (when a false (φ v)) (when b false (when a true (φ v)))) m) ])
      | false ↦ λ g. s false (fits-as (λ v. fit-left (when a false (φ v)) (when b false (when a true (φ v)))) g)
    ])
    cond-sure (or a b) {φ} h e k s = cond-sure a h e.0 _ (elim [
      | true ↦ λ g. s true (fits-as (λ v. fit-left (when a true (φ v)) (when b true (when a false (φ v)))) g)
      | false ↦ λ g. cond-sure b g e.1 k (elim [ true ↦ λ m. s true (fits-as (λ v. fit-right (when a true (φ v)) (when b true (when a false (φ v)))) m) | false ↦ s false ])
    ])

    -- a turn that is sure from every frame that fits, if it goes on with such frames
    loop-sure : (n : ℕ) (φ : Flows) (turn : Frame X → (Frame X → Does X) → Does X)
        → ((F : Frame X) → Fits F φ → (k : Frame X → Does X) → ((G : Frame X) → Fits G φ → Sure (k G)) → Sure (turn F k))
        → (F : Frame X) → Fits F φ → Sure (loop num work invoke n turn F)
    unfolding loop Sure
    loop-sure zero φ turn t F h = tt
    loop-sure (suc n) φ turn t F h = t F h _ λ G g. loop-sure n φ turn t G g

    module _ (most : ℕ) where
      mutual
        unfolding stmt KeepsS after Sure

        stmt-sure : (s : Stmt) {F : Frame X} {φ : Flows} → Fits F φ → KeepsS arity s φ → (k : Frame X → Does X) (r : X → Does X)
            → ((G : Frame X) → Fits G (λ v. after s v (φ v)) → Sure (k G)) → ((x : X) → Sure (r x)) → Sure (stmt num work invoke most s F k r)
        stmt-sure Stmt.empty h e k r s t = s _ h
        stmt-sure (Stmt.declare (slot i)) h e k r s t = s _ (fits-declare i _ e h)
        stmt-sure (Stmt.unknown (slot i) o) h e k r s t = λ x. s _ (fits-store i x e h)
        stmt-sure (Stmt.assign (slot i) a) h e k r s t = expr-sure a h e.1 _ λ x. s _ (fits-store i x e.0 h)
        stmt-sure (Stmt.eval a) h e k r s t = expr-sure a h e _ λ x. s _ h
        stmt-sure (Stmt.block ss) h e k r s t = stmts-sure ss h e k r s t
        stmt-sure (Stmt.if c a b) {φ} h e k r s t = cond-sure c h e.0 _ (elim [
          | true ↦ λ g. stmt-sure a g e.1 k r (λ G m. s G (fits-as (λ v. fit-left (after a v (when c true (φ v))) (after b v (when c false (φ v)))) m)) t
          | false ↦ λ g. stmt-sure b g e.2 k r (λ G m. s G (fits-as (λ v. fit-right (after a v (when c true (φ v))) (after b v (when c false (φ v)))) m)) t
        ])
        stmt-sure (Stmt.while c a) {φ} h e k r s t = loop-sure most φ _
            (λ F g again u. cond-sure c g e.0 _ (elim [
              | true ↦ λ m. stmt-sure a m e.1 again r (λ G n. u G (fits-as (λ v. fit-below (below-trans (below-when c true (φ v)) (below-after a v (when c true (φ v))))) n)) t
              | false ↦ λ m. s F m
            ])) _ h
        stmt-sure (Stmt.return a) h e k r s t = expr-sure a h e r t
        stmt-sure Stmt.fail h e k r s t = tt

        stmts-sure : (ss : Stmts) {F : Frame X} {φ : Flows} → Fits F φ → KeepsSs arity ss φ → (k : Frame X → Does X) (r : X → Does X)
            → ((G : Frame X) → Fits G (λ v. after_all ss v (φ v)) → Sure (k G)) → ((x : X) → Sure (r x)) → Sure (stmts num work invoke most ss F k r)
        stmts-sure Stmts.end h e k r s t = s _ h
        stmts-sure (Stmts.next a ss) h e k r s t = stmt-sure a h e.0 _ r (λ G g. stmts-sure ss g e.1 k r s t) t

  module _ (most : ℕ) (bodies : List Stmts) (few : (g : ℕ) → arity g ≤ 16) (keeps : (g : ℕ) → KeepsSs arity (get_or bodies g Stmts.end) (parameters (arity g))) where
    enter-sure : (d g : ℕ) (vs : List X) (k : X → Does X) → length vs ≡ arity g → ((x : X) → Sure (k x)) → Sure (enter num work most bodies d g vs k)
    unfolding enter Sure
    enter-sure zero g vs k l s = tt
    enter-sure (suc d) g vs k l s =
        stmts-sure (enter num work most bodies d) (enter-sure d) most (get_or bodies g Stmts.end)
        (subst (λ n. Fits (frame none 16 (map some vs)) (parameters n)) l (fits-start vs (rw l (few g)))) (keeps g) _ k (λ G g. tt) s

  -- a program whose functions keep to it, with as many parameters as their calls have arguments, and a main without one
  pub assigned-sure : (most : ℕ) (p : Program) → ((g : ℕ) → arity g ≤ 16) → arity p.main ≡ 0 → ((g : ℕ) → KeepsSs arity (get_or p.bodies g Stmts.end) (parameters (arity g)))
      → Sure (does num work most p)
  unfolding does Sure
  assigned-sure most p few main keeps = enter-sure most p.bodies few keeps 32 p.main [] _ (sym main) (λ x. tt)
