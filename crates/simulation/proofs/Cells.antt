-- A machine's frames hold 0 beside the cells that its code uses, wherever a path comes, and that of the start holds nothing; and on the way starting pairs are added and none is changed.
use Prim.Native.Nat.{ℕ, zero, suc, ◌+◌, ◌-◌, ◌≤◌, ◌<◌}
use mathlib.Core.Path.{◌≡◌, refl, sym, ◌∙◌, subst}
use mathlib.Core.Bool.{Bool}
use mathlib.Core.Option.{Option, none, some}
use mathlib.Core.List.{List, [], ◌∷◌, ◌++◌, append-nil}
use native.Mathlib.Omega.{arith}
use native.Mathlib.Decide.{dec_lt}
use lib.ListN.{get_or, length}
use lib.Seq.{get_or-set_other}
use lib.IntN.{pos}
use Rattle.semantics.specs.Int.{Cmp}
use Rattle.semantics.specs.Program.{Window, Address, slot}
use Rattle.semantics.specs.Does.{frame, store}
use Rattle.semantics.specs.Run.{pair_of}
use Rattle.semantics.specs.Search.{Value, known, unknown, work, Solver}
use Rattle.simulation.specs.Code.{Act, Entry, leaf, argument, act, Code}
use Rattle.simulation.specs.Machine.{Caller, Machine, Doing, Gathered, before, extent, entry_at, taken, gather, entering, leaving, acting, working, advance, start}
use Rattle.simulation.specs.Words.{place_of}
use Rattle.simulation.specs.Path.{State, outcome, holding, End, cut, Went, on, ended, Turn, counted, still, stepped, reached, siding, choosing, comparing, turning, turn}
use Rattle.simulation.specs.Back.{Passes, here, turned}
use Rattle.simulation.specs.Resume.{Comes}
use Rattle.simulation.specs.Cells.{Stores, Fills, Uses, Blank, Blanks, Spares, CallsMain, BlankStart}

-- ---- a turn

-- all machines that the machine may go on as
abbrev pub After : (Machine Value → Type 0) → Doing Value → Type 0
After P (Doing.silent m) = P m
After P (Doing.step m) = P m
After P (Doing.free x k) = (v : Value) → P (k v)
After P (Doing.test o a b k) = (r : Bool) → P (k r)
After P (Doing.returned v) = Unit {0}
After P Doing.failed = Unit {0}
After P Doing.cut = Unit {0}

pub record Extends (ps qs : List Window) : Type 0 where
  pub more : List Window
  pub is : qs ≡ ps ++ more

extends-none : {ps : List Window} → Extends ps ps
extends-none {ps} = record { more = []; is = sym (append-nil ps) }

abbrev pub Onto : (Machine Value → Type 0) → List Window → Went → Type 0
Onto P ps (on m s) = P m × Extends ps s.starts
Onto P ps (ended e s) = Extends ps s.starts

module _ (P : Machine Value → Type 0) (solver : Solver) (job : Window) where
  onto-step : (l : ℕ) (s : State) (m : Machine Value) → P m → Onto P s.starts (elim l as (λ l. Turn) [ zero ↦ still (ended cut s) | suc l ↦ counted s (on m (stepped l s)) ]).went
  onto-step zero s m h = extends-none
  onto-step (suc l) s m h = (h, extends-none)

  onto-free : (l f : ℕ) (s : State) (x : Option Window) (j : Value → Machine Value) → ((v : Value) → P (j v))
      → Onto P s.starts (elim l as (λ l. Turn) [
        | zero ↦ still (ended cut s)
        | suc l ↦ elim f as (λ f. Turn) [ zero ↦ still (ended cut s) | suc f ↦ counted s (on (j (unknown (length s.windows))) (reached (pair_of job x) l f s)) ]
      ]).went
  onto-free zero f s x j h = extends-none
  onto-free (suc l) zero s x j h = extends-none
  onto-free (suc l) (suc f) s x j h = (h _, record { more = pair_of job x ∷ []; is = refl })

  onto-side : (x : Option (List Window)) (o : Cmp) (a b : Value) (s : State) (r : Bool) (m : Machine Value) → P m → Onto P s.starts (siding o a b m s r x)
  onto-side none o a b s r m h = extends-none
  onto-side (some us) o a b s r m h = (h, extends-none)

  onto-choice : (x : Option Bool) (o : Cmp) (a b : Value) (s : State) (j : Bool → Machine Value) → ((q : Bool) → P (j q))
      → Onto P s.starts (elim x as (λ x. Went) [ some r ↦ on (j r) s | none ↦ choosing solver job o a b j s (outcome s.forced) ])
  unfolding choosing
  onto-choice (some r) o a b s j h = (h r, extends-none)
  onto-choice none o a b s j h = onto-side (solver.narrow (holding (outcome s.forced) o) a b s.windows) o a b s (outcome s.forced) (j (outcome s.forced)) (h _)

  onto-test : (l : ℕ) (s : State) (o : Cmp) (a b : Value) (j : Bool → Machine Value) → ((r : Bool) → P (j r))
      → Onto P s.starts (elim l as (λ l. Turn) [ zero ↦ still (ended cut s) | suc l ↦ counted s (comparing solver job o a b j (stepped l s)) ]).went
  unfolding comparing
  onto-test zero s o a b j h = extends-none
  onto-test (suc l) s o a b j h = onto-choice (solver.decide o a b s.windows) o a b (stepped l s) j h

  onto-turn : (d : Doing Value) (s : State) → After P d → Onto P s.starts (turning solver job d s).went
  unfolding turning
  onto-turn (Doing.silent m) s h = (h, extends-none)
  onto-turn (Doing.step m) s h = onto-step s.steps s m h
  onto-turn (Doing.free x j) s h = onto-free s.steps s.frees s x j h
  onto-turn (Doing.test o a b j) s h = onto-test s.steps s o a b j h
  onto-turn (Doing.returned v) s h = extends-none
  onto-turn Doing.failed s h = extends-none
  onto-turn Doing.cut s h = extends-none

-- ---- what each turn keeps

module _ (c : Code) (P : Machine Value → Type 0) (keeps : (m : Machine Value) → P m → After P (advance known work c m)) where
  turn-keeps : (solver : Solver) (job : Window) (m m₂ : Machine Value) (s s₂ : State) → P m → (turn solver job c m s).went ≡ on m₂ s₂ → P m₂
  unfolding turn
  turn-keeps solver job m m₂ s s₂ h e = (subst (Onto P s.starts) e (onto-turn P solver job (advance known work c m) s (keeps m h))).0

  passes-keeps : {solver : Solver} {job : Window} {m m₂ : Machine Value} {s s₂ : State} → Passes solver job c m s m₂ s₂ → P m → P m₂
  passes-keeps here h = h
  passes-keeps {solver} {job} (turned {m} {m₂} {s = s} {s₂} e p) h = passes-keeps p (turn-keeps solver job m m₂ s s₂ h e)

  -- holds wherever a path comes, if it holds at the start
  comes-keeps : P (start known work c) → {solver : Solver} {job : Window} {most : ℕ} {m : Machine Value} {s : State} → Comes solver job c most m s → P m
  comes-keeps h k = passes-keeps (k.again []) h

-- ---- more cells

pub stores-more : (n k : ℕ) → n ≤ k → (a : Act) → Stores n a → Stores k a
stores-more n k l (Act.operate o m) h = tt
stores-more n k l (Act.compare o m) h = tt
stores-more n k l (Act.call g m) h = λ i a b. let q = h i a b in omega arith
stores-more n k l (Act.constant o) h = tt
stores-more n k l (Act.jump o m) h = tt
stores-more n k l (Act.skip m) h = tt
stores-more n k l (Act.again m) h = tt
stores-more n k l Act.begin h = tt
stores-more n k l (Act.ask a) h = omega arith
stores-more n k l (Act.own a) h = omega arith
stores-more n k l (Act.store a) h = omega arith
stores-more n k l Act.return h = tt
stores-more n k l Act.fail h = tt

pub fills-more : (n k : ℕ) → n ≤ k → (x : Entry) → Fills n x → Fills k x
fills-more n k l (leaf x) h = tt
fills-more n k l (argument d) h = tt
fills-more n k l (act a) h = stores-more n k l a h

-- ---- starting pairs

anything : (d : Doing Value) → After (λ m. Unit {0}) d
anything (Doing.silent m) = tt
anything (Doing.step m) = tt
anything (Doing.free x k) = λ v. tt
anything (Doing.test o a b k) = λ r. tt
anything (Doing.returned v) = tt
anything Doing.failed = tt
anything Doing.cut = tt

-- a turn adds to them, and changes none
module _ (solver : Solver) (job : Window) (c : Code) (m : Machine Value) (s : State) where
  starts-go : Onto (λ m. Unit {0}) s.starts (turn solver job c m s).went
  unfolding turn
  starts-go = onto-turn (λ m. Unit {0}) solver job (advance known work c m) s (anything (advance known work c m))

  pub starts-on : (m₂ : Machine Value) (s₂ : State) → (turn solver job c m s).went ≡ on m₂ s₂ → Extends s.starts s₂.starts
  starts-on m₂ s₂ e = (subst (Onto (λ m. Unit {0}) s.starts) e starts-go).1

  pub starts-end : (x : End) (s₂ : State) → (turn solver job c m s).went ≡ ended x s₂ → Extends s.starts s₂.starts
  starts-end x s₂ e = subst (Onto (λ m. Unit {0}) s.starts) e starts-go

-- ---- frames

frame-rest : (d : Value) (n : ℕ) (vs : List Value) (i : ℕ) → length vs ≤ i → get_or (frame d n vs) i d ≡ d
unfolding frame
frame-rest d zero vs i l = refl
frame-rest d (suc n) [] zero l = refl
frame-rest d (suc n) [] (suc i) l = frame-rest d n [] i (omega arith)
frame-rest d (suc n) (v ∷ vs) zero l = absurd (omega arith)
frame-rest d (suc n) (v ∷ vs) (suc i) l = frame-rest d n vs i (omega arith)

frame-out : (d : Value) (n : ℕ) (vs : List Value) (i : ℕ) → n ≤ i → get_or (frame d n vs) i d ≡ d
unfolding frame
frame-out d zero vs i l = refl
frame-out d (suc n) vs zero l = absurd (omega arith)
frame-out d (suc n) [] (suc i) l = frame-out d n [] i (omega arith)
frame-out d (suc n) (v ∷ vs) (suc i) l = frame-out d n vs i (omega arith)

-- a frame whose arguments go into the first n cells
frame-blank : (n : ℕ) (vs : List Value) → ((i : ℕ) → i < length vs → i < 16 → i < n) → Blank n (frame (known (pos 0)) 16 vs)
frame-blank n vs h = record { rest = λ i l. by i l (dec_lt i 16) (dec_lt i (length vs)) }
  where
    by : (i : ℕ) → n ≤ i → Dec (i < 16) → Dec (i < length vs) → get_or (frame (known (pos 0)) 16 vs) i (known (pos 0)) ≡ known (pos 0)
    by i l (no a) b = frame-out (known (pos 0)) 16 vs i (omega arith)
    by i l (yes a) (yes b) = let g = h i b a in absurd (omega arith)
    by i l (yes a) (no b) = frame-rest (known (pos 0)) 16 vs i (omega arith)

blank-store : (n : ℕ) (f : List Value) (a : Address) (v : Value) → place_of a < n → Blank n f → Blank n (store f a v)
blank-store n f (slot a) v l h = record { rest = λ i g. get_or-set_other f a i v (known (pos 0)) (λ e. omega arith) ∙ h.rest i g }

module _ (c : Code) (n : ℕ) (uses : Uses c n) where
  gathered : (f ts : List Value) (k j : ℕ) (vs : List Value) → length (gather known work c f ts k j vs).values ≡ k + length vs
  unfolding gather
  gathered f ts zero j vs = omega arith
  gathered f ts (suc k) j vs = let r = taken known work c f ts (before j) in gathered f r.rest k (before j - extent (entry_at c (before j))) (r.value ∷ vs) ∙ omega arith

  spares-entering : (d i g : ℕ) (a : Gathered Value) (b : Bool) (f : List Value) (cs : List (Caller Value)) → ((i : ℕ) → i < length a.values → i < 16 → i < n) → Blank n f → Blanks n cs → After (Spares n) (entering known work c d g a i b f cs)
  spares-entering zero i g a b f cs l h k = tt
  spares-entering (suc d) i g a b f cs l h k = record { frame = frame-blank n a.values l; callers = (h, k) }

  spares-leaving : (d : ℕ) (cs : List (Caller Value)) (v : Value) (b : Bool) → Blanks n cs → After (Spares n) (leaving known work c cs v b d)
  spares-leaving d [] v b k = tt
  spares-leaving d (r ∷ cs) v b k = record { frame = k.0; callers = k.1 }

  module _ (i : ℕ) (b : Bool) (ts f : List Value) (cs : List (Caller Value)) (d : ℕ) (h : Blank n f) (k : Blanks n cs) where
    spares-act : (a : Act) → Stores n a → After (Spares n) (acting known work c i b ts f cs d a)
    spares-act (Act.operate o m) l = record { frame = h; callers = k }
    spares-act (Act.compare o m) l = λ r. record { frame = h; callers = k }
    spares-act (Act.call g m) l = spares-entering d i g (gather known work c f ts m i []) b f cs (λ j q. l j (omega (arith, gathered f ts m i []))) h k
    spares-act (Act.constant o) l = record { frame = h; callers = k }
    spares-act (Act.jump o m) l = record { frame = h; callers = k }
    spares-act (Act.skip m) l = record { frame = h; callers = k }
    spares-act (Act.again m) l = record { frame = h; callers = k }
    spares-act Act.begin l = record { frame = h; callers = k }
    spares-act (Act.ask a) l = λ v. record { frame = blank-store n f a v l h; callers = k }
    spares-act (Act.own a) l = λ v. record { frame = blank-store n f a v l h; callers = k }
    spares-act (Act.store a) l = record { frame = blank-store n f a _ l h; callers = k }
    spares-act Act.return l = spares-leaving d cs _ b k
    spares-act Act.fail l = tt

    spares-entry : (x : Entry) → Fills n x → After (Spares n) (working known work c i b ts f cs d x)
    spares-entry (leaf l) g = record { frame = h; callers = k }
    spares-entry (argument m) g = record { frame = h; callers = k }
    spares-entry (act a) g = spares-act a g

  spares-advance : (m : Machine Value) → Spares n m → After (Spares n) (advance known work c m)
  unfolding advance
  spares-advance m s = spares-entry m.pc m.flag m.temps m.frame m.callers m.left s.frame s.callers (entry_at c m.pc) (uses.each m.pc)

  -- wherever a path comes, no other cell was written
  pub spares-comes : {solver : Solver} {job : Window} {most : ℕ} {m : Machine Value} {s : State} → Comes solver job c most m s → Spares n m
  spares-comes = comes-keeps c (Spares n) spares-advance (record { frame = frame-blank n [] (λ i l. absurd (omega arith)); callers = tt })

-- ---- the frame of the start

abbrev StartIn : Machine Value → Type 0
StartIn m = BlankStart m.pc m.frame m.callers

module _ (c : Code) (calls-main : CallsMain c) where
  start-entering : (d i g : ℕ) (a : Gathered Value) (b : Bool) (f : List Value) (cs : List (Caller Value)) → BlankStart (suc i) f cs → After StartIn (entering known work c d g a i b f cs)
  start-entering zero i g a b f cs h = tt
  start-entering (suc d) i g a b f cs h = h

  module _ (b : Bool) (ts f : List Value) (d : ℕ) where
    -- the start itself calls main, and returns
    start-runs : (i : ℕ) → i < 2 → Blank 0 f → After StartIn (working known work c i b ts f [] d (entry_at c i))
    start-runs zero l h = subst (λ (x : Entry). After StartIn (working known work c 0 b ts f [] d x)) (sym calls-main.calls)
        (start-entering d 0 calls-main.main (gather known work c f ts calls-main.arguments 0 []) b f [] (omega arith, h))
    start-runs (suc zero) l h = subst (λ (x : Entry). After StartIn (working known work c 1 b ts f [] d x)) (sym calls-main.returns) tt
    start-runs (suc (suc i)) l h = absurd (omega arith)

    -- above it nothing that is done reaches its frame
    module _ (i : ℕ) (r : Caller Value) (cs : List (Caller Value)) (h : BlankStart r.pc r.frame cs) where
      start-act : (a : Act) → After StartIn (acting known work c i b ts f (r ∷ cs) d a)
      start-act (Act.operate o m) = h
      start-act (Act.compare o m) = λ q. h
      start-act (Act.call g m) = start-entering d i g (gather known work c f ts m i []) b f (r ∷ cs) h
      start-act (Act.constant o) = h
      start-act (Act.jump o m) = h
      start-act (Act.skip m) = h
      start-act (Act.again m) = h
      start-act Act.begin = h
      start-act (Act.ask a) = λ v. h
      start-act (Act.own a) = λ v. h
      start-act (Act.store a) = h
      start-act Act.return = h
      start-act Act.fail = tt

      start-waits : (x : Entry) → After StartIn (working known work c i b ts f (r ∷ cs) d x)
      start-waits (leaf l) = h
      start-waits (argument m) = h
      start-waits (act a) = start-act a

    start-works : (i : ℕ) (cs : List (Caller Value)) → BlankStart i f cs → After StartIn (working known work c i b ts f cs d (entry_at c i))
    start-works i [] h = start-runs i h.0 h.1
    start-works i (r ∷ cs) h = start-waits i r cs h (entry_at c i)

  start-advance : (m : Machine Value) → StartIn m → After StartIn (advance known work c m)
  unfolding advance
  start-advance m h = start-works m.flag m.temps m.frame m.left m.pc m.callers h

  -- wherever a path comes, nothing was stored there
  pub start-comes : {solver : Solver} {job : Window} {most : ℕ} {m : Machine Value} {s : State} → Comes solver job c most m s → BlankStart m.pc m.frame m.callers
  start-comes = comes-keeps c StartIn start-advance (omega arith, frame-blank 0 [] (λ i l. absurd (omega arith)))
