-- A search can come back to each point of a path, and go on from there: nothing that is worked on the way is a move.
use Prim.Native.Nat.{ℕ, zero, suc, ◌<◌}
use mathlib.Core.Path.{◌≡◌, refl, sym, ap, ◌∙◌, subst}
use mathlib.Core.Bool.{Bool, false}
use mathlib.Core.List.{List, [], ◌∷◌, ◌++◌, append_assoc}
use native.Mathlib.Omega.{arith}
use Rattle.semantics.specs.Program.{Window}
use Rattle.semantics.specs.Search.{Value, known, work, Solver, Test}
use Rattle.simulation.specs.Code.{Code}
use Rattle.simulation.specs.Machine.{Machine, Doing, advance, start}
use Rattle.simulation.specs.Path.{State, state, begins, outcome, later, Turn, Went, on, ended, turning, turn}
use Rattle.simulation.specs.Lister.{Tally, Next, go, over, then, charged, finish, Start, back, path}
use Rattle.simulation.specs.Back.{Passes, here, turned}
use Rattle.simulation.specs.Resume.{forcing, Comes}
use Rattle.simulation.proofs.Back.{Either, one, two, Some, Plain, Chosen, Shape, shape}
use Rattle.simulation.specs.Measure.{turns_left}
use Rattle.simulation.proofs.Drive.{Kept, Nears, Nearer, turn-nears, kept-start}

-- ---- a turn of a path, and what follows it

module _ (solver : Solver) (job : Window) (c : Code) (most : ℕ) where
  abbrev pub after : ℕ → Went → Tally → Next Start
  after k (on m s) u = path solver job c most k m s u
  after k (ended e s) u = then (finish e s u) (back s.chosen)

  pub path-turn : (k : ℕ) (m : Machine Value) (s : State) (t : Tally) (x : Turn) → turn solver job c m s ≡ x → path solver job c most (suc k) m s t ≡ then (charged x.move t) (after k x.went)
  unfolding path
  path-turn k m s t x e =
      by (turn solver job c m s) ∙ ap (λ (x : Turn). then (charged x.move t) (after k x.went)) e
    where
      went : (w : Went) (u : Tally) → elim w as (λ w. Next Start) [ on m₂ s₂ ↦ path solver job c most k m₂ s₂ u | ended e s₂ ↦ then (finish e s₂ u) (back s₂.chosen) ] ≡ after k w u
      went (on m₂ s₂) u = refl
      went (ended e s₂) u = refl

      by : (x : Turn) → then (charged x.move t) (λ u. elim x.went as (λ w. Next Start) [ on m₂ s₂ ↦ path solver job c most k m₂ s₂ u | ended e s₂ ↦ then (finish e s₂ u) (back s₂.chosen) ])
          ≡ then (charged x.move t) (after k x.went)
      by x = also (charged x.move t) x.went
        where
          also : (z : Next Tally) (w : Went) → then z (λ u. elim w as (λ w. Next Start) [ on m₂ s₂ ↦ path solver job c most k m₂ s₂ u | ended e s₂ ↦ then (finish e s₂ u) (back s₂.chosen) ])
              ≡ then z (after k w)
          also (go u) w = went w u
          also (over r) w = refl

module _ (solver : Solver) (job : Window) (c : Code) where
  -- ---- a path comes to each of its points again

  pub passes_then : {m m₂ m₃ : Machine Value} {s s₂ s₃ : State} → Passes solver job c m s m₂ s₂ → (turn solver job c m₂ s₂).went ≡ on m₃ s₃ → Passes solver job c m s m₃ s₃
  passes_then here e = turned e here
  passes_then (turned f p) e = turned f (passes_then p e)

  module _ (most : ℕ) where
    pub comes-start : (q : List Bool) → Comes solver job c most (start known work c) (begins most q)
    comes-start q = record { again = λ r. here }

    -- after a turn too
    pub comes-on : (m m₂ : Machine Value) (s s₂ : State) → Comes solver job c most m s → (turn solver job c m s).went ≡ on m₂ s₂ → Comes solver job c most m₂ s₂
    comes-on m m₂ s s₂ k e = by (subst (Shape solver job c m s) e (shape solver job c m s))
      where
        o : Bool
        o = outcome s.forced

        by : Either (Plain solver job c m s m₂ s₂) (Chosen solver job c m s m₂ s₂) → Comes solver job c most m₂ s₂
        by (one p) = record { again = λ r. passes_then (subst (λ (h : List Bool). Passes solver job c (start known work c) (begins most (h ++ r)) m (forcing r s)) (sym p.chosen) (k.again r)) (p.again r) }
        by (two p) = record {
          again = λ r. passes_then (subst (λ (h : List Bool). Passes solver job c (start known work c) (begins most h) m (forcing (o ∷ r) s))
              (sym (ap (λ (h : List Bool). h ++ r) p.chosen ∙ append_assoc s.chosen (o ∷ []) r)) (k.again (o ∷ r))) (p.again r);
        }

  -- ---- with an outcome still forced, no turn is a move

  still-doing : (d : Doing Value) (l f : ℕ) (ws ps : List Window) (ts : List Test) (p h : List Bool) → Some p → (turning solver job d (state l f ws ps ts p h)).move ≡ false
  unfolding turning
  still-doing d l f ws ps ts [] h g = absurd g
  still-doing (Doing.silent m) l f ws ps ts (o ∷ p) h g = refl
  still-doing (Doing.step m) zero f ws ps ts (o ∷ p) h g = refl
  still-doing (Doing.step m) (suc l) f ws ps ts (o ∷ p) h g = refl
  still-doing (Doing.free x k) zero f ws ps ts (o ∷ p) h g = refl
  still-doing (Doing.free x k) (suc l) zero ws ps ts (o ∷ p) h g = refl
  still-doing (Doing.free x k) (suc l) (suc f) ws ps ts (o ∷ p) h g = refl
  still-doing (Doing.test x a b k) zero f ws ps ts (o ∷ p) h g = refl
  still-doing (Doing.test x a b k) (suc l) f ws ps ts (o ∷ p) h g = refl
  still-doing (Doing.returned v) l f ws ps ts (o ∷ p) h g = refl
  still-doing Doing.failed l f ws ps ts (o ∷ p) h g = refl
  still-doing Doing.cut l f ws ps ts (o ∷ p) h g = refl

  pub turn-still : (m : Machine Value) (s : State) → Some s.forced → (turn solver job c m s).move ≡ false
  unfolding turn
  turn-still m s g = still-doing (advance known work c m) s.steps s.frees s.windows s.starts s.tests s.forced s.chosen g

  some-later : (f : List Bool) → Some (later f) → Some f
  some-later [] g = g
  some-later (o ∷ f) g = tt

  -- an outcome that is still forced was so before
  some_turn : (m m₂ : Machine Value) (s s₂ : State) → (turn solver job c m s).went ≡ on m₂ s₂ → Some s₂.forced → Some s.forced
  some_turn m m₂ s s₂ e g = by (subst (Shape solver job c m s) e (shape solver job c m s))
    where
      by : Either (Plain solver job c m s m₂ s₂) (Chosen solver job c m s m₂ s₂) → Some s.forced
      by (one p) = subst Some p.forced g
      by (two p) = some-later s.forced (subst Some p.forced g)

  some-passes : {m m₂ : Machine Value} {s s₂ : State} → Passes solver job c m s m₂ s₂ → Some s₂.forced → Some s.forced
  some-passes here g = g
  some-passes (turned {m} {m₂} {s = s} {s₂} e p) g = some_turn m m₂ s s₂ e (some-passes p g)

  -- ---- the path from a point to another is not counted, if an outcome is still forced there

  module _ (most : ℕ) where
    -- what `path` says is x is what it says from here on
    pub record Onto (x : Next Start) (m : Machine Value) (s : State) (t : Tally) : Type 0 where
      pub turns : ℕ
      pub enough : turns_left c m s < turns
      pub is : x ≡ path solver job c most turns m s t

    pub path-still : {m m₂ : Machine Value} {s s₂ : State} → Passes solver job c m s m₂ s₂ → Some s₂.forced → (b : ℕ) → Kept c b m s → (t : Tally) (n : ℕ) → turns_left c m s < n
        → Onto (path solver job c most n m s t) m₂ s₂ t
    path-still here g b k t n l = record { turns = n; enough = l; is = refl }
    path-still (turned e p) g b k t zero l = absurd (omega arith)
    path-still (turned {m} {m₂} {m₃} {s} {s₂} {s₃} e p) g b k t (suc n) l =
        let near : Nearer c b (turns_left c m s) m₂ s₂ = subst (Nears c b (turns_left c m s)) e (turn-nears c solver job b m s k) in
        let u = path-still p g b near.kept t n (omega (arith, near.nearer)) in
        record {
          turns = u.turns;
          enough = u.enough;
          is = path-turn solver job c most n m s t (record { move = false; went = on m₂ s₂ })
              (λ i. record { move = turn-still m s (some_turn m m₂ s s₂ e (some-passes p g)) i; went = e i }) ∙ u.is;
        }

    -- So what a path with these outcomes forced gives from the start of main, it gives from this point on.
    pub resumed : (m : Machine Value) (s : State) (q : List Bool) → Comes solver job c most m s → Some q → (t : Tally) (n : ℕ) → turns_left c (start known work c) (begins most (s.chosen ++ q)) < n
        → Onto (path solver job c most n (start known work c) (begins most (s.chosen ++ q)) t) m (forcing q s) t
    resumed m s q k g t n l = path-still (k.again q) g most (kept-start c most (s.chosen ++ q)) t n l
