-- One path, as the machine goes it on a program's code, is that path of the search, and its turns come to an end.
use Prim.Native.Nat.{ℕ, zero, suc, ◌+◌, ◌*◌, ◌≤◌, ◌<◌}
use mathlib.Core.Path.{◌≡◌, refl, sym, ap, ◌∙◌}
use mathlib.Core.Bool.{Bool, true, false}
use mathlib.Core.Option.{Option, none, some}
use mathlib.Core.List.{List, [], ◌∷◌, ◌++◌, append_assoc, append-nil}
use native.Mathlib.Omega.{arith}
use native.Mathlib.Nat.{suc-mul, mul-le-mul_right, le_refl, le_of_suc-le-suc, lt_of_lt_of_le}
use lib.ListN.{length}
use Rattle.semantics.specs.Int.{Cmp}
use Rattle.semantics.specs.Program.{Window, Program}
use Rattle.semantics.specs.Does.{Does, does, within, Sure}
use Rattle.semantics.specs.Run.{pair_of}
use Rattle.semantics.specs.Search as search
use Rattle.semantics.specs.Search.{Value, known, unknown, work, Solver, Test, settings, Move, plain, tried, probed, as_test, paths}
use Rattle.semantics.proofs.Own.{Pairs}
use Rattle.simulation.specs.Code.{Code, code_of}
use Rattle.simulation.specs.Machine.{Machine, Doing, advance, start}
use Rattle.simulation.specs.Path.{holding, outcome, later, State, state, begins, End, returned, failed, cut, Went, on, ended, Turn, fresh, counted, still, siding, choosing, stepped, reached, comparing, turning, turn}
use Rattle.simulation.specs.Measure.{silents, most_silents, turns_left, most_turns}
use Rattle.simulation.proofs.Replay.{Has}
use Rattle.simulation.proofs.Route.{Route, stepping, taking, ending, sided, route, of, route-of}
use Rattle.simulation.specs.Placed.{Placed}
use Rattle.simulation.proofs.Placed.{Upward, placed}
use Rattle.simulation.proofs.Simulate as simulate
use Rattle.simulation.proofs.Simulate.{Runs, Makes, does-runs}
use Rattle.simulation.proofs.Bounds.{Sound, Sounds, sound-start, sound-advance, Falls, silent-falls}

-- what is tried at a path's end
unfoldable pub last : End → State → List Move
last (returned v) s = tried v s.tests (settings s.windows)
last failed s = []
last cut s = probed s.tests (settings s.windows)

-- what is left of a route, behind the choices h
abbrev pub behind : List Bool → Route → Route
behind h r = record { moves = r.moves; choices = h ++ r.choices }

-- a turn that is a move, and then r
abbrev pub moving : Bool → Route → Route
moving true r = record { moves = plain search.stepped ∷ r.moves; choices = r.choices }
moving false r = r

route-eq : {ms : List Move} {x y : List Bool} → x ≡ y → ◌≡◌ {A = Route} (record { moves = ms; choices = x }) (record { moves = ms; choices = y })
route-eq {ms} p = ap (λ x. record { moves = ms; choices = x }) p

-- a step is a move where no forced outcome is left
moving-fresh : (p h : List Bool) (r : Route) → moving (fresh p) (behind h r) ≡ behind h (stepping p r)
moving-fresh [] h r = refl
moving-fresh (o ∷ p) h r = refl

module _ (solver : Solver) (job : Window) (c : Code) where
  -- what is left of the route from a node on, with the choices so far
  abbrev pub at : Does Value → State → Route
  at t s = behind s.chosen (route solver job t s.steps s.frees s.windows s.tests s.forced)

  -- the machine goes the route r from here on
  pub record Goes (r : Route) (m : Machine Value) (s : State) : Type 0 where
    pub tree : Does Value
    pub sure : Sure tree
    pub does : Runs known work c s.steps m tree
    pub same : at tree s ≡ r

  abbrev pub GoesOn : Route → Went → Type 0
  GoesOn r (on m s) = Goes r m s
  GoesOn r (ended e s) = record { moves = last e s; choices = s.chosen } ≡ r

  -- a turn keeps to the route r
  pub record Keeps (r : Route) (x : Turn) : Type 0 where
    pub rest : Route
    pub first : moving x.move rest ≡ r
    pub goes : GoesOn rest x.went

  module _ (r : Route) where
    keeps-still : (w : Went) → GoesOn r w → Keeps r (still w)
    keeps-still w g = record { rest = r; first = refl; goes = g }

    -- after a step, in state s
    keeps-counted : (s : State) (w : Went) (q : Route) → GoesOn (behind s.chosen q) w → behind s.chosen (stepping s.forced q) ≡ r → Keeps r (counted s w)
    keeps-counted s w q g e = record { rest = behind s.chosen q; first = moving-fresh s.forced s.chosen q ∙ e; goes = g }

    keeps_cut : (s : State) → behind s.chosen (ending (probed s.tests (settings s.windows))) ≡ r → Keeps r (still (ended cut s))
    unfolding last
    keeps_cut s e = keeps-still (ended cut s) (route-eq (sym (append-nil s.chosen)) ∙ e)

    keeps-step : (l f : ℕ) (ws ps : List Window) (ts : List Test) (p h : List Bool) (m : Machine Value) (t : Does Value) → Sure t → ((k : ℕ) → k < l → Runs known work c k m t)
        → at (Does.step t) (state l f ws ps ts p h) ≡ r → Keeps r (turning solver job (Doing.step m) (state l f ws ps ts p h))
    unfolding turning route
    keeps-step zero f ws ps ts p h m t u d e = keeps_cut (state zero f ws ps ts p h) e
    keeps-step (suc l) f ws ps ts p h m t u d e = keeps-counted (state (suc l) f ws ps ts p h) (on m (state l f ws ps ts p h)) _ (record { tree = t; sure = u; does = d l (le_refl _); same = refl }) e

    keeps-free : (l f : ℕ) (ws ps : List Window) (ts : List Test) (p h : List Bool) (x : Option Window) (j : Value → Machine Value) (k : Value → Does Value)
        → ((v : Value) → Sure (k v)) → ((i : ℕ) → i < l → (v : Value) → Runs known work c i (j v) (k v))
        → at (Does.free x k) (state l f ws ps ts p h) ≡ r → Keeps r (turning solver job (Doing.free x j) (state l f ws ps ts p h))
    unfolding turning route
    keeps-free zero f ws ps ts p h x j k u d e = keeps_cut (state zero f ws ps ts p h) e
    keeps-free (suc l) zero ws ps ts p h x j k u d e = keeps_cut (state (suc l) zero ws ps ts p h) e
    keeps-free (suc l) (suc f) ws ps ts p h x j k u d e =
        keeps-counted (state (suc l) (suc f) ws ps ts p h) (on (j (unknown (length ws))) (state l f (ws ++ pair_of job x ∷ []) (ps ++ pair_of job x ∷ []) ts p h)) _ (record { tree = k (unknown (length ws)); sure = u _; does = d l (le_refl _) _; same = refl }) e

  -- a comparison, after its step
  goes-side : (x : Option (List Window)) (o : Bool) (q : Cmp) (a b : Value) (l f : ℕ) (ws ps : List Window) (ts : List Test) (p h : List Bool) (m : Machine Value) (t : Does Value) → Sure t
      → Runs known work c l m t
      → GoesOn (behind h (taking o (sided x (λ us. route solver job t l f us (as_test (holding o q) a b ∷ ts) (later p))))) (siding q a b m (state l f ws ps ts p h) o x)
  unfolding last
  goes-side none o q a b l f ws ps ts p h m t u d = refl
  goes-side (some us) o q a b l f ws ps ts p h m t u d = record { tree = t; sure = u; does = d; same = route-eq (append_assoc h (o ∷ []) _) }

  goes-choice : (x : Option Bool) (q : Cmp) (a b : Value) (l f : ℕ) (ws ps : List Window) (ts : List Test) (p h : List Bool) (j : Bool → Machine Value) (k : Bool → Does Value)
      → ((o : Bool) → Sure (k o)) → ((o : Bool) → Runs known work c l (j o) (k o))
      → GoesOn (behind h (elim x as (λ x. Route) [
        | some o ↦ route solver job (k o) l f ws ts p
        | none ↦ taking (outcome p) (sided (solver.narrow (holding (outcome p) q) a b ws) (λ us. route solver job (k (outcome p)) l f us (as_test (holding (outcome p) q) a b ∷ ts) (later p)))
      ])) (elim x as (λ x. Went) [ some o ↦ on (j o) (state l f ws ps ts p h) | none ↦ choosing solver job q a b j (state l f ws ps ts p h) (outcome p) ])
  unfolding choosing
  goes-choice (some o) q a b l f ws ps ts p h j k u d = record { tree = k o; sure = u o; does = d o; same = refl }
  goes-choice none q a b l f ws ps ts p h j k u d = goes-side (solver.narrow (holding (outcome p) q) a b ws) (outcome p) q a b l f ws ps ts p h (j (outcome p)) (k (outcome p)) (u (outcome p)) (d (outcome p))

  module _ (r : Route) where
    keeps-test : (l f : ℕ) (ws ps : List Window) (ts : List Test) (p h : List Bool) (o : Cmp) (a b : Value) (j : Bool → Machine Value) (k : Bool → Does Value) → ((o : Bool) → Sure (k o))
        → ((i : ℕ) → i < l → (q : Bool) → Runs known work c i (j q) (k q))
        → at (Does.step (Does.test o a b k)) (state l f ws ps ts p h) ≡ r → Keeps r (turning solver job (Doing.test o a b j) (state l f ws ps ts p h))
    unfolding turning comparing route
    keeps-test zero f ws ps ts p h o a b j k u d e = keeps_cut r (state zero f ws ps ts p h) e
    keeps-test (suc l) f ws ps ts p h o a b j k u d e =
        keeps-counted r (state (suc l) f ws ps ts p h) (comparing solver job o a b j (state l f ws ps ts p h)) (route solver job (Does.test o a b k) l f ws ts p) (goes-choice (solver.decide o a b ws) o a b l f ws ps ts p h j k u (d l (le_refl _))) e

    keeps-makes : (s : State) {d : Doing Value} {t : Does Value} → Makes known work c s.steps d t → Sure t → at t s ≡ r → Keeps r (turning solver job d s)
    unfolding turning route last Sure
    keeps-makes s (simulate.silent {m} {t} h) u e = keeps-still r (on m s) (record { tree = t; sure = u; does = h; same = e })
    keeps-makes s (simulate.step {m} {t} h) u e = keeps-step r s.steps s.frees s.windows s.starts s.tests s.forced s.chosen m t u h e
    keeps-makes s (simulate.free {x} {j} {k} h) u e = keeps-free r s.steps s.frees s.windows s.starts s.tests s.forced s.chosen x j k u h e
    keeps-makes s (simulate.test {o} {a} {b} {j} {k} h) u e = keeps-test s.steps s.frees s.windows s.starts s.tests s.forced s.chosen o a b j k u h e
    keeps-makes s (simulate.returned {v}) u e = keeps-still r (ended (returned v) s) (route-eq (sym (append-nil s.chosen)) ∙ e)
    keeps-makes s simulate.failed u e = keeps-still r (ended failed s) (route-eq (sym (append-nil s.chosen)) ∙ e)
    keeps-makes s simulate.cut u e = keeps_cut r s e
    keeps-makes s simulate.stuck u e = absurd u

    -- a turn keeps to the route
    pub turn-keeps : (m : Machine Value) (s : State) → Goes r m s → Keeps r (turn solver job c m s)
    unfolding turn
    turn-keeps m s h = run h.does h.sure h.same
      where
        run : {t : Does Value} → Runs known work c s.steps m t → Sure t → at t s ≡ r → Keeps r (turning solver job (advance known work c m) s)
        run (simulate.runs d) u e = keeps-makes s d u e

  -- on a program's code, a path goes its route from the start on
  pub goes-start : (most : ℕ) (p : Program) → Placed c p → Sure (does known work most p) → (forced : List Bool)
      → Goes (route solver job (does known work most p) most 8 [] [] forced) (start known work c) (begins most forced)
  goes-start most p h u forced = record { tree = does known work most p; sure = u; does = does-runs known work c most p h most (le_refl _); same = refl }

-- ---- the turns come to an end

module _ (c : Code) where
  -- the steps made and the steps left are `most`
  pub record Kept (most : ℕ) (m : Machine Value) (s : State) : Type 0 where
    pub made : ℕ
    pub limit : made + s.steps ≡ most
    pub sound : Sound made m

  pub record Nearer (most n : ℕ) (m : Machine Value) (s : State) : Type 0 where
    pub kept : Kept most m s
    pub nearer : turns_left c m s < n

  abbrev pub Nears : ℕ → ℕ → Went → Type 0
  Nears most n (on m s) = Nearer most n m s
  Nears most n (ended e s) = Unit {0}

  silents-le : {k : ℕ} {m : Machine Value} → Sound k m → silents c m ≤ most_silents c
  silents-le {k} {m} s = omega (arith, mul-le-mul_right {m = length m.callers} {n = 32} (suc (length c.entries)) (omega arith))

  module _ (solver : Solver) (job : Window) (most q : ℕ) where
    -- after a step
    near : {k : ℕ} (l : ℕ) (m : Machine Value) (s : State) → k + suc l ≡ most → s.steps ≡ l → Sound (suc k) m → Nearer most (suc l * suc (most_silents c) + q) m s
    near {k} l m s e f h = record { kept = record { made = suc k; limit = omega arith; sound = h }; nearer = rw f (omega (arith, silents-le h, suc-mul l (suc (most_silents c)))) }

    near_step : (k l : ℕ) (s : State) (m : Machine Value) → k + l ≡ most → Sound (suc k) m
        → Nears most (l * suc (most_silents c) + q) (elim l as (λ l. Turn) [ zero ↦ still (ended cut s) | suc l ↦ counted s (on m (stepped l s)) ]).went
    near_step k zero s m e h = tt
    near_step k (suc l) s m e h = near l m _ e refl h

    near-free : (k l f : ℕ) (s : State) (x : Option Window) (j : Value → Machine Value) → k + l ≡ most → ((v : Value) → Sound (suc k) (j v))
        → Nears most (l * suc (most_silents c) + q) (elim l as (λ l. Turn) [
          | zero ↦ still (ended cut s)
          | suc l ↦ elim f as (λ f. Turn) [ zero ↦ still (ended cut s) | suc f ↦ counted s (on (j (unknown (length s.windows))) (reached (pair_of job x) l f s)) ]
        ]).went
    near-free k zero f s x j e h = tt
    near-free k (suc l) zero s x j e h = tt
    near-free k (suc l) (suc f) s x j e h = near l _ _ e refl (h _)

    near-side : (k l : ℕ) (x : Option (List Window)) (o : Cmp) (a b : Value) (s : State) (r : Bool) (m : Machine Value) → k + suc l ≡ most → s.steps ≡ l → Sound (suc k) m
        → Nears most (suc l * suc (most_silents c) + q) (siding o a b m s r x)
    near-side k l none o a b s r m e f h = tt
    near-side k l (some us) o a b s r m e f h = near l m _ e f h

    near-choice : (k l : ℕ) (x : Option Bool) (o : Cmp) (a b : Value) (s : State) (j : Bool → Machine Value) → k + suc l ≡ most → s.steps ≡ l → ((q : Bool) → Sound (suc k) (j q))
        → Nears most (suc l * suc (most_silents c) + q) (elim x as (λ x. Went) [ some r ↦ on (j r) s | none ↦ choosing solver job o a b j s (outcome s.forced) ])
    unfolding choosing
    near-choice k l (some r) o a b s j e f h = near l (j r) s e f (h r)
    near-choice k l none o a b s j e f h = near-side k l (solver.narrow (holding (outcome s.forced) o) a b s.windows) o a b s (outcome s.forced) (j (outcome s.forced)) e f (h _)

    near-test : (k l : ℕ) (s : State) (o : Cmp) (a b : Value) (j : Bool → Machine Value) → k + l ≡ most → ((r : Bool) → Sound (suc k) (j r))
        → Nears most (l * suc (most_silents c) + q) (elim l as (λ l. Turn) [ zero ↦ still (ended cut s) | suc l ↦ counted s (comparing solver job o a b j (stepped l s)) ]).went
    unfolding comparing
    near-test k zero s o a b j e h = tt
    near-test k (suc l) s o a b j e h = near-choice k l (solver.decide o a b s.windows) o a b (stepped l s) j e refl h

    near-turn : (d : Doing Value) (s : State) (k : ℕ) → k + s.steps ≡ most → Sounds k d → Falls known work c q d → Nears most (s.steps * suc (most_silents c) + q) (turning solver job d s).went
    unfolding turning
    near-turn (Doing.silent m) s k e h f = record { kept = record { made = k; limit = e; sound = h }; nearer = omega arith }
    near-turn (Doing.step m) s k e h f = near_step k s.steps s m e h
    near-turn (Doing.free x j) s k e h f = near-free k s.steps s.frees s x j e h
    near-turn (Doing.test o a b j) s k e h f = near-test k s.steps s o a b j e h
    near-turn (Doing.returned v) s k e h f = tt
    near-turn Doing.failed s k e h f = tt
    near-turn Doing.cut s k e h f = tt

  -- a turn keeps the bounds, and the end is nearer
  pub turn-nears : (solver : Solver) (job : Window) (most : ℕ) (m : Machine Value) (s : State) → Kept most m s → Nears most (turns_left c m s) (turn solver job c m s).went
  unfolding turn
  turn-nears solver job most m s h = near-turn solver job most (silents c m) (advance known work c m) s h.made h.limit (sound-advance known work c h.made m h.sound) (silent-falls known work c m)

  pub kept-start : (most : ℕ) (forced : List Bool) → Kept most (start known work c) (begins most forced)
  kept-start most forced = record { made = 0; limit = omega arith; sound = sound-start known work c }

  pub turns-le : (most : ℕ) (m : Machine Value) (s : State) → Kept most m s → turns_left c m s < most_turns c most
  turns-le most m s h = omega (arith, silents-le h.sound, mul-le-mul_right {m = s.steps} {n = most} (suc (most_silents c)) (omega arith), suc-mul most (suc (most_silents c)), h.limit)

-- ---- the whole path

module _ (solver : Solver) (job : Window) (c : Code) where
  -- the route that the machine goes, in at most n turns
  unfoldable pub drive : ℕ → Machine Value → State → Route
  drive zero m s = ending []
  drive (suc n) m s = moving (turn solver job c m s).move (elim (turn solver job c m s).went [ on m₂ s₂ ↦ drive n m₂ s₂ | ended e s₂ ↦ record { moves = last e s₂; choices = s₂.chosen } ])

  drive-ok : (most n : ℕ) (r : Route) (m : Machine Value) (s : State) → Goes solver job c r m s → Kept c most m s → turns_left c m s < n → drive n m s ≡ r
  unfolding drive
  drive-ok most zero r m s h k l = absurd (omega arith)
  drive-ok most (suc n) r m s h k l =
      let x = turn-keeps solver job c r m s h in
      ap (moving (turn solver job c m s).move) (by (drive-ok most n) x.rest (turn solver job c m s).went x.goes (turn-nears c solver job most m s k)) ∙ x.first
    where
      by : ((r : Route) (m : Machine Value) (s : State) → Goes solver job c r m s → Kept c most m s → turns_left c m s < n → drive n m s ≡ r) → (r : Route) (w : Went) → GoesOn solver job c r w → Nears c most (turns_left c m s) w
          → elim w as (λ w. Route) [ on m₂ s₂ ↦ drive n m₂ s₂ | ended e s₂ ↦ record { moves = last e s₂; choices = s₂.chosen } ] ≡ r
      by g r (on m₂ s₂) a b = g r m₂ s₂ a b.kept (lt_of_lt_of_le b.nearer (le_of_suc-le-suc l))
      by g r (ended e s₂) a b = a

  driven-ok : (most : ℕ) (p : Program) → Placed c p → Sure (does known work most p) → (forced : List Bool) (n : ℕ) → most_turns c most ≤ n
      → drive n (start known work c) (begins most forced) ≡ route solver job (does known work most p) most 8 [] [] forced
  driven-ok most p h u forced n l = drive-ok most n _ _ _ (goes-start solver job c most p h u forced) (kept-start c most forced) (lt_of_lt_of_le (turns-le c most _ _ (kept-start c most forced)) l)

-- the path that the machine goes from the start of main with forced outcomes is that path of the search
pub replay-ok : (solver : Solver) (job : Window) (most : ℕ) (p : Program) → Pairs Upward p → Sure (does known work most p) → (forced : List Bool)
    → Has (paths solver job (within most 8 (does known work most p)) [] []) forced → (n : ℕ) → most_turns (code_of p) most ≤ n
    → drive solver job (code_of p) n (start known work (code_of p)) (begins most forced) ≡ of (paths solver job (within most 8 (does known work most p)) [] []) forced
replay-ok solver job most p o u forced h n l = driven-ok solver job (code_of p) most p (placed p o) u forced n l ∙ route-of solver job (does known work most p) most 8 [] [] forced h
