-- The budget never grows, and each path but the first spends a move on the choice that was taken back: so the paths come to an end.
use Prim.Native.Nat.{ℕ, zero, suc, ◌≤◌, ◌<◌}
use mathlib.Core.Bool.{Bool, true, false}
use mathlib.Core.Option.{Option, none, some}
use mathlib.Core.List.{List, [], ◌∷◌}
use native.Mathlib.Nat.{le_refl, le_trans, le_of_lt, lt_of_lt_of_le}
use lib.IntN.{ℤ}
use Rattle.semantics.specs.Program.{Window}
use Rattle.semantics.specs.Run.{Row}
use Rattle.semantics.specs.Search.{Value, under, Solver, Test, meets, settings}
use Rattle.simulation.specs.Code.{Code}
use Rattle.simulation.specs.Machine.{Machine}
use Rattle.simulation.specs.Path.{State, End, returned, failed, cut, Went, on, ended, turn}
use Rattle.simulation.specs.Lister.{Tally, tally, Next, go, over, then, closed, closing, charge, charged, place, trial, trials, probe, probes, finish, next, Start, back, path}

-- at most n moves are left
abbrev pub Left : ℕ → Next Tally → Type 0
Left n (go t) = t.budget ≤ n
Left n (over r) = Unit {0}

abbrev pub Fewer : ℕ → Next Start → Type 0
Fewer n (go b) = b.tally.budget < n
Fewer n (over r) = Unit {0}

left-then : (n k : ℕ) (x : Next Tally) (f : Tally → Next Tally) → n ≤ k → Left n x → ((t : Tally) → Left t.budget (f t)) → Left k (then x f)
left-then n k (go t) f l h g = by (f t) (g t)
  where
    by : (y : Next Tally) → Left t.budget y → Left k y
    by (go u) h₂ = le_trans h₂ (le_trans h l)
    by (over r) h₂ = tt
left-then n k (over r) f l h g = tt

-- a move leaves one less
abbrev pub Less : ℕ → Next Tally → Type 0
Less n (go t) = t.budget < n
Less n (over r) = Unit {0}

less-at : (b s r : ℕ) (rs : List Row) (n : ℕ) (h : Bool) → Less b (charge (tally b s r rs n h))
unfolding charge
less-at zero s r rs n h = tt
less-at (suc b) s r rs n h = le_refl _

charge-less : (t : Tally) → Less t.budget (charge t)
charge-less t = less-at t.budget t.skip t.room t.rows t.moves t.cut

less-left : (n : ℕ) (x : Next Tally) → Less n x → Left n x
less-left n (go t) h = le_of_lt h
less-left n (over r) h = tt

charged-left : (o : Bool) (t : Tally) → Left t.budget (charged o t)
charged-left true t = less-left _ (charge t) (charge-less t)
charged-left false t = le_refl _

place-left : (x : Row) (b s r : ℕ) (rs : List Row) (n : ℕ) (h : Bool) → Left b (place x (tally b s r rs n h))
unfolding place
place-left x b (suc s) r rs n h = le_refl _
place-left x b zero (suc r) rs n h = le_refl _
place-left x b zero zero rs n h = tt

trial-left : (v : Value) (ts : List Test) (s : List ℤ) (t : Tally) → Left t.budget (trial v ts s t)
unfolding trial
trial-left v ts s t = left-then _ _ (charge t) _ (le_refl _) (less-left _ (charge t) (charge-less t)) (λ u. by (meets ts s) u)
  where
    by : (o : Bool) (u : Tally) → Left u.budget (elim o as (λ o. Next Tally) [ true ↦ place (record { result = under s v; values = s }) u | false ↦ go u ])
    by true u = place-left _ u.budget u.skip u.room u.rows u.moves u.cut
    by false u = le_refl _

trials-left : (v : Value) (ts : List Test) (ss : List (List ℤ)) (t : Tally) → Left t.budget (trials v ts ss t)
unfolding trials
trials-left v ts [] t = le_refl _
trials-left v ts (s ∷ ss) t = left-then _ _ (trial v ts s t) (trials v ts ss) (le_refl _) (trial-left v ts s t) (λ u. trials-left v ts ss u)

probe-left : (ts : List Test) (s : List ℤ) (t : Tally) → Left t.budget (probe ts s t)
unfolding probe
probe-left ts s t = left-then _ _ (charge t) _ (le_refl _) (less-left _ (charge t) (charge-less t)) (λ u. le_refl _)

probes-left : (ts : List Test) (ss : List (List ℤ)) (t : Tally) → Left t.budget (probes ts ss t)
unfolding probes
probes-left ts [] t = le_refl _
probes-left ts (s ∷ ss) t = by t.cut (λ u. probes-left ts ss u)
  where
    by : (o : Bool) → ((u : Tally) → Left u.budget (probes ts ss u)) → Left t.budget (elim o as (λ o. Next Tally) [ true ↦ go t | false ↦ then (probe ts s t) (probes ts ss) ])
    by true g = le_refl _
    by false g = left-then _ _ (probe ts s t) (probes ts ss) (le_refl _) (probe-left ts s t) g

finish-left : (e : End) (s : State) (t : Tally) → Left t.budget (finish e s t)
unfolding finish
finish-left (returned v) s t = trials-left v s.tests (settings s.windows) t
finish-left failed s t = le_refl _
finish-left cut s t = probes-left s.tests (settings s.windows) t

back-fewer : (h : List Bool) (t : Tally) → Fewer t.budget (back h t)
unfolding back
back-fewer h t = by (next h)
  where
    taken : (q : List Bool) (x : Next Tally) → Less t.budget x → Fewer t.budget (then x λ u. go (record { forced = q; tally = u }))
    taken q (go u) l = l
    taken q (over r) l = tt

    by : (x : Option (List Bool)) → Fewer t.budget (elim x as (λ x. Next Start) [ none ↦ over (closed (closing t.cut) t) | some q ↦ then (charge t) λ u. go (record { forced = q; tally = u }) ])
    by none = tt
    by (some q) = taken q (charge t) (charge-less t)

-- the next path, if there is one, has fewer moves left
pub path-fewer : (solver : Solver) (job : Window) (c : Code) (most n : ℕ) (m : Machine Value) (s : State) (t : Tally) → Fewer t.budget (path solver job c most n m s t)
unfolding path
path-fewer solver job c most zero m s t = tt
path-fewer solver job c most (suc n) m s t = after _ (λ u. by (path-fewer solver job c most n) (turn solver job c m s).went u) t (charged (turn solver job c m s).move t) (charged-left (turn solver job c m s).move t)
  where
    under : (t : Tally) (k : ℕ) → k ≤ t.budget → (y : Next Start) → Fewer k y → Fewer t.budget y
    under t k l (go b) h = lt_of_lt_of_le h l
    under t k l (over r) h = tt

    after : (f : Tally → Next Start) → ((u : Tally) → Fewer u.budget (f u)) → (t : Tally) (x : Next Tally) → Left t.budget x → Fewer t.budget (then x f)
    after f g t (go u) l = under t u.budget l (f u) (g u)
    after f g t (over r) l = tt

    by : ((m : Machine Value) (s : State) (t : Tally) → Fewer t.budget (path solver job c most n m s t)) → (w : Went) (u : Tally)
        → Fewer u.budget (elim w as (λ w. Next Start) [ on m₂ s₂ ↦ path solver job c most n m₂ s₂ u | ended e s₂ ↦ then (finish e s₂ u) (back s₂.chosen) ])
    by g (on m₂ s₂) u = g m₂ s₂ u
    by g (ended e s₂) u = after (back s₂.chosen) (back-fewer s₂.chosen) u (finish e s₂ u) (finish-left e s₂ u)
