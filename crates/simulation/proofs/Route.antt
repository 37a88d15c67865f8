-- The route that a path takes through what a program does: its moves past the forced outcomes, and the outcomes of all its choices. It is that path of the search.
use Prim.Native.Nat.{ℕ, zero, suc}
use mathlib.Core.Path.{◌≡◌, refl, ap, ◌∙◌}
use mathlib.Core.Bool.{Bool, true, false}
use mathlib.Core.Option.{Option, none, some}
use mathlib.Core.List.{List, [], ◌∷◌, ◌++◌}
use lib.ListN.{length}
use Rattle.semantics.specs.Does.{Does, returned, failed, cut, stuck, step, free, test, within}
use Rattle.semantics.specs.Program.{Window}
use Rattle.semantics.specs.Run.{pair_of}
use Rattle.semantics.specs.Search.{Value, unknown, Solver, Test, settings, Move, plain, stepped, tried, probed, Paths, leaf, onward, fork, as_test, side, paths}
use Rattle.simulation.specs.Path.{holding, outcome, later}
use Rattle.simulation.proofs.Replay.{Has, path-moves, truths, replayed, chosen}

pub record Route : Type 0 where
  pub moves : List Move
  pub choices : List Bool

-- a step is a move once no forced outcome is left
abbrev pub stepping : List Bool → Route → Route
stepping [] r = record { moves = plain stepped ∷ r.moves; choices = r.choices }
stepping (o ∷ p) r = r

abbrev pub taking : Bool → Route → Route
taking o r = record { moves = r.moves; choices = o ∷ r.choices }

abbrev pub ending : List Move → Route
ending ms = record { moves = ms; choices = [] }

-- a side that is closed ends at once
abbrev pub sided : Option (List Window) → (List Window → Route) → Route
sided none f = ending []
sided (some ws) f = f ws

module _ (solver : Solver) (job : Window) where
  unfoldable pub route : Does Value → ℕ → ℕ → List Window → List Test → List Bool → Route
  route (returned v) l f ws ts p = ending (tried v ts (settings ws))
  route failed l f ws ts p = ending []
  route cut l f ws ts p = ending (probed ts (settings ws))
  route stuck l f ws ts p = ending []
  route (step t) zero f ws ts p = ending (probed ts (settings ws))
  route (step t) (suc l) f ws ts p = stepping p (route t l f ws ts p)
  route (free o k) zero f ws ts p = ending (probed ts (settings ws))
  route (free o k) (suc l) zero ws ts p = ending (probed ts (settings ws))
  route (free o k) (suc l) (suc f) ws ts p = stepping p (route (k (unknown (length ws))) l f (ws ++ pair_of job o ∷ []) ts p)
  route (test c a b k) l f ws ts p = elim (solver.decide c a b ws) [
    | some o ↦ route (k o) l f ws ts p
    | none ↦ taking (outcome p) (sided (solver.narrow (holding (outcome p) c) a b ws) (λ us. route (k (outcome p)) l f us (as_test (holding (outcome p) c) a b ∷ ts) (later p)))
  ]

-- ---- the route is the search's

abbrev pub of : Paths → List Bool → Route
of t p = record { moves = replayed t p; choices = chosen t p }

of-step : (t : Paths) (p : List Bool) → stepping p (of t p) ≡ of (onward t) p
unfolding replayed chosen path-moves truths
of-step t [] = refl
of-step t (o ∷ p) = refl

has-step : (t : Paths) (p : List Bool) → Has (onward t) p → Has t p
unfolding Has
has-step t [] h = tt
has-step t (o ∷ p) h = h

of-leaf : (ms : List Move) (p : List Bool) → Has (leaf ms) p → ending ms ≡ of (leaf ms) p
unfolding replayed chosen path-moves truths Has
of-leaf ms [] h = refl
of-leaf ms (o ∷ p) h = absurd h

of_test : (d : Option Bool) (p : List Bool) (g : Bool → Route) (h : Bool → Paths) (x : Bool → List Bool → Route) (y : Bool → Paths)
    → ((o : Bool) → Has (h o) p → g o ≡ of (h o) p) → ((o : Bool) (q : List Bool) → Has (y o) q → x o q ≡ of (y o) q)
    → Has (elim d as (λ d. Paths) [ some o ↦ h o | none ↦ fork (y true) (y false) ]) p
    → (elim d as (λ d. Route) [ some o ↦ g o | none ↦ taking (outcome p) (x (outcome p) (later p)) ]) ≡ of (elim d as (λ d. Paths) [ some o ↦ h o | none ↦ fork (y true) (y false) ]) p
unfolding replayed chosen path-moves truths Has
of_test (some o) p g h x y e r i = e o i
of_test none [] g h x y e r i = ap (taking true) (r true [] tt)
of_test none (true ∷ p) g h x y e r i = ap (taking true) (r true p i)
of_test none (false ∷ p) g h x y e r i = ap (taking false) (r false p i)

of-side : (x : Option (List Window)) (q : List Bool) (g : List Window → Route) (h : List Window → Paths) → ((us : List Window) → Has (h us) q → g us ≡ of (h us) q) → Has (side x h) q → sided x g ≡ of (side x h) q
of-side none q g h e i = of-leaf [] q i
of-side (some us) q g h e i = e us i

module _ (solver : Solver) (job : Window) where
  pub route-of : (t : Does Value) (l f : ℕ) (ws : List Window) (ts : List Test) (p : List Bool) → Has (paths solver job (within l f t) ws ts) p → route solver job t l f ws ts p ≡ of (paths solver job (within l f t) ws ts) p
  unfolding route paths within
  route-of (returned v) l f ws ts p h = of-leaf _ p h
  route-of failed l f ws ts p h = of-leaf _ p h
  route-of cut l f ws ts p h = of-leaf _ p h
  route-of stuck l f ws ts p h = of-leaf _ p h
  route-of (step t) zero f ws ts p h = of-leaf _ p h
  route-of (step t) (suc l) f ws ts p h = ap (stepping p) (route-of t l f ws ts p (has-step _ p h)) ∙ of-step _ p
  route-of (free o k) zero f ws ts p h = of-leaf _ p h
  route-of (free o k) (suc l) zero ws ts p h = of-leaf _ p h
  route-of (free o k) (suc l) (suc f) ws ts p h = ap (stepping p) (route-of (k (unknown (length ws))) l f (ws ++ pair_of job o ∷ []) ts p (has-step _ p h)) ∙ of-step _ p
  route-of (test c a b k) l f ws ts p h =
      of_test (solver.decide c a b ws) p (λ o. route solver job (k o) l f ws ts p) (λ o. paths solver job (within l f (k o)) ws ts)
      (λ o q. sided (solver.narrow (holding o c) a b ws) (λ us. route solver job (k o) l f us (as_test (holding o c) a b ∷ ts) q))
      (λ o. side (solver.narrow (holding o c) a b ws) (λ us. paths solver job (within l f (k o)) us (as_test (holding o c) a b ∷ ts)))
      (λ o. route-of (k o) l f ws ts p)
      (λ o q. of-side (solver.narrow (holding o c) a b ws) q (λ us. route solver job (k o) l f us (as_test (holding o c) a b ∷ ts) q) (λ us. paths solver job (within l f (k o)) us (as_test (holding o c) a b ∷ ts))
      (λ us. route-of (k o) l f us (as_test (holding o c) a b ∷ ts) q))
      h
