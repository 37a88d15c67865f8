-- How far away the newest checkpoint is.
use mathlib.Core.Path.{◌≡◌}
use mathlib.Core.List.{List}
use mathlib.Core.Logic.{◌⊎◌, inl, inr}
use Prim.Native.Nat.{ℕ, ◌+◌, ◌*◌, ◌≤◌, ◌<◌}
use native.Mathlib.Omega.{arith}
use native.Mathlib.Decide.{dec_lt}
use Rattle.semantics.specs.Program.{Window}
use Rattle.simulation.specs.Code.{Code}
use Rattle.simulation.specs.Cells.{CallsMain}
use Rattle.paths.specs.declared.Point.{Point}
use Rattle.checkpoints.specs.Live.{size_of}
use Rattle.walks.specs.declared.Stack.{Stack}
use Rattle.walks.specs.Checkpoints.{Checkpoints, none, more, steps_there, Compares, added, Keeping, passed, kept}

module _ (c : Code) (job : Window) (limit cells : ℕ) (m : List ℕ) (upto : ℕ) where
  paid : {n t u w : ℕ} (ms : Checkpoints c job limit cells m upto n t u w) → 3 * w + 2 * steps_there ms ≤ 3 * limit
  paid (none e) = omega arith
  paid (more p v ms k a b g fit e) = fit

-- Where a path may make a choice, and no outcome is forced, a checkpoint is saved; or the newest is fewer steps away than one and a half times the marks that one more would have. It is no matter how long the path is.
pub near : (c : Code) (job : Window) (m m' : List ℕ) (upto n t u : ℕ) (p : Point) (s r : Stack) (ms : Checkpoints c job s.limit s.cells m upto n t u s.height)
    → CallsMain c → p.forced ≡ 0 → 1 ≤ p.windows → Compares c p.run.pc → Keeping c m m' p s r
    → (r ≡ added s p) ⊎ (2 * steps_there ms < 2 * p.steps + 3 * size_of s.cells p)
near c job m m' upto n t u p s r ms a f k o (kept due saved g e) = inl e
near c job m m' upto n t u p s r ms a f k o (passed h g e) = by (dec_lt (2 * steps_there ms) (2 * p.steps + 3 * size_of s.cells p))
  where
    by : Dec (2 * steps_there ms < 2 * p.steps + 3 * size_of s.cells p) → (r ≡ added s p) ⊎ (2 * steps_there ms < 2 * p.steps + 3 * size_of s.cells p)
    by (yes l) = inr l
    by (no l) = absurd (h a (record { unforced = f; reached = k; compares = o; fits = omega (arith, paid c job s.limit s.cells m upto ms) }))
