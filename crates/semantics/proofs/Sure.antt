-- Where no run is stuck, every choice of values has a run: "Choose values for the free declarations, in the order in which they are reached. The run is then fixed. It returns, fails or is cut."
use Prim.Native.Nat.{ℕ, zero, suc, ◌≤◌}
use mathlib.Core.Path.{◌≡◌, refl, ap}
use mathlib.Core.Option.{some, map}
use mathlib.Core.List.{List, [], ◌∷◌}
use native.Mathlib.Omega.{arith}
use native.Mathlib.Nat.{le_of_suc-le-suc}
use lib.ListN.{length, take}
use lib.IntN.{ℤ}
use Rattle.semantics.specs.Int.{arith as work32, holds}
use Rattle.semantics.specs.Does.{Does, returned, failed, cut, stuck, step, free, test, does, within, Sure}
use Rattle.semantics.specs.Run.{Ran, noting, starting, exactly, run, Job, meaning}

-- the run with the first ones of these values, as many as it reaches
pub record Reaches (t : Does ℤ) (vs : List ℤ) : Type 0 where
  pub count : ℕ
  pub ran : Ran
  pub runs : run t (take count vs) ≡ some ran

reaches : (t : Does ℤ) → Sure t → (n m : ℕ) (vs : List ℤ) → m ≤ length vs → Reaches (within n m t) vs
unfolding Sure within run exactly
reaches (returned z) s n m vs h = record { count = 0; ran = _; runs = refl }
reaches failed s n m vs h = record { count = 0; ran = _; runs = refl }
reaches cut s n m vs h = record { count = 0; ran = _; runs = refl }
reaches stuck s n m vs h = absurd s
reaches (step t) s zero m vs h = record { count = 0; ran = _; runs = refl }
reaches (step t) s (suc n) m vs h = let r = reaches t s n m vs h in record { count = r.count; ran = r.ran; runs = r.runs }
reaches (free o k) s zero m vs h = record { count = 0; ran = _; runs = refl }
reaches (free o k) s (suc n) zero vs h = record { count = 0; ran = _; runs = refl }
reaches (free o k) s (suc n) (suc m) [] h = absurd (omega arith)
reaches (free o k) s (suc n) (suc m) (v ∷ vs) h = let r = reaches (k v) (s v) n m vs (le_of_suc-le-suc h) in record { count = suc r.count; ran = starting o r.ran; runs = ap (map (starting o)) r.runs }
reaches (test c a b k) s n m vs h =
    let r = reaches (k (holds c a b)) (s (holds c a b)) n m vs h in
    record { count = r.count; ran = noting (holds c a b) r.ran; runs = ap (map (noting (holds c a b))) r.runs }

-- of a job, with any eight values
pub every-choice : (j : Job) → Sure (does (λ z. z) work32 j.steps j.program) → (vs : List ℤ) → 8 ≤ length vs → Reaches (meaning j) vs
unfolding meaning
every-choice j s vs h = reaches (does (λ z. z) work32 j.steps j.program) s j.steps 8 vs h
