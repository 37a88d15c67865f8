-- Runs with chosen values, jobs, choices and rows. "It comes from the runs alone": nothing here knows of the search. Which choices belong to a job, and which rows are its plan list, says Demand.
use Rattle.std.specs.Prelude.{ℕ, zero, suc, Bool, List, [], ◌∷◌, ◌++◌, ℤ, pos, negsuc, ◌-ℤ◌}
use Rattle.std.proofs.Math.Option.{Option, none, some, map}
use Rattle.std.proofs.Math.IntN.{suc_ℤ}
use Rattle.semantics.specs.Int.{arith, holds}
use Rattle.semantics.specs.Program.{Window, Program}
use Rattle.semantics.specs.Does.{Does, returned, failed, cut, stuck, step, free, test, does, within}

-- ---- a run: "Choose values for the free declarations, in the order in which they are reached. The run is then fixed. It returns, fails or is cut."

pub data Ending : Type 0 where
  returns : ℤ → Ending
  fails cuts : Ending

pub record Ran : Type 0 where
  -- "A run's tests are the outcomes of the comparisons it works, in order."
  pub tests : List Bool
  -- the own pairs of the free declarations that it reached, in order; none where it is the job's
  pub starts : List (Option Window)
  pub ending : Ending

abbrev pub noting : Bool → Ran → Ran
noting o r = record { tests = o ∷ r.tests; starts = r.starts; ending = r.ending }

abbrev pub starting : Option Window → Ran → Ran
starting o r = record { tests = r.tests; starts = o ∷ r.starts; ending = r.ending }

-- the end of a run, with the values that are left
unfoldable pub exactly : Ending → List ℤ → Option Ran
exactly e [] = some (record { tests = []; starts = []; ending = e })
exactly e (v ∷ vs) = none

-- The run with these values; none unless it "reaches as many free declarations as there are values".
-- (One refused at a cut is not reached: `within` has put `cut` in its place.) Where it is stuck there is no run.
unfoldable pub run : Does ℤ → List ℤ → Option Ran
run (returned z) vs = exactly (returns z) vs
run failed vs = exactly fails vs
run cut vs = exactly cuts vs
run stuck vs = none
run (step t) vs = run t vs
run (free o k) [] = none
run (free o k) (v ∷ vs) = map (starting o) (run (k v) vs)
run (test c a b k) vs = map (noting (holds c a b)) (run (k (holds c a b)) vs)

-- ---- a job: "A job is a text that check accepts, a window (low to high) and a step limit."

pub record Job : Type 0 where
  pub program : Program
  pub window : Window
  pub steps : ℕ

-- the pair of a free declaration: "A plain `free` takes the job's pair."
abbrev pub pair_of : Window → Option Window → Window
pair_of job none = job
pair_of job (some own) = own

-- what the job's program does over 32-bit integers, within the step limit and eight free declarations
unfoldable pub meaning : Job → Does ℤ
meaning j = within j.steps 8 (does (λ z. z) arith j.steps j.program)

-- ---- choices and rows

-- "A choice of values is just the list of values its run reached."
pub record Choice : Type 0 where
  pub ran : Ran
  pub values : List ℤ

-- of a choice whose run returns: "its result and values"
pub record Row : Type 0 where
  pub result : ℤ
  pub values : List ℤ

-- ---- the numbers of a window

-- the n integers from z upward
unfoldable pub counting : ℤ → ℕ → List ℤ
counting z zero = []
counting z (suc n) = z ∷ counting (suc_ℤ z) n

-- an integer as a count: 0 where it is negative
unfoldable pub clamp : ℤ → ℕ
clamp (pos n) = n
clamp (negsuc n) = 0

-- the integers from low to high, upward
unfoldable pub numbers : Window → List ℤ
numbers w = counting w.low (clamp (suc_ℤ w.high -ℤ w.low))

unfoldable pub each : {A B : Type 0} → (A → List B) → List A → List B
each f [] = []
each f (x ∷ xs) = f x ++ each f xs
