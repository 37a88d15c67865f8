-- The plan list, computed: the choices of a job, sorted, and the rows of those whose run returns.
-- Nobody has to believe this file. Which list the plan list is, and when a choice is cut, say `PlanList` and `SomeCut` (Demand); that `plans` is that list and no other is, and that `some_cut` is true just then, are theorems.
use Rattle.std.specs.Prelude.{Bool, true, false, cond, ◌||◌, List, [], ◌∷◌, map, ℤ}
use Rattle.std.proofs.Math.Option.{Option}
use Rattle.std.specs.Int.Signed.{lt_z}
use Rattle.semantics.specs.Int.{holds}
use Rattle.semantics.specs.Does.{Does, returned, failed, cut, stuck, step, free, test}
use Rattle.semantics.specs.Program.{Window}
use Rattle.semantics.specs.Run.{Ending, returns, fails, cuts, noting, starting, Job, pair_of, meaning, Choice, Row, numbers, each}

-- ---- the choices of a job, by walking what its program does: at each free declaration every value of its pair, upward, and then the choices of what is done with it

-- the choice of a run that has ended, with no value left to choose
abbrev pub ended : Ending → List Choice
ended e = record { ran = record { tests = []; starts = []; ending = e }; values = [] } ∷ []

-- a choice with one value before the others
abbrev pub chosen : Option Window → ℤ → Choice → Choice
chosen o v c = record { ran = starting o c.ran; values = v ∷ c.values }

-- a choice with one test before the others
abbrev pub noted : Bool → Choice → Choice
noted o c = record { ran = noting o c.ran; values = c.values }

unfoldable pub choices_of : Window → Does ℤ → List Choice
choices_of job (returned z) = ended (returns z)
choices_of job failed = ended fails
choices_of job cut = ended cuts
choices_of job stuck = []
choices_of job (step t) = choices_of job t
choices_of job (free o k) = each (λ v. map (chosen o v) (choices_of job (k v))) (numbers (pair_of job o))
choices_of job (test c a b k) = map (noted (holds c a b)) (choices_of job (k (holds c a b)))

unfoldable pub choices : Job → List Choice
choices j = choices_of j.window (meaning j)

-- ---- the order: "Where two runs' tests first differ, true stands first; where all are equal, the smaller value at the first difference."

-- the smaller value at the first difference
unfoldable pub smaller : List ℤ → List ℤ → Bool
smaller [] w = true
smaller (v ∷ vs) [] = false
smaller (v ∷ vs) (w ∷ ws) = cond (lt_z v w) true (cond (lt_z w v) false (smaller vs ws))

-- true at the first difference of the tests, and `d` where there is none
unfoldable pub sooner : List Bool → List Bool → Bool → Bool
sooner [] t d = d
sooner (a ∷ s) [] d = d
sooner (true ∷ s) (true ∷ t) d = sooner s t d
sooner (true ∷ s) (false ∷ t) d = true
sooner (false ∷ s) (true ∷ t) d = false
sooner (false ∷ s) (false ∷ t) d = sooner s t d

unfoldable pub before : Choice → Choice → Bool
before a b = sooner a.ran.tests b.ran.tests (smaller a.values b.values)

unfoldable pub insert : Choice → List Choice → List Choice
insert a [] = a ∷ []
insert a (b ∷ bs) = cond (before a b) (a ∷ b ∷ bs) (b ∷ insert a bs)

unfoldable pub sorted : List Choice → List Choice
sorted [] = []
sorted (a ∷ l) = insert a (sorted l)

-- ---- the rows: "one row for each choice whose run returns, with its result and values"

abbrev pub rows_with : Ending → List ℤ → List Row → List Row
rows_with (returns z) vs rs = record { result = z; values = vs } ∷ rs
rows_with fails vs rs = rs
rows_with cuts vs rs = rs

unfoldable pub rows_of : List Choice → List Row
rows_of [] = []
rows_of (c ∷ cs) = rows_with c.ran.ending c.values (rows_of cs)

unfoldable pub plans : Job → List Row
plans j = rows_of (sorted (choices j))

-- ---- whether "some choice of the job runs past a limit"

abbrev pub is_cut : Ending → Bool
is_cut (returns z) = false
is_cut fails = false
is_cut cuts = true

unfoldable pub some_cut : List Choice → Bool
some_cut [] = false
some_cut (c ∷ cs) = is_cut c.ran.ending || some_cut cs
