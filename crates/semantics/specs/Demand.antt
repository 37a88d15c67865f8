-- What demand 3 says of the plan list of a job, in words of runs alone: neither sorting nor a search stands here. That `plans` (Plans) is this list, and that there is no other, are theorems.
use Rattle.std.specs.Prelude.{◌≡◌, Bool, true, false, ◌⊎◌, ℤ, pos, negsuc, T}
use Rattle.std.proofs.Math.Option.{Option, some}
use mathlib.Core.List.{List, [], ◌∷◌, ◌++◌, Memᴰ}
use Rattle.std.specs.Int.Signed.{lt_z, le_z}
use Rattle.semantics.specs.Program.{Window}
use Rattle.semantics.specs.Run.{Job, pair_of, meaning, run, returns, cuts, Choice, Row}

-- x is an element of the list
infix 4 ◌∈◌
abbrev pub ◌∈◌ : {A : Type 0} → A → List A → Type 0
x ∈ l = Memᴰ x l

-- an integer is in a window, and a window lies in 32 bits
abbrev pub InWindow : Window → ℤ → Type 0
InWindow w x = T (le_z w.low x) × T (le_z x w.high)

abbrev pub In32 : Window → Type 0
In32 w = T (le_z (negsuc 2147483647) w.low) × T (le_z w.high (pos 2147483647))

-- "A choice of values now means one inside each variable's own pair": value by value, each in the pair of its own declaration
pub data InPairs (job : Window) : List (Option Window) → List ℤ → Type 0 where
  none : InPairs job [] []
  more : {o : Option Window} {os : List (Option Window)} {v : ℤ} {vs : List ℤ} → InWindow (pair_of job o) v → InPairs job os vs → InPairs job (o ∷ os) (v ∷ vs)

-- "A choice of values belongs to it if each value is in the window and the run with them reaches as many free declarations as there are values": `run` has an answer only then.
pub record Belongs (j : Job) (c : Choice) : Type 0 where
  pub inside : InPairs j.window c.ran.starts c.values
  pub runs : run (meaning j) c.values ≡ some c.ran

-- "Where two runs' tests first differ, true stands first"
pub record Sooner (s t : List Bool) : Type 0 where
  pub common : List Bool
  pub left : List Bool
  pub right : List Bool
  pub one : s ≡ common ++ true ∷ left
  pub other : t ≡ common ++ false ∷ right

-- "where all are equal, the smaller value at the first difference"
pub record Lower (s t : List ℤ) : Type 0 where
  pub common : List ℤ
  pub left : List ℤ
  pub right : List ℤ
  pub v : ℤ
  pub w : ℤ
  pub one : s ≡ common ++ v ∷ left
  pub other : t ≡ common ++ w ∷ right
  pub less : T (lt_z v w)

abbrev pub Before : Choice → Choice → Type 0
Before a b = Sooner a.ran.tests b.ran.tests ⊎ ((a.ran.tests ≡ b.ran.tests) × Lower a.values b.values)

-- the row of a choice whose run returns
pub record RowOf (j : Job) (c : Choice) (r : Row) : Type 0 where
  pub belongs : Belongs j c
  pub values : c.values ≡ r.values
  pub returned : c.ran.ending ≡ returns r.result

-- r and q are rows of the job, and r has to stand before q
pub record Earlier (j : Job) (r q : Row) : Type 0 where
  pub first : Choice
  pub second : Choice
  pub row₁ : RowOf j first r
  pub row₂ : RowOf j second q
  pub before : Before first second

-- "one row for each choice of values in the window whose run returns within the step limit, and no other row", each once, in the order
pub record PlanList (j : Job) (rows : List Row) : Type 0 where
  pub all : (c : Choice) (r : Row) → RowOf j c r → r ∈ rows
  pub only : (r : Row) → r ∈ rows → (c : Choice) × RowOf j c r
  pub once : (x y z : List Row) (r : Row) → rows ≡ x ++ r ∷ (y ++ r ∷ z) → ⊥
  pub order : (x y z : List Row) (r q : Row) → rows ≡ x ++ r ∷ (y ++ q ∷ z) → Earlier j r q

-- "some choice of the job runs past a limit"
pub record SomeCut (j : Job) : Type 0 where
  pub choice : Choice
  pub belongs : Belongs j choice
  pub cut : choice.ran.ending ≡ cuts
