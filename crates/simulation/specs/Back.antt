-- What it means that a choice is taken back, in a search that goes path after path on a code: "What stands when a choice is taken back is what these rules give, worked from the start of main up to that choice, with the outcomes of the choices before it: the same variables, windows and tests."
use Rattle.std.specs.Prelude.{ℕ, suc, ◌≡◌, Bool, false, List, [], ◌∷◌, ◌++◌, map}
use Rattle.std.proofs.Math.Option.{none, some}
use Rattle.semantics.specs.Int.{Cmp}
use Rattle.semantics.specs.Program.{Window}
use Rattle.semantics.specs.Search.{Value, known, work, Solver, Test}
use Rattle.simulation.specs.Code.{Code}
use Rattle.simulation.specs.Machine.{Machine, Doing, advance, start}
use Rattle.semantics.specs.Demand.{◌∈◌}
use Rattle.simulation.specs.Path.{State, begins, End, on, ended, turn}
use Rattle.simulation.specs.Lister.{next}

-- what stands at a point of a path
pub record Standing : Type 0 where
  -- the variables of the function that runs, of its caller, of that one's caller, and so on
  pub variables : List (List Value)
  pub windows : List Window
  -- "The path's record keeps the pair that each variable started with."
  pub starts : List Window
  pub tests : List Test
  -- and all else that a run goes on with: the whole machine, the steps and free declarations left, and the outcomes of the choices so far
  pub machine : Machine Value
  pub steps : ℕ
  pub frees : ℕ
  pub outcomes : List Bool

abbrev pub standing : Machine Value → State → Standing
standing m s = record {
  variables = m.frame ∷ map (λ r. r.frame) m.callers;
  windows = s.windows;
  starts = s.starts;
  tests = s.tests;
  machine = m;
  steps = s.steps;
  frees = s.frees;
  outcomes = s.chosen;
}

module _ (solver : Solver) (job : Window) (c : Code) where
  -- a path passes from one point to another, turn by turn
  pub data Passes : Machine Value → State → Machine Value → State → Type 0 where
    here : {m : Machine Value} {s : State} → Passes m s m s
    turned : {m m₂ m₃ : Machine Value} {s s₂ s₃ : State} → (turn solver job c m s).went ≡ on m₂ s₂ → Passes m₂ s₂ m₃ s₃ → Passes m s m₃ s₃

  -- a choice stands at this point: a comparison within the limits that is not decided
  pub record ChoiceAt (m : Machine Value) (s : State) : Type 0 where
    pub compare : Cmp
    pub left : Value
    pub right : Value
    -- the machine after it, by the outcome
    pub after : Bool → Machine Value
    pub steps : ℕ
    pub works : advance known work c m ≡ Doing.test compare left right after
    pub within : s.steps ≡ suc steps
    pub undecided : solver.decide compare left right s.windows ≡ none

  module _ (most : ℕ) where
    -- The paths of a search: q are the forced outcomes of one, and `earlier` those of the paths before it, the newest first. The first path has none; when a path has ended, "the newest choice is taken back and goes false" for the next.
    pub data Searched : (earlier : List (List Bool)) (q : List Bool) → Type 0 where
      opens : Searched [] []
      follows : {earlier : List (List Bool)} {p q : List Bool} {m : Machine Value} {s s₂ : State} {e : End} → Searched earlier p → Passes (start known work c) (begins most p) m s
          → (turn solver job c m s).went ≡ ended e s₂ → next s₂.chosen ≡ some q → Searched (p ∷ earlier) q

    -- The choice that the path with the forced outcomes q takes back was made on one of the earlier paths, at `machine` and `state`; and what stands where it is taken back is what stood when it was made.
    pub record TakenBack (earlier : List (List Bool)) (q : List Bool) : Type 0 where
      pub path : List Bool
      pub before : path ∈ earlier
      pub machine : Machine Value
      pub state : State
      pub made : Passes (start known work c) (begins most path) machine state
      pub choice : ChoiceAt machine state
      -- no outcome was forced any more, so that it was made there and not worked again
      pub new : state.forced ≡ []
      -- the outcomes before it stay, and it goes false
      pub place : q ≡ state.chosen ++ false ∷ []
      -- from the start of main the path comes to the choice again, where it has only to go false
      pub machine₂ : Machine Value
      pub state₂ : State
      pub again : Passes (start known work c) (begins most q) machine₂ state₂
      pub goes : state₂.forced ≡ false ∷ []
      pub same : standing machine₂ state₂ ≡ standing machine state
