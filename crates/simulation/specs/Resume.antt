-- A point of a path to which a search can come back.
use Rattle.std.specs.Prelude.{ℕ, List, ◌++◌, Bool}
use Rattle.semantics.specs.Program.{Window}
use Rattle.semantics.specs.Search.{Value, known, work, Solver}
use Rattle.simulation.specs.Code.{Code}
use Rattle.simulation.specs.Machine.{Machine, start}
use Rattle.simulation.specs.Path.{State, state, begins}
use Rattle.simulation.specs.Back.{Passes}

-- the state with other outcomes forced from here on
abbrev pub forcing : List Bool → State → State
forcing q s = state s.steps s.frees s.windows s.starts s.tests q s.chosen

-- Whatever is forced after the outcomes of the choices so far, the path passes from the start of main to what stands here.
pub record Comes (solver : Solver) (job : Window) (c : Code) (most : ℕ) (m : Machine Value) (s : State) : Type 0 where
  pub again : (r : List Bool) → Passes solver job c (start known work c) (begins most (s.chosen ++ r)) m (forcing r s)
