-- One path of the search up to its end: what `path` of `simulation` (Lister) says of it, before `finish`.
use Rattle.std.specs.Prelude.{◌≡◌, Bool, List, ℕ, ◌+◌, ◌-◌, ◌≤◌, ◌<◌, Option, Some, None}
use Rattle.semantics.specs.Program.{Window}
use Rattle.semantics.specs.Search.{Value, known, work, spent, in_use}
use Rattle.simulation.specs.Code.{Code}
use Rattle.simulation.specs.Machine.{Machine, start}
use Rattle.simulation.specs.Path.{State, begins, End, returned, failed, cut}
use Rattle.simulation.specs.Lister.{Tally, tally, Next, over, then, closed, finish, Start, back, path}
use Rattle.simulation.specs.Measure.{turns_left}
use Rattle.machine.specs.Memory.{outcomes_in}
use Rattle.machine.specs.Terms.{meant}
use Rattle.machine.specs.declared.Run.{Run}
use Rattle.paths.specs.declared.Point.{Point}
use Rattle.paths.specs.Point.{state_at, Standing, Usable, Going}
use Rattle.walks.specs.declared.Stack.{Stack}
use Rattle.walks.specs.declared.End as ends
use Rattle.walks.specs.declared.End.TheVariants.{Returned, Failed, Cut}
use Rattle.walks.specs.declared.Ended.{Ended}
use Rattle.walks.specs.Checkpoints.{ComesTo, StackHolds}

-- what has been counted, where so much of the budget is left
abbrev pub paid : ℕ → Tally → Tally
paid left t = tally left t.skip t.room t.rows (t.moves + (t.budget - left)) t.cut

-- the point at the start of main
abbrev pub at_start : Run → ℕ → ℕ → Point
at_start r limit forced = record { run = r; steps = limit; windows = 0; choices = 0; forced = forced }

-- a path goes on from the point p, to which it comes from the start of main
pub record Stands (c : Code) (job : Window) (m : List ℕ) (p : Point) (s : Stack) : Type 0 where
  pub going : Going m p
  pub few : p.choices + p.steps ≤ s.limit
  pub comes : ComesTo c job s.limit m p
  pub stacked : StackHolds c job m p.choices p.run.nodes p.choices p.windows s

-- the path from the machine x and the state s on, and what is done after it, is y of what was counted before
pub record Walks (c : Code) (job : Window) (limit budget : ℕ) (x : Machine Value) (s : State) (y : Tally → Next Start) : Type 0 where
  pub is : (t : Tally) → t.budget ≡ budget → (n : ℕ) → turns_left c x s < n → path in_use job c limit n x s t ≡ y t

-- the path has ended so at the point q, with so much of the budget left
pub record Ends (c : Code) (job : Window) (limit budget : ℕ) (x : Machine Value) (s : State) (m' : List ℕ) (e : End) (q : Point) (r : Stack) (left : ℕ) : Type 0 where
  pub walks : Walks c job limit budget x s (λ t. then (finish e (state_at m' q) (paid left t)) (back (outcomes_in m' 0 q.choices)))
  pub standing : Standing m' q
  pub few : q.choices ≤ limit
  pub rest : left ≤ budget
  pub stacked : StackHolds c job m' q.choices q.run.nodes q.choices q.windows r
  pub limited : r.limit ≡ limit

-- the end, as `simulation` has it; a value that is returned is one of the nodes
abbrev pub end_of : List ℕ → Point → ends.End → End
end_of m q (Returned v) = returned (meant m q.run.nodes v)
end_of m q Failed = failed
end_of m q Cut = cut

abbrev pub Returns : ℕ → ends.End → Type 0
Returns n (Returned v) = Usable n v
Returns n Failed = Unit {0}
Returns n Cut = Unit {0}

-- how the path went
abbrev pub Walking : Code → Window → ℕ → ℕ → Machine Value → State → List ℕ → Option Ended → Type 0
Walking c job limit budget x s m' None = Walks c job limit budget x s (λ t. over (closed spent (paid 0 t)))
Walking c job limit budget x s m' (Some r) = Ends c job limit budget x s m' (end_of m' r.point r.end) r.point r.stack r.left × Returns r.point.run.nodes r.end

-- ---- where a path begins

-- The checkpoints before a path with so many forced outcomes: what stood at those with fewer choices still stands. The first path has none.
pub record Begins (c : Code) (job : Window) (m : List ℕ) (forced : ℕ) (s : Stack) : Type 0 where
  pub nodes : ℕ
  pub choices : ℕ
  pub windows : ℕ
  pub stacked : StackHolds c job m (forced - 1) nodes choices windows s
  pub first : forced ≡ 0 → s.height ≡ 0

-- the path with these outcomes forced, from the start of main on
abbrev pub FromMain : Code → Window → ℕ → ℕ → List Bool → List ℕ → Option Ended → Type 0
FromMain c job limit budget forced m' r = Walking c job limit budget (start known work c) (begins limit forced) m' r
