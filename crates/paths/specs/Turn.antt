-- A turn of the machine in the memory: one entry is worked, within the limits.
use Rattle.std.specs.Prelude.{◌≡◌, Bool, List, ℕ, ◌+◌, ◌-◌, ◌≤◌, ◌<◌}
use Rattle.std.proofs.Math.Option.{Option}
use Rattle.semantics.specs.Int.{Cmp}
use Rattle.semantics.specs.Program.{Window}
use Rattle.semantics.specs.Run.{pair_of}
use Rattle.semantics.specs.Search.{unknown, in_use}
use Rattle.simulation.specs.Code.{Code}
use Rattle.simulation.specs.Machine.{Machine, Doing}
use Rattle.simulation.specs.Path.{turning, turn, Turn, End, returned, failed, cut, on, ended, still}
use Rattle.machine.specs.Layout.{range_low, range_end}
use Rattle.machine.specs.Memory.{Sym, node_at, machine_at}
use Rattle.machine.specs.Terms.{meant, Ready, Other, Formed, flagged}
use Rattle.machine.specs.declared.Value as code
use Rattle.machine.specs.declared.Run.{Run}
use Rattle.paths.specs.declared.Point.{Point}
use Rattle.paths.specs.declared.Turned.{Turned}
use Rattle.paths.specs.declared.Turned.TheVariants.{On, Returned, Failed, Cut}
use Rattle.paths.specs.Choice.{Tables}
use Rattle.paths.specs.Point.{state_at, Standing, Usable, Going}

-- ---- nodes

-- of these nodes all but the first n are new: one at most, an operation
pub record Growing (m : List ℕ) (n nodes : ℕ) : Type 0 where
  pub more : n ≤ nodes
  pub one : nodes ≤ n + 1
  pub formed : (j : ℕ) → n ≤ j → j < nodes → Formed j (node_at m j)

-- the new node, if there is one, got its range, and no other word changed
pub record Grown (m m' : List ℕ) (k n nodes : ℕ) : Type 0 where
  pub other : Other m m' (range_low n) (range_end n)
  pub tables : Tables m' k nodes

-- ---- points

-- after a step
abbrev pub spending : Point → Run → Point
spending p r = record { run = r; steps = p.steps - 1; windows = p.windows; choices = p.choices; forced = p.forced }

-- after a free declaration
abbrev pub declaring : Point → Run → Point
declaring p r = record { run = r; steps = p.steps - 1; windows = p.windows + 1; choices = p.choices; forced = p.forced }

-- ---- a turn

-- the turn t goes on to the point q, which has room where p had, and all of p's nodes and choices; o says whether it is a move
pub record Onward (t : Turn) (m' : List ℕ) (p : Point) (o : Bool) (q : Point) : Type 0 where
  pub is : t ≡ record { move = o; went = on (machine_at m' q.run) (state_at m' q) }
  pub ready : Ready m' q.run
  pub standing : Standing m' q
  pub lighter : q.run.nodes + q.steps ≤ p.run.nodes + p.steps
  pub fewer : q.choices + q.steps ≤ p.choices + p.steps
  pub grows : p.run.nodes ≤ q.run.nodes
  pub older : p.choices ≤ q.choices
  pub falls : q.steps ≤ p.steps

-- the path ends at the point p
pub record Stops (t : Turn) (m' : List ℕ) (p : Point) (e : End) : Type 0 where
  pub is : t ≡ still (ended e (state_at m' p))
  pub standing : Standing m' p

pub record Gives (t : Turn) (m' : List ℕ) (p : Point) (v : code.Value) : Type 0 where
  pub stops : Stops t m' p (returned (meant m' p.run.nodes v))
  pub usable : Usable p.run.nodes v

abbrev pub Turning : Turn → List ℕ → Point → Turned → Type 0
Turning t m' p (On o q) = Onward t m' p o q
Turning t m' p (Returned v) = Gives t m' p v
Turning t m' p Failed = Stops t m' p failed
Turning t m' p Cut = Stops t m' p cut

-- a path that goes on has room for the steps left
abbrev pub Onwards : List ℕ → Turned → Type 0
Onwards m' (On o q) = Going m' q
Onwards m' (Returned v) = Unit {0}
Onwards m' Failed = Unit {0}
Onwards m' Cut = Unit {0}

-- ---- what was done after an entry was worked with this run, from the point p in the memory m: a step, a comparison, a free declaration whose pair is w

abbrev pub AfterStep : List ℕ → List ℕ → Point → Run → Turned → Type 0
AfterStep m m' p run r = (job : Window) → Turning (turning in_use job (Doing.step (machine_at m run)) (state_at m p)) m' p r

abbrev pub AfterTest : List ℕ → List ℕ → Point → Run → Cmp → code.Value → code.Value → Turned → Type 0
AfterTest m m' p run c v w r = (job : Window)
    → Turning (turning in_use job (Doing.test c (meant m p.run.nodes v) (meant m p.run.nodes w) (λ b. machine_at m (flagged run b))) (state_at m p)) m' p r

abbrev pub AfterFree : List ℕ → List ℕ → Point → Run → Window → Turned → Type 0
AfterFree m m' p run w r = (job : Window) (o : Option Window) → pair_of job o ≡ w → (next : Sym → Machine Sym) → next (unknown p.windows) ≡ machine_at m run
    → Turning (turning in_use job (Doing.free o next) (state_at m p)) m' p r

-- a whole turn
abbrev pub OneTurn : Code → Window → List ℕ → List ℕ → Point → Turned → Type 0
OneTurn c job m m' p r = Turning (turn in_use job c (machine_at m p.run) (state_at m p)) m' p r × Onwards m' r
