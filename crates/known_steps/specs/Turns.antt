-- Turns of a path, one after another.
use Rattle.std.specs.Prelude.{ℕ, zero, suc, ◌+◌, ◌-◌, ◌≤◌, ◌<◌, ◌≡◌, Bool, false, List, eqb, get_or, Option, Some, None}
use Rattle.std.proofs.Math.ListN as lists
use Rattle.semantics.specs.Int.{Op}
use Rattle.semantics.specs.Program.{Window}
use Rattle.semantics.specs.Search.{in_use}
use Rattle.simulation.specs.Code.{Code, Act, act}
use Rattle.simulation.specs.Path.{turn}
use Rattle.machine.specs.Layout.{temp_place}
use Rattle.machine.specs.Memory.{cell_read_as, cell_at, machine_at}
use Rattle.paths.specs.declared.Point.{Point}
use Rattle.paths.specs.Point.{state_at, Going, Stays}
use Rattle.paths.specs.Turn.{Onward}

-- a turn without a step is no move; one with a step is a move where no outcome is forced
pub data Paces (p : Point) (move : Bool) (q : Point) : Type 0 where
  silent : move ≡ false → q.steps ≡ p.steps → Paces p move q
  step : move ≡ eqb p.forced 0 → q.steps + 1 ≡ p.steps → Paces p move q

-- the turn from the point p goes on to q, whatever the job's pair is, and takes none of the forced outcomes
pub record Made (c : Code) (m m' : List ℕ) (p q : Point) : Type 0 where
  pub move : Bool
  pub is : (job : Window) → Onward (turn in_use job c (machine_at m p.run) (state_at m p)) m' p move q
  pub going : Going m' q
  pub stays : Stays m m' p.run.nodes p.choices
  pub len : lists.length m' ≡ lists.length m
  pub paces : Paces p move q
  pub forced : q.forced ≡ p.forced

-- turns lead from p to q
pub data Turns (c : Code) (m : List ℕ) (p : Point) : (m' : List ℕ) (q : Point) → Type 0 where
  none : {m' : List ℕ} {q : Point} → m' ≡ m → q ≡ p → Turns c m p m' q
  more : {m' : List ℕ} {q : Point} (m₁ : List ℕ) (p₁ : Point) → Turns c m p m₁ p₁ → Made c m₁ m' p₁ q → Turns c m p m' q

-- ---- one turn

-- from p to q by a turn, or by two, that of an operation and that of the assignment behind it
pub data OneOrTwo (c : Code) (m m' : List ℕ) (p q : Point) : Type 0 where
  once : Made c m m' p q → OneOrTwo c m m' p q
  twice : (m₁ : List ℕ) (p₁ : Point) → Made c m m₁ p p₁ → Made c m₁ m' p₁ q → OneOrTwo c m m' p q

-- the newest temporary of the running function has the word v: the value of the operation before the entry at the point
pub record Result (c : Code) (m : List ℕ) (p : Point) (v : ℕ) : Type 0 where
  pub some : p.run.base < p.run.top
  pub behind : 0 < p.run.pc
  pub operation : Op
  pub over : ℕ
  pub before : get_or c.entries (p.run.pc - 1) (act Act.fail) ≡ act (Act.operate operation over)
  pub cell : cell_at m (temp_place (p.run.top - 1)) ≡ cell_read_as 0 v

-- a turn was made, or there is none of this kind
pub data One (c : Code) (m m' : List ℕ) (p : Point) (floor : ℕ) : Option Point → Type 0 where
  one : {q : Point} → OneOrTwo c m m' p q → floor ≤ q.steps → One c m m' p floor (Some q)
  no : m' ≡ m → One c m m' p floor None

-- ---- what the moves cost

-- of n steps so many are moves
abbrev pub moves : ℕ → ℕ → ℕ
moves zero n = n
moves (suc f) n = 0

-- turns lead from p to q, and the budget paid for their moves
pub record Passes (c : Code) (m m' : List ℕ) (p : Point) (left : ℕ) (q : Point) (left' : ℕ) : Type 0 where
  pub turns : Turns c m p m' q
  pub going : Going m' q
  pub fewer : q.steps ≤ p.steps
  pub covers : moves p.forced (p.steps - q.steps) ≤ left
  pub rest : left' ≡ left - moves p.forced (p.steps - q.steps)
