-- The checkpoints of a search, one behind another.
use Rattle.std.specs.Prelude.{ℕ, ◌+◌, ◌*◌, ◌≤◌, ◌<◌, ◌≡◌, List, length, get_or}
use Rattle.semantics.specs.Program.{Window}
use Rattle.semantics.specs.Search.{in_use}
use Rattle.semantics.specs.Int.{Cmp}
use Rattle.simulation.specs.Code.{Code, act, compare, fail}
use Rattle.simulation.specs.Resume.{Comes}
use Rattle.simulation.specs.Cells.{Uses, CallsMain}
use Rattle.machine.specs.Layout.{frame_cells}
use Rattle.machine.specs.Memory.{machine_at}
use Rattle.machine.specs.Terms.{Room}
use Rattle.paths.specs.declared.Point.{Point}
use Rattle.paths.specs.Point.{state_at}
use Rattle.checkpoints.specs.Live.{size_of, Marking}
use Rattle.checkpoints.specs.Words.{Saved, Agrees}
use Rattle.walks.specs.declared.Stack.{Stack}

-- a path comes to what stands at the point p
abbrev pub ComesTo : Code → Window → ℕ → List ℕ → Point → Type 0
ComesTo c job limit m p = Comes in_use job c limit (machine_at m p.run) (state_at m p)

-- A checkpoint from mark w on: a path comes to what stood there. If at most `upto` choices were made there, its nodes, tests, outcomes and starting pairs still stand.
pub record Checkpoint (c : Code) (job : Window) (limit cells : ℕ) (m : List ℕ) (upto : ℕ) (p : Point) (w : ℕ) : Type 0 where
  pub before : List ℕ
  pub saved : Saved cells m before p w
  pub comes : ComesTo c job limit before p
  pub few : p.choices + p.steps ≤ limit
  pub agrees : p.choices ≤ upto → Agrees m before p

-- The checkpoints up to mark w; beside their marks two are left for each three of the steps that may still be made at the newest. Each has at most n nodes, t choices and u windows, and no fewer than the one before it.
pub data Checkpoints (c : Code) (job : Window) (limit cells : ℕ) (m : List ℕ) (upto : ℕ) : (n t u w : ℕ) → Type 0 where
  none : {n t u w : ℕ} → w ≡ 0 → Checkpoints c job limit cells m upto n t u w
  more : {n t u w : ℕ} (p : Point) (v : ℕ) → Checkpoints c job limit cells m upto p.run.nodes p.choices p.windows v → Checkpoint c job limit cells m upto p v → p.run.nodes ≤ n → p.choices ≤ t → p.windows ≤ u
      → 3 * w + 2 * p.steps ≤ 3 * limit → w ≡ v + size_of cells p → Checkpoints c job limit cells m upto n t u w

-- the steps that may still be made at the newest checkpoint; at the start of main, where there is none
abbrev pub steps_there : {c : Code} {job : Window} {limit cells : ℕ} {m : List ℕ} {upto n t u w : ℕ} → Checkpoints c job limit cells m upto n t u w → ℕ
steps_there {limit = limit} (none e) = limit
steps_there (more p v ms k a b g fit e) = p.steps

-- those of a stack, a memory that has room for them and for the tables of a path, and cells that are all that the code uses
pub record StackHolds (c : Code) (job : Window) (m : List ℕ) (upto n t u : ℕ) (s : Stack) : Type 0 where
  pub checkpoints : Checkpoints c job s.limit s.cells m upto n t u s.height
  pub room : Room m (s.limit + 1)
  pub uses : Uses c s.cells
  pub cells : s.cells ≤ frame_cells

-- ---- a checkpoint is added, if it is due

-- entry i of the code is a comparison
pub record Compares (c : Code) (i : ℕ) : Type 0 where
  pub inside : i < length c.entries
  pub by : Cmp
  pub behind : ℕ
  pub is : get_or c.entries i (act fail) ≡ act (compare by behind)

-- At the point p some window is reached, no outcome is forced and a comparison comes next, whose outcome may be a choice that no path has made yet; and there are marks for a checkpoint beside those that there are, and beside two for each three steps that are left, which later ones may need.
pub record Due (c : Code) (p : Point) (s : Stack) : Type 0 where
  pub unforced : p.forced ≡ 0
  pub reached : 1 ≤ p.windows
  pub compares : Compares c p.run.pc
  pub fits : 3 * (s.height + size_of s.cells p) + 2 * p.steps ≤ 3 * s.limit

abbrev pub added : Stack → Point → Stack
added s p = record { height = s.height + size_of s.cells p; limit = s.limit; cells = s.cells }

-- a checkpoint was due and the point was saved, or none was due and nothing was done
pub data Keeping (c : Code) (m m' : List ℕ) (p : Point) (s r : Stack) : Type 0 where
  passed : (CallsMain c → Due c p s → ⊥) → m' ≡ m → r ≡ s → Keeping c m m' p s r
  kept : Due c p s → Saved s.cells m' m p s.height → Marking m m' s.height (size_of s.cells p) → r ≡ added s p → Keeping c m m' p s r

-- ---- checkpoints are dropped

-- of all checkpoints those with at most i choices are left
pub record Dropped (m : List ℕ) (s : Stack) (i : ℕ) (r : Stack) : Type 0 where
  pub is : (c : Code) (job : Window) (upto n t u : ℕ) → Checkpoints c job s.limit s.cells m upto n t u s.height → Checkpoints c job s.limit s.cells m upto n i u r.height
  pub limit : r.limit ≡ s.limit
  pub cells : r.cells ≡ s.cells
  pub fewer : r.height ≤ s.height
