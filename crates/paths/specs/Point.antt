-- Where a path stands: the machine and the state of `simulation` (Path) that the memory and a point stand for.
use Rattle.std.specs.Prelude.{◌≡◌, Bool, List, map, ℕ, ◌+◌, ◌-◌, ◌≤◌, ◌<◌, get_or}
use Rattle.semantics.specs.Int.{Cmp}
use Rattle.semantics.specs.Program.{Window}
use Rattle.semantics.specs.Search.{narrowed, in_use}
use Rattle.simulation.specs.Path.{State, state, outcome, holding, chose, on, comparing}
use Rattle.simulation.specs.Nodes.{Within, Noted, test_of}
use Rattle.machine.specs.Layout.{windows_place, temp_place, node_place, node_end, test_place, outcome_end, index_end}
use Rattle.machine.specs.Memory.{nodes_in, machine_at, windows_in, starts_in, tests_in, outcomes_in, test_at}
use Rattle.machine.specs.Terms.{cell_of, Sized, meant, Room, Ready, flagged}
use Rattle.machine.specs.declared.Value as code
use Rattle.machine.specs.declared.Run.{Run}
use Rattle.paths.specs.declared.Point.{Point}
use Rattle.paths.specs.Choice.{Tables}

-- the state: a choice is noted with its test, so that there are as many tests as choices
abbrev pub state_at : List ℕ → Point → State
state_at m p = state p.steps (8 - p.windows) (windows_in m p.windows) (starts_in m p.windows) (map (test_of (nodes_in m p.run.nodes)) (tests_in m p.choices))
    (outcomes_in m p.choices p.forced) (outcomes_in m 0 p.choices)

-- a test on the first n nodes
pub record Tested (n : ℕ) (t : Noted) : Type 0 where
  pub left : Within n t.left
  pub right : Within n t.right

-- what stands beside the machine: windows, nodes with their ranges, and tests
pub record Standing (m : List ℕ) (p : Point) : Type 0 where
  pub tables : Tables m p.windows p.run.nodes
  pub tested : (j : ℕ) → j < p.choices → Tested p.run.nodes (test_at m j)

-- A path goes on at a point. The memory has room for all that the steps left can add.
pub record Going (m : List ℕ) (p : Point) : Type 0 where
  pub ready : Ready m p.run
  pub standing : Standing m p
  pub tops : Room m (p.run.top + p.run.depth + p.steps + 1)
  pub nodes : Room m (p.run.nodes + p.steps + 1)
  pub choices : Room m (p.choices + p.steps + 1)

-- the words on which the machine stands are as they were
pub record Machinery (m m' : List ℕ) : Type 0 where
  pub low : (k : ℕ) → k < windows_place → get_or m' k 0 ≡ get_or m k 0
  pub tables : (k j : ℕ) → temp_place j ≤ k → k < node_end j → get_or m' k 0 ≡ get_or m k 0

-- the first n nodes, the first t tests and outcomes, and the words of the checkpoints are as they were
pub record Stays (m m' : List ℕ) (n t : ℕ) : Type 0 where
  pub nodes : (k j : ℕ) → j < n → node_place j ≤ k → k < node_end j → get_or m' k 0 ≡ get_or m k 0
  pub tests : (k j : ℕ) → j < t → test_place j ≤ k → k < outcome_end j → get_or m' k 0 ≡ get_or m k 0
  pub marks : (k j : ℕ) → outcome_end j ≤ k → k < index_end j → get_or m' k 0 ≡ get_or m k 0

-- a value on the first n nodes
pub record Usable (n : ℕ) (v : code.Value) : Type 0 where
  pub sized : Sized v
  pub within : Within n (cell_of v)

-- ---- a choice

-- one more choice, which took a forced outcome if one was left
abbrev pub chosen : Point → Point
chosen p = record { run = p.run; steps = p.steps; windows = p.windows; choices = p.choices + 1; forced = p.forced - 1 }

-- a choice was made with the outcome o
pub record Chose (m m' : List ℕ) (p : Point) (c : Cmp) (v w : code.Value) (o : Bool) : Type 0 where
  pub machinery : Machinery m m'
  pub stays : Stays m m' p.run.nodes p.choices
  pub next : o ≡ outcome (outcomes_in m p.choices p.forced)
  pub is : state_at m' (chosen p)
      ≡ chose c (meant m p.run.nodes v) (meant m p.run.nodes w) o (narrowed (holding o c) (meant m p.run.nodes v) (meant m p.run.nodes w) (windows_in m p.windows)) (state_at m p)
  pub standing : Standing m' (chosen p)

-- ---- the point after a turn

-- the point with another run, and with the flag of an outcome
abbrev pub running : Point → Run → Point
running p r = record { run = r; steps = p.steps; windows = p.windows; choices = p.choices; forced = p.forced }

abbrev pub flagging : Point → Bool → Point
flagging p o = running p (flagged p.run o)

-- the path goes on from the point p to q, with the machine that was there with this run, and in the state s
pub record Follows (m m' : List ℕ) (p : Point) (r : Run) (s : State) (q : Point) : Type 0 where
  pub run : q.run ≡ r
  pub machine : machine_at m' q.run ≡ machine_at m r
  pub ready : Ready m' q.run
  pub is : state_at m' q ≡ s
  pub standing : Standing m' q
  pub steps : q.steps ≤ p.steps
  pub fewer : q.choices + q.steps ≤ p.choices + p.steps

-- a comparison was decided, or a choice was made
pub record Compared (m m' : List ℕ) (p : Point) (c : Cmp) (v w : code.Value) (q : Point) : Type 0 where
  pub outcome : Bool
  pub after : State
  pub is : (job : Window) → comparing in_use job c (meant m p.run.nodes v) (meant m p.run.nodes w) (λ b. machine_at m (flagged p.run b)) (state_at m p)
      ≡ on (machine_at m (flagged p.run outcome)) after
  pub follows : Follows m m' (chosen p) (flagged p.run outcome) after q
  pub older : p.choices ≤ q.choices
  pub stays : Stays m m' p.run.nodes p.choices
