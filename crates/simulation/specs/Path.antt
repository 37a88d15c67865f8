-- One path of the search, as the machine goes it: from the start of main, turn after turn, each of which works one entry of the code.
-- The outcomes of the choices that an earlier path made are forced; at each new choice the path takes true.
use Rattle.std.specs.Prelude.{ℕ, zero, suc, Bool, true, false, List, [], ◌∷◌, ◌++◌, length}
use Rattle.std.proofs.Math.Option.{Option, none, some}
use Rattle.semantics.specs.Int.{Cmp}
use Rattle.semantics.specs.Program.{Window}
use Rattle.semantics.specs.Run.{pair_of}
use Rattle.semantics.specs.Search.{Value, known, unknown, work, negated, Solver, Test, as_test}
use Rattle.simulation.specs.Code.{Code}
use Rattle.simulation.specs.Machine.{Machine, Doing, advance}

-- what stands on a path beside the machine
pub record State : Type 0 where
  -- the steps that may still be made, and the free declarations that may still be reached
  pub steps : ℕ
  pub frees : ℕ
  -- a window for each free declaration that was reached
  pub windows : List Window
  -- the pair that each of them started with
  pub starts : List Window
  -- the tests made, the newest first
  pub tests : List Test
  -- the forced outcomes that are still to come
  pub forced : List Bool
  -- the outcomes of all choices so far, the oldest first
  pub chosen : List Bool

abbrev pub state : ℕ → ℕ → List Window → List Window → List Test → List Bool → List Bool → State
state l f ws ps ts p h = record { steps = l; frees = f; windows = ws; starts = ps; tests = ts; forced = p; chosen = h }

-- where a path starts, for runs of at most `most` steps
abbrev pub begins : ℕ → List Bool → State
begins most forced = state most 8 [] [] [] forced []

-- a choice takes the next forced outcome, and where none is left, true
abbrev pub outcome : List Bool → Bool
outcome [] = true
outcome (o ∷ p) = o

abbrev pub later : List Bool → List Bool
later [] = []
later (o ∷ p) = p

-- the comparison that holds where this one has the outcome o
abbrev pub holding : Bool → Cmp → Cmp
holding true c = c
holding false c = negated c

-- a path's end: the run returned, failed, or was cut
pub data End : Type 0 where
  returned : Value → End
  failed cut : End

-- a path goes on with a machine and a state, or has ended in a state
pub data Went : Type 0 where
  on : Machine Value → State → Went
  ended : End → State → Went

-- a turn of the machine: whether it is a move, and how the path went
pub record Turn : Type 0 where
  pub move : Bool
  pub went : Went

-- no move: nothing was counted, or the limits refused a step
abbrev pub still : Went → Turn
still w = record { move = false; went = w }

-- a step made is a move where no forced outcome is still to come; otherwise an earlier path has made it
abbrev pub fresh : List Bool → Bool
fresh [] = true
fresh (o ∷ p) = false

abbrev pub counted : State → Went → Turn
counted s w = record { move = fresh s.forced; went = w }

-- the state with one step less
abbrev pub stepped : ℕ → State → State
stepped l s = state l s.frees s.windows s.starts s.tests s.forced s.chosen

-- a free declaration reached: its window is its pair, which is noted
abbrev pub reached : Window → ℕ → ℕ → State → State
reached w l f s = state l f (s.windows ++ w ∷ []) (s.starts ++ w ∷ []) s.tests s.forced s.chosen

-- a choice made with the outcome o, after which the windows are ws: the test is noted
abbrev pub chose : Cmp → Value → Value → Bool → List Window → State → State
chose c a b o ws s = state s.steps s.frees ws s.starts (as_test (holding o c) a b ∷ s.tests) (later s.forced) (s.chosen ++ o ∷ [])

-- a choice that goes to the side o, where the windows narrow to these; a side that the solver closes goes on as after a `fail`
abbrev pub siding : Cmp → Value → Value → Machine Value → State → Bool → Option (List Window) → Went
siding c a b m s o none = ended failed (chose c a b o s.windows s)
siding c a b m s o (some ws) = on m (chose c a b o ws s)

module _ (solver : Solver) (job : Window) where
  unfoldable pub choosing : Cmp → Value → Value → (Bool → Machine Value) → State → Bool → Went
  choosing c a b k s o = siding c a b (k o) s o (solver.narrow (holding o c) a b s.windows)

  -- a comparison is decided, or a choice is made
  unfoldable pub comparing : Cmp → Value → Value → (Bool → Machine Value) → State → Went
  comparing c a b k s = elim (solver.decide c a b s.windows) [ some o ↦ on (k o) s | none ↦ choosing c a b k s (outcome s.forced) ]

  -- what the machine does, within the limits
  unfoldable pub turning : Doing Value → State → Turn
  turning (Doing.silent m) s = still (on m s)
  turning (Doing.step m) s = elim s.steps [ zero ↦ still (ended cut s) | suc l ↦ counted s (on m (stepped l s)) ]
  turning (Doing.free o k) s = elim s.steps [
    | zero ↦ still (ended cut s)
    | suc l ↦ elim s.frees [ zero ↦ still (ended cut s) | suc f ↦ counted s (on (k (unknown (length s.windows))) (reached (pair_of job o) l f s)) ]
  ]
  turning (Doing.test c a b k) s = elim s.steps [ zero ↦ still (ended cut s) | suc l ↦ counted s (comparing c a b k (stepped l s)) ]
  turning (Doing.returned v) s = still (ended (returned v) s)
  turning Doing.failed s = still (ended failed s)
  turning Doing.cut s = still (ended cut s)

  -- one turn: one entry of the code is worked
  unfoldable pub turn : Code → Machine Value → State → Turn
  turn c m s = turning (advance known work c m) s
