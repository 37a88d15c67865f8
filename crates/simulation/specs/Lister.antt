-- The whole search as the machine makes it: path after path, each from the start of main, with what has been counted so far; then what is answered.
use Rattle.std.specs.Prelude.{ℕ, zero, suc, Bool, true, false, List, [], ◌∷◌, ◌++◌, ℤ}
use Rattle.std.proofs.Math.Option.{Option, none, some}
use Rattle.semantics.specs.Program.{Window}
use Rattle.semantics.specs.Run.{Row}
use Rattle.semantics.specs.Search.{Value, known, work, under, Solver, Test, meets, settings, Close, whole, cuts, full, spent, Answer}
use Rattle.simulation.specs.Code.{Code}
use Rattle.simulation.specs.Machine.{Machine, start}
use Rattle.simulation.specs.Path.{State, begins, End, returned, failed, cut, on, ended, turn}

-- what has been counted so far
pub record Tally : Type 0 where
  -- the moves that the budget still allows, the rows still to be skipped, and the places still free
  pub budget : ℕ
  pub skip : ℕ
  pub room : ℕ
  -- the rows written and the moves made
  pub rows : List Row
  pub moves : ℕ
  -- whether a cut run was found
  pub cut : Bool

abbrev pub tally : ℕ → ℕ → ℕ → List Row → ℕ → Bool → Tally
tally b k r rs n h = record { budget = b; skip = k; room = r; rows = rs; moves = n; cut = h }

-- the search goes on with something, or is over with its answer
pub data Next (A : Type 0) : Type 0 where
  go : A → Next A
  over : Answer → Next A

module _ {A B : Type 0} where
  abbrev pub then : Next A → (A → Next B) → Next B
  then (go a) f = f a
  then (over r) f = over r

-- ---- what is counted

abbrev pub closed : Close → Tally → Answer
closed c t = record { rows = t.rows; moves = t.moves; close = c }

-- how a search closes that has ended
abbrev pub closing : Bool → Close
closing true = cuts
closing false = whole

-- "A move is one step, one setting tried, or one choice taken back": one more is made, or the budget is spent
unfoldable pub charge : Tally → Next Tally
charge t = elim t.budget [ zero ↦ over (closed spent t) | suc n ↦ go (tally n t.skip t.room t.rows (suc t.moves) t.cut) ]

-- a turn, if it is a move
abbrev pub charged : Bool → Tally → Next Tally
charged false t = go t
charged true t = charge t

-- A row found: it is skipped, or written, or "a row past the skipped ones was found and has no place; it is not written".
unfoldable pub place : Row → Tally → Next Tally
place r t = elim t.skip [
  | suc k ↦ go (tally t.budget k t.room t.rows t.moves t.cut)
  | zero ↦ elim t.room [ zero ↦ over (closed full t) | suc k ↦ go (tally t.budget zero k (t.rows ++ r ∷ []) t.moves t.cut) ]
]

-- ---- a path's end

-- a setting tried at a return: "one that meets every test made is a row"
unfoldable pub trial : Value → List Test → List ℤ → Tally → Next Tally
trial v ts s t = then (charge t) λ u. elim (meets ts s) [ true ↦ place (record { result = under s v; values = s }) u | false ↦ go u ]

unfoldable pub trials : Value → List Test → List (List ℤ) → Tally → Next Tally
trials v ts [] t = go t
trials v ts (s ∷ ss) t = then (trial v ts s t) (trials v ts ss)

-- a setting tried at a cut, which finds a cut run or not
unfoldable pub probe : List Test → List ℤ → Tally → Next Tally
probe ts s t = then (charge t) λ u. go (tally u.budget u.skip u.room u.rows u.moves (meets ts s))

-- "At a cut, settings are tried until one meets the tests; once a cut run is found, later cut paths try none."
unfoldable pub probes : List Test → List (List ℤ) → Tally → Next Tally
probes ts [] t = go t
probes ts (s ∷ ss) t = elim t.cut [ true ↦ go t | false ↦ then (probe ts s t) (probes ts ss) ]

unfoldable pub finish : End → State → Tally → Next Tally
finish (returned v) s t = trials v s.tests (settings s.windows) t
finish failed s t = go t
finish cut s t = probes s.tests (settings s.windows) t

-- ---- the next path

-- "Then the newest choice is taken back and goes false; one already false is dropped first, which is no move." Where no choice is left, there is no next path.
abbrev pub following : Bool → Option (List Bool) → Option (List Bool)
following o (some q) = some (o ∷ q)
following true none = some (false ∷ [])
following false none = none

unfoldable pub next : List Bool → Option (List Bool)
next [] = none
next (o ∷ p) = following o (next p)

-- where a path starts: the outcomes that are forced on it
pub record Start : Type 0 where
  pub forced : List Bool
  pub tally : Tally

-- a choice taken back, which is a move; "With no choice left the search has ended"
unfoldable pub back : List Bool → Tally → Next Start
back h t = elim (next h) [ none ↦ over (closed (closing t.cut) t) | some q ↦ then (charge t) λ u. go (record { forced = q; tally = u }) ]

-- ---- the search

module _ (solver : Solver) (job : Window) (c : Code) (most : ℕ) where
  -- One path, from a machine and a state on, and what is done after it; n bounds its turns, and they end before it does.
  unfoldable pub path : ℕ → Machine Value → State → Tally → Next Start
  path zero m s t = over (closed spent t)
  path (suc n) m s t = then (charged (turn solver job c m s).move t) λ u.
      elim (turn solver job c m s).went [ on m₂ s₂ ↦ path n m₂ s₂ u | ended e s₂ ↦ then (finish e s₂ u) (back s₂.chosen) ]

  -- path after path; k bounds their number, and the budget ends before it does; n bounds the turns of each
  unfoldable pub searching : ℕ → ℕ → Start → Answer
  searching zero n b = closed spent b.tally
  searching (suc k) n b = elim (path n (start known work c) (begins most b.forced) b.tally) [ go b₂ ↦ searching k n b₂ | over a ↦ a ]

-- the search starts with no forced outcome
abbrev pub opening : ℕ → ℕ → ℕ → Start
opening skip room budget = record { forced = []; tally = tally budget skip room [] 0 false }
