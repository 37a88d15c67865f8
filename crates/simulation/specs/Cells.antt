-- Which cells of a frame a code uses: the others hold the 0 that a frame begins with, as long as the machine runs.
use Rattle.std.specs.Prelude.{ℕ, ◌≤◌, ◌<◌, ◌≡◌, List, [], ◌∷◌, get_or, pos}
use Rattle.semantics.specs.Search.{Value, known}
use Rattle.simulation.specs.Code.{Act, operate, compare, call, constant, jump, skip, again, begin, ask, own, store, return, fail, Entry, leaf, argument, act, Code}
use Rattle.simulation.specs.Machine.{Caller, Machine, entry_at}
use Rattle.simulation.specs.Words.{place_of}

-- an action that puts values into the first n cells of a frame alone: its variable is one of them, and so is each cell that a call's arguments go into, of the sixteen that there are
abbrev pub Stores : ℕ → Act → Type 0
Stores n (operate o d) = Unit {0}
Stores n (compare o d) = Unit {0}
Stores n (call g a) = (i : ℕ) → i < a → i < 16 → i < n
Stores n (constant o) = Unit {0}
Stores n (jump o d) = Unit {0}
Stores n (skip d) = Unit {0}
Stores n (again d) = Unit {0}
Stores n begin = Unit {0}
Stores n (ask a) = place_of a < n
Stores n (own a) = place_of a < n
Stores n (store a) = place_of a < n
Stores n return = Unit {0}
Stores n fail = Unit {0}

abbrev pub Fills : ℕ → Entry → Type 0
Fills n (leaf l) = Unit {0}
Fills n (argument d) = Unit {0}
Fills n (act a) = Stores n a

-- a code that uses n cells of a frame
pub record Uses (c : Code) (n : ℕ) : Type 0 where
  pub each : (i : ℕ) → Fills n (entry_at c i)

-- a frame that holds 0 from cell n on
pub record Blank (n : ℕ) (f : List Value) : Type 0 where
  pub rest : (i : ℕ) → n ≤ i → get_or f i (known (pos 0)) ≡ known (pos 0)

abbrev pub Blanks : ℕ → List (Caller Value) → Type 0
Blanks n [] = Unit {0}
Blanks n (r ∷ cs) = Blank n r.frame × Blanks n cs

-- a machine all of whose frames do
pub record Spares (n : ℕ) (m : Machine Value) : Type 0 where
  pub frame : Blank n m.frame
  pub callers : Blanks n m.callers

-- ---- the frame of the start

-- a code that begins with the call of main, whose value is returned
pub record CallsMain (c : Code) : Type 0 where
  pub main : ℕ
  pub arguments : ℕ
  pub calls : entry_at c 0 ≡ act (call main arguments)
  pub returns : entry_at c 1 ≡ act return

-- the outermost frame is blank, and its function at one of those two entries; f runs at entry i, and cs wait for it
abbrev pub BlankStart : ℕ → List Value → List (Caller Value) → Type 0
BlankStart i f [] = (i < 2) × Blank 0 f
BlankStart i f (r ∷ cs) = BlankStart r.pc r.frame cs
