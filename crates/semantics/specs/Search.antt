-- The search of document 01: values that may be open, ranges, deciding and narrowing, the solver, the moves of the whole search, and what list answers.
use Rattle.std.specs.Prelude.{ℕ, zero, suc, Bool, true, false, cond, not, ◌&&◌, ◌||◌, List, [], ◌∷◌, ◌++◌, map, get_or, set, length, ℤ, pos, negsuc, ◌+ℤ◌, ◌-ℤ◌, ◌*ℤ◌}
use Rattle.std.proofs.Math.Option.{Option, none, some}
use Rattle.std.proofs.Math.IntN.{suc_ℤ, pred_ℤ}
use Rattle.std.specs.Int.Signed.{lt_z, le_z}
use Rattle.semantics.specs.Int.{Op, add, sub, mul, arith, Cmp, lt, le, gt, ge, eq, ne, eq_z, holds}
use Rattle.semantics.specs.Does.{Does, returned, failed, cut, stuck, step, free, test, does, within}
use Rattle.semantics.specs.Program.{Window}
use Rattle.semantics.specs.Run.{numbers, each, Row, Job, pair_of}

-- ---- values: "A value is known, or open with the expression it stands for."

-- The free variables of a path are numbered as they are reached; "a copy of a free variable means the same unknown". An open expression is 002's symbolic tree, with unknowns where that has addresses.
pub data Value : Type 0 where
  known : ℤ → Value
  unknown : ℕ → Value
  open' : Op → Value → Value → Value

-- AOp1: two known values are worked. AOp2: an operation on an open one stands as it is. Nothing is simplified (002's Subst, which is optional, is not used).
unfoldable pub work : Op → Value → Value → Value
work o (known a) (known b) = known (arith o a b)
work o (known a) (unknown i) = open' o (known a) (unknown i)
work o (known a) (open' p x y) = open' o (known a) (open' p x y)
work o (unknown i) b = open' o (unknown i) b
work o (open' p x y) b = open' o (open' p x y) b

-- what a value is under a setting of the free variables
unfoldable pub under : List ℤ → Value → ℤ
under s (known z) = z
under s (unknown i) = get_or s i (pos 0)
under s (open' o a b) = arith o (under s a) (under s b)

-- ---- ranges: "A range of an open expression is worked one operation at a time"

abbrev pub to : ℤ → ℤ → Window
to a b = record { low = a; high = b }

unfoldable pub all32 : Window
all32 = to (negsuc 2147483647) (pos 2147483647)

unfoldable pub min_z : ℤ → ℤ → ℤ
min_z a b = cond (le_z a b) a b

unfoldable pub max_z : ℤ → ℤ → ℤ
max_z a b = cond (le_z a b) b a

-- "the least and greatest exact integer that the operation gives over its operands' ranges"
unfoldable pub span : Op → Window → Window → Window
span add v w = to (v.low +ℤ w.low) (v.high +ℤ w.high)
span sub v w = to (v.low -ℤ w.high) (v.high -ℤ w.low)
span mul v w =
    let a = v.low *ℤ w.low in
    let b = v.low *ℤ w.high in
    let c = v.high *ℤ w.low in
    let d = v.high *ℤ w.high in
    to (min_z (min_z a b) (min_z c d)) (max_z (max_z a b) (max_z c d))

-- "where that leaves 32 bits, this operation's range is all of 32 bits"
unfoldable pub fitted : Window → Window
fitted w = cond (le_z all32.low w.low && le_z w.high all32.high) w all32

-- "a free variable's range being its present window"; each has one (all32 is never given)
unfoldable pub range : List Window → Value → Window
range ws (known z) = to z z
range ws (unknown i) = get_or ws i all32
range ws (open' o a b) = fitted (span o (range ws a) (range ws b))

-- ---- deciding: "If the two ranges decide a comparison, it is decided."

-- the comparison that holds where c does not
abbrev pub negated : Cmp → Cmp
negated lt = ge
negated le = gt
negated gt = le
negated ge = lt
negated eq = ne
negated ne = eq

-- c holds of every integer of the one range with every integer of the other
unfoldable pub always : Cmp → Window → Window → Bool
always lt v w = lt_z v.high w.low
always le v w = le_z v.high w.low
always gt v w = lt_z w.high v.low
always ge v w = le_z w.high v.low
always eq v w = le_z v.high w.low && le_z w.high v.low
always ne v w = not (le_z w.low v.high && le_z v.low w.high)

unfoldable pub decided : Cmp → Window → Window → Option Bool
decided c v w = cond (always c v w) (some true) (cond (always (negated c) v w) (some false) none)

-- ---- narrowing: "A window narrows by one of the six comparisons where one side is just a free variable and the other's range is one number; `!=` (or a false `==`) removes only an end."

-- what a window keeps where its variable compares so with n
unfoldable pub clip : Cmp → ℤ → Window → Window
clip lt n w = to w.low (min_z w.high (pred_ℤ n))
clip le n w = to w.low (min_z w.high n)
clip gt n w = to (max_z w.low (suc_ℤ n)) w.high
clip ge n w = to (max_z w.low n) w.high
clip eq n w = to (max_z w.low n) (min_z w.high n)
clip ne n w = to (cond (eq_z w.low n) (suc_ℤ n) w.low) (cond (eq_z w.high n) (pred_ℤ n) w.high)

-- the same comparison, with its sides changed
abbrev pub mirrored : Cmp → Cmp
mirrored lt = gt
mirrored le = ge
mirrored gt = lt
mirrored ge = le
mirrored eq = eq
mirrored ne = ne

-- the windows where the value compares so with a number of the range r: those of a free variable are clipped if r has one number
unfoldable pub clipped : Cmp → Value → Window → List Window → List Window
clipped c (known z) r ws = ws
clipped c (unknown i) r ws = cond (eq_z r.low r.high) (set ws i (clip c r.low (get_or ws i all32))) ws
clipped c (open' o a b) r ws = ws

unfoldable pub narrowed : Cmp → Value → Value → List Window → List Window
narrowed c a b ws = clipped (mirrored c) b (range ws a) (clipped c a (range ws b) ws)

-- ---- the solver

-- What the search knows of comparisons. In 002 "the constraint solver is exchangeable", and the search below is written for any: `decide` says the outcome of a comparison in these windows, or none; `narrow` gives the windows in which it holds, or none where it holds for no setting, which closes that side of the choice.
pub record Solver : Type 0 where
  pub decide : Cmp → Value → Value → List Window → Option Bool
  pub narrow : Cmp → Value → Value → List Window → Option (List Window)

-- The solver of document 01, by ranges. It closes nothing.
abbrev pub by_ranges : Solver
by_ranges = record {
  decide = λ c a b ws. decided c (range ws a) (range ws b);
  narrow = λ c a b ws. some (narrowed c a b ws);
}

-- The solver that list uses: document 01's. Another one changes this line.
abbrev pub in_use : Solver
in_use = by_ranges

-- ---- settings

-- a test that was made: the comparison that holds on this path
pub record Test : Type 0 where
  pub compare : Cmp
  pub left : Value
  pub right : Value

abbrev pub as_test : Cmp → Value → Value → Test
as_test c a b = record { compare = c; left = a; right = b }

-- "one that meets every test made"
unfoldable pub meets : List Test → List ℤ → Bool
meets [] s = true
meets (t ∷ ts) s = holds t.compare (under s t.left) (under s t.right) && meets ts s

-- "all settings of the path's free variables in their windows .. last variable fastest, each upward". "With no free variable there is one empty setting."
unfoldable pub settings : List Window → List (List ℤ)
settings [] = [] ∷ []
settings (w ∷ ws) = each (λ v. map (λ s. v ∷ s) (settings ws)) (numbers w)

-- ---- moves: "A move is one step, one setting tried, or one choice taken back."

-- A setting tried at a return is a row found or missed; one tried at a cut is a probe, which meets the tests or not.
pub data Kind : Type 0 where
  stepped back missed : Kind

pub data Move : Type 0 where
  plain : Kind → Move
  found : Row → Move
  probe : Bool → Move

-- "At the run's return, all settings .. are tried .. one that meets every test made is a row." It is 002's Label, which "is applied with the least priority".
unfoldable pub tried : Value → List Test → List (List ℤ) → List Move
tried v ts [] = []
tried v ts (s ∷ ss) = cond (meets ts s) (found (record { result = under s v; values = s })) (plain missed) ∷ tried v ts ss

-- "At a cut, settings are tried until one meets the tests"
unfoldable pub probed : List Test → List (List ℤ) → List Move
probed ts [] = []
probed ts (s ∷ ss) = cond (meets ts s) (probe true ∷ []) (probe false ∷ probed ts ss)

-- The paths of a search: at each end what is tried there, and on the way the steps and the choices, with their true and their false side.
pub data Paths : Type 0 where
  leaf : List Move → Paths
  onward : Paths → Paths
  fork : Paths → Paths → Paths

-- a side of a choice, in its windows. Document 01's solver closes none; one that another solver closes goes on as after a `fail` (document 02)
abbrev pub side : Option (List Window) → (List Window → Paths) → Paths
side none p = leaf []
side (some ws) p = p ws

-- The paths from here on, with the windows and the tests made so far. "each free declaration starts with the job's pair", or with its own; "At `fail`, none"; a comparison that is not decided is a choice.
-- Where it is stuck there is no run, and nothing is tried.
module _ (solver : Solver) (job : Window) where
  unfoldable pub paths : Does Value → List Window → List Test → Paths
  paths (returned v) ws ts = leaf (tried v ts (settings ws))
  paths failed ws ts = leaf []
  paths cut ws ts = leaf (probed ts (settings ws))
  paths stuck ws ts = leaf []
  paths (step t) ws ts = onward (paths t ws ts)
  paths (free o k) ws ts = onward (paths (k (unknown (length ws))) (ws ++ pair_of job o ∷ []) ts)
  paths (test c a b k) ws ts = elim (solver.decide c a b ws) [
    | some o ↦ paths (k o) ws ts
    | none ↦ fork
        (side (solver.narrow c a b ws) (λ us. paths (k true) us (as_test c a b ∷ ts)))
        (side (solver.narrow (negated c) a b ws) (λ us. paths (k false) us (as_test (negated c) a b ∷ ts)))
  ]

-- "Otherwise a choice is made, true first." "Then the newest choice is taken back and goes false; one already false is dropped first, which is no move. With no choice left the search has ended."
unfoldable pub moves : Paths → List Move
moves (leaf ms) = ms
moves (onward t) = plain stepped ∷ moves t
moves (fork a b) = moves a ++ plain back ∷ moves b

-- "once a cut run is found, later cut paths try none": h says whether one was found
unfoldable pub probed_once : Bool → List Move → List Move
probed_once h [] = []
probed_once h (plain k ∷ ms) = plain k ∷ probed_once h ms
probed_once h (found r ∷ ms) = found r ∷ probed_once h ms
probed_once false (probe o ∷ ms) = probe o ∷ probed_once o ms
probed_once true (probe o ∷ ms) = probed_once true ms

-- what the job's program does over values that may be open
unfoldable pub openly : Job → Does Value
openly j = within j.steps 8 (does known work j.steps j.program)

-- the moves of the whole search
unfoldable pub search : Solver → Job → List Move
search s j = probed_once false (moves (paths s j.window (openly j) [] []))

-- the rows that moves find, and whether they find a cut run
unfoldable pub rows_within : List Move → List Row
rows_within [] = []
rows_within (plain k ∷ ms) = rows_within ms
rows_within (found r ∷ ms) = r ∷ rows_within ms
rows_within (probe o ∷ ms) = rows_within ms

unfoldable pub cut_in : List Move → Bool
cut_in [] = false
cut_in (plain k ∷ ms) = cut_in ms
cut_in (found r ∷ ms) = cut_in ms
cut_in (probe o ∷ ms) = o || cut_in ms

-- ---- what list answers: "rows written, moves made and an ending"

pub data Close : Type 0 where
  whole cuts full spent : Close

pub record Answer : Type 0 where
  pub rows : List Row
  pub moves : ℕ
  pub close : Close

abbrev moved : Answer → Answer
moved a = record { rows = a.rows; moves = suc a.moves; close = a.close }

abbrev wrote : Row → Answer → Answer
wrote r a = record { rows = r ∷ a.rows; moves = suc a.moves; close = a.close }

-- The moves left to make, the rows to skip, the rows that have a place, and the budget. `c` is how the search closes where it ends here.
-- "whole or cut: the search ended, no cut run or some; full: a row past the skipped ones was found and has no place; it is not written; spent: the budget was made and the search has not ended. Full goes before spent."
unfoldable pub answer : Close → List Move → ℕ → ℕ → ℕ → Answer
answer c [] skip room budget = record { rows = []; moves = 0; close = c }
answer c (m ∷ ms) skip room zero = record { rows = []; moves = 0; close = spent }
answer c (plain k ∷ ms) skip room (suc n) = moved (answer c ms skip room n)
answer c (probe false ∷ ms) skip room (suc n) = moved (answer c ms skip room n)
answer c (probe true ∷ ms) skip room (suc n) = moved (answer cuts ms skip room n)
answer c (found r ∷ ms) (suc k) room (suc n) = moved (answer c ms k room n)
answer c (found r ∷ ms) zero zero (suc n) = record { rows = []; moves = 1; close = full }
answer c (found r ∷ ms) zero (suc k) (suc n) = wrote r (answer c ms zero k n)

unfoldable pub listed : Solver → Job → ℕ → ℕ → ℕ → Answer
listed s j skip room budget = answer whole (search s j) skip room budget
