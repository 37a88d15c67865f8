-- What the code's types stand for, in the words of `semantics`.
use Rattle.std.specs.Prelude.{ℕ, ◌<◌, ◌≡◌, List, get_or, length, ℤ, pos}
use Rattle.semantics.specs.Int.{Op, Cmp}
use Rattle.semantics.specs.Program.{Window}
use Rattle.semantics.specs.Search.{all32, range, mirrored, clipped, Value, known, unknown, open'}
use Rattle.intervals.specs.Meaning.{of_window}
use Rattle.intervals.specs.declared.Window as code
use Rattle.narrowing.specs.declared.Side.{Side}
use Rattle.narrowing.specs.declared.Side.TheVariants.{Free, Other}

-- ---- the sides of a comparison: "where one side is just a free variable and the other's range is one number"

-- a free variable has its place among the eight
pub data AmongEight : Side → Type 0 where
  free : {i : ℕ} → i < 8 → AmongEight (Free i)
  other : {r : code.Window} → AmongEight (Other r)

-- the range of a side, in these windows
abbrev pub range_of : List Window → Side → Window
range_of ws (Free i) = get_or ws i all32
range_of ws (Other r) = of_window r

-- the side's free variable; anything else narrows no window, as a number does not
abbrev pub variable_of : Side → Value
variable_of (Free i) = unknown i
variable_of (Other r) = known (pos 0)

-- the windows where the sides compare so: `narrowed` of `semantics`, with the ranges that the sides have
abbrev pub narrowed_by : Cmp → Side → Side → List Window → List Window
narrowed_by c a b ws = clipped (mirrored c) (variable_of b) (range_of ws a) (clipped c (variable_of a) (range_of ws b) ws)

-- a side stands for a value, where these are the windows
pub data Stands (ws : List Window) : Side → Value → Type 0 where
  free : {i : ℕ} → i < length ws → Stands ws (Free i) (unknown i)
  number : {r : code.Window} {z : ℤ} → of_window r ≡ range ws (known z) → Stands ws (Other r) (known z)
  operation : {r : code.Window} {o : Op} {a b : Value} → of_window r ≡ range ws (open' o a b) → Stands ws (Other r) (open' o a b)
