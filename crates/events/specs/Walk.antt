-- What the walk over the node table of a program asks and answers.
use Rattle.std.specs.Prelude.{ℕ, ◌+◌, ◌*◌, ◌≤◌, ◌<◌, ◌≡◌, List, length}
use Rattle.syntax.specs.Ast.{Sort, Ast, prog, low_first, high_number}
use Rattle.syntax.specs.Ast as A
use Rattle.syntax.specs.Table.{node_words, Holds}
use Rattle.events.specs.Event.{Event, events}

-- the tokens that a tree names are below m (a declaration and a negative number name the token after their first, too, and one with its own pair the numbers of both ends)
unfoldable pub Below : {s : Sort} → ℕ → Ast s → Type 0
Below m (A.number i) = i < m
Below m (A.negative i) = i + 1 < m
Below m (A.name i) = i < m
Below m (A.call i a) = (i < m) × Below m a
Below m (A.bracket i e) = (i < m) × Below m e
Below m (A.times o a b) = Below m a × Below m b
Below m (A.plus a b) = Below m a × Below m b
Below m (A.minus a b) = Below m a × Below m b
Below m A.no_args = Unit
Below m (A.more_args l e) = Below m l × Below m e
Below m (A.cmp_mark o) = Unit
Below m A.always = Unit
Below m A.never = Unit
Below m (A.compare a o b) = Below m a × Below m b
Below m (A.both a b) = Below m a × Below m b
Below m (A.either a b) = Below m a × Below m b
Below m (A.empty i) = i < m
Below m (A.declare i) = i + 1 < m
Below m (A.declare_free i) = i + 1 < m
Below m (A.declare_own i a b) = high_number (low_first i) a b < m
Below m (A.assign i e) = (i < m) × Below m e
Below m (A.eval e) = Below m e
Below m (A.block i b) = (i < m) × Below m b
Below m (A.if_else i c s t) = (i < m) × (Below m c × (Below m s × Below m t))
Below m (A.while i c s) = (i < m) × (Below m c × Below m s)
Below m (A.return i e) = (i < m) × Below m e
Below m (A.fail i) = i < m
Below m A.no_stmts = Unit
Below m (A.more_stmts l s) = Below m l × Below m s
Below m (A.braced l j) = Below m l × (j < m)
Below m A.no_params = Unit
Below m (A.more_params l i) = Below m l × (i < m)
Below m (A.function i p b) = (i < m) × (Below m p × Below m b)
Below m A.no_funs = Unit
Below m (A.more_funs p f) = Below m p × Below m f

-- a tree of the sort s stands at node i, within the table
pub record Rooted (s : Sort) (l : List ℕ) (i : ℕ) : Type 0 where
  pub tree : Ast s
  pub holds : Holds l i tree
  pub room : node_words * i + node_words ≤ length l
  pub few : i < 65536

-- a program stands at node i, and there is room for its events
pub record Ready (l : List ℕ) (i : ℕ) : Type 0 where
  pub rooted : Rooted prog l i
  pub tokens : Below 65536 rooted.tree
  pub space : length (events rooted.tree) ≤ 4096

-- es are the events of the program at node i
pub record Walked (l : List ℕ) (i : ℕ) (es : List Event) : Type 0 where
  pub holds : (p : Ast prog) → Holds l i p → es ≡ events p
