-- What the functions of the walk ask and answer, each of a node of the table.
use Rattle.std.specs.Prelude.{ℕ, ◌+◌, ◌≤◌, ◌<◌, ◌≡◌, Bool, List, [], ◌∷◌, ◌++◌, length}
use Rattle.syntax.specs.Ast.{Sort, Ast, expr, args, mark, cond, stmt, stmts, body, params, fun, prog}
use Rattle.syntax.specs.Table.{Holds}
use Rattle.events.specs.Event.{Event, opens, closes, first, count, stops, events_at}
use Rattle.events.specs.Walk.{Below, Rooted}

-- ---- what is asked

-- a tree of some sort stands at node i
pub record Stands (l : List ℕ) (i : ℕ) : Type 0 where
  pub sort : Sort
  pub rooted : Rooted sort l i

-- what the sorts are parts of: 0 of an expression or a condition, 1 of a statement, 2 of a program
abbrev pub level : Sort → ℕ
level expr = 0
level args = 0
level mark = 0
level cond = 0
level stmt = 1
level stmts = 1
level body = 1
level params = 2
level fun = 2
level prog = 2

-- the tree at node i has the level v, and there is room after n events for its events at the depth d
pub record Located (v : ℕ) (l : List ℕ) (i d n : ℕ) : Type 0 where
  pub sort : Sort
  pub rooted : Rooted sort l i
  pub part : level sort ≡ v
  pub tokens : Below 65536 rooted.tree
  pub deep : d + i < 131072
  pub space : n + length (events_at d rooted.tree) ≤ 4096

-- ---- what is answered

-- r is the first token of the expression at node i
pub record First (l : List ℕ) (i r : ℕ) : Type 0 where
  pub is : (e : Ast expr) → Holds l i e → r ≡ first e

-- r is the count of the arguments at node i
pub record Count (l : List ℕ) (i r : ℕ) : Type 0 where
  pub small : r ≤ i
  pub is : (a : Ast args) → Holds l i a → r ≡ count a

-- r says whether the tree at node i can't reach its end
pub record Stops (l : List ℕ) (i : ℕ) (r : Bool) : Type 0 where
  pub is : {s : Sort} (t : Ast s) → Holds l i t → r ≡ stops t

-- behind the events es, fs has those of the tree at node i, at the depth d
pub record Visited (l : List ℕ) (i d : ℕ) (es fs : List Event) : Type 0 where
  pub is : {s : Sort} (t : Ast s) → Holds l i t → fs ≡ es ++ events_at d t

-- the same in a block of its own
pub record Enclosed (l : List ℕ) (i d : ℕ) (es fs : List Event) : Type 0 where
  pub is : {s : Sort} (t : Ast s) → Holds l i t → fs ≡ es ++ (opens ∷ (events_at d t ++ closes ∷ []))
