-- The things of a text that its rules speak of, in the order in which they stand there. Numbers are those of tokens, but for a depth and a count.
use Rattle.std.specs.Prelude.{ℕ, suc, ◌+◌, Bool, true, false, not, ◌&&◌, List, [], ◌∷◌, ◌++◌}
use Rattle.syntax.specs.Ast.{Sort, Ast, expr, args, body, prog}
use Rattle.syntax.specs.Ast as A

pub data Event : Type 0 where
  -- a function begins, and its parameters: their names
  function : ℕ → Event
  parameter : ℕ → Event
  -- a statement, an expression in brackets or an argument: its depth and its first token
  thing : ℕ → ℕ → Event
  -- a block begins, a block ends
  opens closes : Event
  -- `int x` or `int x free`, with a pair of its own or not: the name; a variable that is read or assigned: the name
  declares : ℕ → Event
  uses : ℕ → Event
  -- a call: the called name, and the count of its arguments
  calls : ℕ → ℕ → Event
  -- the body of a function ends: its closing brace, and whether it can reach its end
  ends : ℕ → Bool → Event

-- ---- the first token of an expression; how many arguments; ends

unfoldable pub first : Ast expr → ℕ
first (A.number i) = i
first (A.negative i) = i
first (A.name i) = i
first (A.call i a) = i
first (A.bracket i e) = i
first (A.times o a b) = first a
first (A.plus a b) = first a
first (A.minus a b) = first a

unfoldable pub count : Ast args → ℕ
count A.no_args = 0
count (A.more_args l e) = suc (count l)

-- "A statement can't reach its end if it is `return`, `fail`, braces whose last statement can't, or an if with two arms that can't."
-- (Statements go by their last one. Of what is no statement, nothing is asked.)
unfoldable pub stops : {s : Sort} → Ast s → Bool
stops (A.return i e) = true
stops (A.fail i) = true
stops (A.block i b) = stops b
stops (A.braced l j) = stops l
stops A.no_stmts = false
stops (A.more_stmts l s) = stops s
stops (A.if_else i c s t) = stops s && stops t
stops (A.empty i) = false
stops (A.declare i) = false
stops (A.declare_free i) = false
stops (A.declare_own i a b) = false
stops (A.assign i e) = false
stops (A.eval e) = false
stops (A.while i c s) = false
stops (A.number i) = false
stops (A.negative i) = false
stops (A.name i) = false
stops (A.call i a) = false
stops (A.bracket i e) = false
stops (A.times o a b) = false
stops (A.plus a b) = false
stops (A.minus a b) = false
stops A.no_args = false
stops (A.more_args l e) = false
stops (A.cmp_mark o) = false
stops A.always = false
stops A.never = false
stops (A.compare a o b) = false
stops (A.both a b) = false
stops (A.either a b) = false
stops A.no_params = false
stops (A.more_params l i) = false
stops (A.function i p b) = false
stops A.no_funs = false
stops (A.more_funs p f) = false

-- the closing brace of a body
abbrev pub closing : Ast body → ℕ
closing (A.braced l j) = j

-- ---- the events of each part, at its depth d

unfoldable pub events_at : {s : Sort} → ℕ → Ast s → List Event
-- "An expression in brackets, or an argument, is one deeper than what holds it; other expressions have their statement's depth."
events_at d (A.number i) = []
events_at d (A.negative i) = []
events_at d (A.name i) = uses i ∷ []
events_at d (A.call i a) = calls i (count a) ∷ events_at (suc d) a
events_at d (A.bracket i e) = thing (suc d) (first e) ∷ events_at (suc d) e
events_at d (A.times o a b) = events_at d a ++ events_at d b
events_at d (A.plus a b) = events_at d a ++ events_at d b
events_at d (A.minus a b) = events_at d a ++ events_at d b
events_at d A.no_args = []
events_at d (A.more_args l e) = events_at d l ++ thing d (first e) ∷ events_at d e
events_at d (A.cmp_mark o) = []
events_at d A.always = []
events_at d A.never = []
events_at d (A.compare a o b) = events_at d a ++ events_at d b
events_at d (A.both a b) = events_at d a ++ events_at d b
events_at d (A.either a b) = events_at d a ++ events_at d b
-- "One inside braces, an if arm or a while is one deeper than its holder." "An if arm and a while body are each a block, braces or not."
events_at d (A.empty i) = thing d i ∷ []
events_at d (A.declare i) = thing d i ∷ declares (i + 1) ∷ []
events_at d (A.declare_free i) = thing d i ∷ declares (i + 1) ∷ []
events_at d (A.declare_own i a b) = thing d i ∷ declares (i + 1) ∷ []
events_at d (A.assign i e) = thing d i ∷ uses i ∷ events_at d e
events_at d (A.eval e) = thing d (first e) ∷ events_at d e
events_at d (A.block i b) = thing d i ∷ events_at (suc d) b
events_at d (A.if_else i c s t) = thing d i ∷ events_at d c ++ opens ∷ events_at (suc d) s ++ closes ∷ opens ∷ events_at (suc d) t ++ closes ∷ []
events_at d (A.while i c s) = thing d i ∷ events_at d c ++ opens ∷ events_at (suc d) s ++ closes ∷ []
events_at d (A.return i e) = thing d i ∷ events_at d e
events_at d (A.fail i) = thing d i ∷ []
events_at d A.no_stmts = []
events_at d (A.more_stmts l s) = events_at d l ++ events_at d s
events_at d (A.braced l j) = opens ∷ events_at d l ++ closes ∷ []
-- a function; parameters stand outside its body's block
events_at d A.no_params = []
events_at d (A.more_params l i) = events_at d l ++ parameter i ∷ []
events_at d (A.function i p b) = function i ∷ events_at d p ++ events_at d b ++ ends (closing b) (not (stops b)) ∷ []
events_at d A.no_funs = []
events_at d (A.more_funs p f) = events_at d p ++ events_at d f

-- "a statement of a function's body has depth 1"
unfoldable pub events : Ast prog → List Event
events p = events_at 1 p
