-- The own pairs of a text's free declarations (document 02, slip 5), and the rules 18 and 19: the tokens that break each.
use Rattle.std.specs.Prelude.{ℕ, Bool, true, false, List, [], ◌∷◌, ◌++◌, length, ℤ, pos, ◌-ℤ◌, ltb}
use Rattle.std.specs.Int.Signed.{lt_z}
use Rattle.syntax.specs.Ast.{Sort, Ast, low_first, low_number, high_number}
use Rattle.syntax.specs.Ast as A
use Rattle.semantics.specs.Program.{Window}
use Rattle.semantics.specs.Run.{numbers}
use Rattle.text_rules.specs.Scan.{when}

-- a declaration with its own pair, `int x free l .. h;`: the low end's first token, and whether each end has a minus
pub record Own : Type 0 where
  pub token : ℕ
  pub low : Bool
  pub high : Bool

abbrev pub own : ℕ → Bool → Bool → Own
own t a b = record { token = t; low = a; high = b }

-- those of a tree, in the order of the text
unfoldable pub owns : {s : Sort} → Ast s → List Own
owns (A.declare_own i a b) = own (low_first i) a b ∷ []
owns (A.block i l) = owns l
owns (A.if_else i c s t) = owns s ++ owns t
owns (A.while i c s) = owns s
owns A.no_stmts = []
owns (A.more_stmts l s) = owns l ++ owns s
owns (A.braced l j) = owns l
owns (A.function i p l) = owns l
owns A.no_funs = []
owns (A.more_funs p f) = owns p ++ owns f
owns (A.empty i) = []
owns (A.declare i) = []
owns (A.declare_free i) = []
owns (A.assign i e) = []
owns (A.eval e) = []
owns (A.return i e) = []
owns (A.fail i) = []
owns (A.number i) = []
owns (A.negative i) = []
owns (A.name i) = []
owns (A.call i a) = []
owns (A.bracket i e) = []
owns (A.times o x y) = []
owns (A.plus x y) = []
owns (A.minus x y) = []
owns A.no_args = []
owns (A.more_args l e) = []
owns (A.cmp_mark o) = []
owns A.always = []
owns A.never = []
owns (A.compare x o y) = []
owns (A.both c d) = []
owns (A.either c d) = []
owns A.no_params = []
owns (A.more_params l i) = []

-- "each end a number with or without a minus"
abbrev pub signed : Bool → ℕ → ℤ
signed true n = pos 0 -ℤ pos n
signed false n = pos n

-- `value i`: the value of the number at token i
module _ (value : ℕ → ℕ) where
  -- the pair whose low end has the first token t
  abbrev pub pair_at : ℕ → Bool → Bool → Window
  pair_at t a b = record { low = signed a (value (low_number t a)); high = signed b (value (high_number t a b)) }

  -- the low end's first token, if the pair has p
  abbrev pub breach : (Window → Bool) → Own → List ℕ
  breach p o = when (p (pair_at o.token o.low o.high)) o.token

  -- of each declaration whose pair has p
  unfoldable pub breaching : (Window → Bool) → List Own → List ℕ
  breaching p [] = []
  breaching p (o ∷ os) = breach p o ++ breaching p os

-- "Number 18 is a low end above the high end"
abbrev pub is_reversed : Window → Bool
is_reversed w = lt_z w.high w.low

-- "19 is more than 4,096 values"
abbrev pub is_wide : Window → Bool
is_wide w = ltb 4096 (length (numbers w))

abbrev pub reversed : (value : ℕ → ℕ) → Ast A.prog → List ℕ
reversed value p = breaching value is_reversed (owns p)

abbrev pub too_wide : (value : ℕ → ℕ) → Ast A.prog → List ℕ
too_wide value p = breaching value is_wide (owns p)
