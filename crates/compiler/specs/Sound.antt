-- What the tree of an accepted text keeps: its tokens are below m, its numbers below 2 ^ 31, each of its names means a variable or a function among 16, no call has more than 4 arguments, and own pairs go upward.
use Rattle.std.specs.Prelude.{ℕ, ◌+◌, ◌^◌, ◌<◌, ◌≤◌, T, int_le}
use Rattle.syntax.specs.Ast.{Sort, Ast, low_first, low_number, high_number}
use Rattle.syntax.specs.Ast as A
use Rattle.events.specs.Event.{count}
use Rattle.text_rules.specs.Own.{signed}

unfoldable pub Sound : {s : Sort} → ℕ → (value means : ℕ → ℕ) → Ast s → Type 0
Sound m value means (A.number i) = (i < m) × (value i < 2 ^ 31)
Sound m value means (A.negative i) = (i + 1 < m) × (value (i + 1) < 2 ^ 31)
Sound m value means (A.name i) = (i < m) × (means i < 16)
Sound m value means (A.call i a) = (i < m) × (means i < 16) × (count a ≤ 4) × Sound m value means a
Sound m value means (A.bracket i e) = Sound m value means e
Sound m value means (A.times o a b) = Sound m value means a × Sound m value means b
Sound m value means (A.plus a b) = Sound m value means a × Sound m value means b
Sound m value means (A.minus a b) = Sound m value means a × Sound m value means b
Sound m value means A.no_args = Unit
Sound m value means (A.more_args l e) = Sound m value means l × Sound m value means e
Sound m value means (A.cmp_mark o) = Unit
Sound m value means A.always = Unit
Sound m value means A.never = Unit
Sound m value means (A.compare a o b) = Sound m value means a × Sound m value means b
Sound m value means (A.both a b) = Sound m value means a × Sound m value means b
Sound m value means (A.either a b) = Sound m value means a × Sound m value means b
Sound m value means (A.empty i) = Unit
Sound m value means (A.declare i) = Unit
Sound m value means (A.declare_free i) = (i + 1 < m) × (means (i + 1) < 16)
Sound m value means (A.declare_own i a b) =
    (high_number (low_first i) a b < m) × (means (i + 1) < 16) × (value (low_number (low_first i) a) < 2 ^ 31) × (value (high_number (low_first i) a b) < 2 ^ 31) × T (int_le (signed a (value (low_number (low_first i) a))) (signed b (value (high_number (low_first i) a b))))
Sound m value means (A.assign i e) = (i < m) × (means i < 16) × Sound m value means e
Sound m value means (A.eval e) = Sound m value means e
Sound m value means (A.block i b) = Sound m value means b
Sound m value means (A.if_else i c s t) = Sound m value means c × Sound m value means s × Sound m value means t
Sound m value means (A.while i c s) = Sound m value means c × Sound m value means s
Sound m value means (A.return i e) = Sound m value means e
Sound m value means (A.fail i) = Unit
Sound m value means A.no_stmts = Unit
Sound m value means (A.more_stmts l s) = Sound m value means l × Sound m value means s
Sound m value means (A.braced l j) = Sound m value means l
Sound m value means A.no_params = Unit
Sound m value means (A.more_params l i) = Unit
Sound m value means (A.function i p b) = Sound m value means b
Sound m value means A.no_funs = Unit
Sound m value means (A.more_funs p f) = Sound m value means p × Sound m value means f
