-- Rule 17 of a text (document 02, slip 1): "Reading a variable must follow definite assignment (JLS chapter 16, cut to our grammar)".
-- JLS says of each variable V whether it is definitely assigned before and after each part of a program. Here V is a slot, and a Bool says whether it is; where no run comes, V is assigned, as JLS has it.
use Rattle.std.specs.Prelude.{ℕ, suc, ◌+◌, Bool, true, false, cond, ◌&&◌, ◌||◌, List, [], ◌∷◌, ◌++◌, eqb, ltb}
use Rattle.syntax.specs.Ast.{Sort, Ast, params}
use Rattle.syntax.specs.Ast as A

-- V is assigned after a condition when it is true, or when it is false, if b says whether it is before (JLS 16.1).
-- "the condition true has no false end, false has no true end (only these two words; a comparison of numbers has both), and the right side starts from the left being true for `&&`, false for `||`"
unfoldable pub at_end : Ast A.cond → Bool → Bool → Bool
at_end A.always true b = b
at_end A.always false b = true
at_end A.never true b = true
at_end A.never false b = b
at_end (A.compare x o y) end b = b
at_end (A.both c d) true b = at_end d true (at_end c true b)
at_end (A.both c d) false b = at_end c false b && at_end d false (at_end c true b)
at_end (A.either c d) true b = at_end c true b && at_end d true (at_end c false b)
at_end (A.either c d) false b = at_end d false (at_end c false b)

-- how many parameters a function has
unfoldable pub parameter_count : Ast params → ℕ
parameter_count A.no_params = 0
parameter_count (A.more_params l i) = suc (parameter_count l)

-- `means i`: the slot of the variable that the name at token i means
module _ (means : ℕ → ℕ) where
  -- V, the slot v, is assigned after a statement if b says whether it is before (JLS 16.2). What is no statement changes nothing.
  unfoldable pub after : {s : Sort} → ℕ → Ast s → Bool → Bool
  -- "a free variable [is] assigned"; a plain declaration changes nothing
  after v (A.assign i e) b = eqb (means i) v || b
  after v (A.declare_free i) b = eqb (means (i + 1)) v || b
  after v (A.declare_own i x y) b = eqb (means (i + 1)) v || b
  after v (A.declare i) b = b
  after v (A.empty i) b = b
  after v (A.eval e) b = b
  after v (A.block i l) b = after v l b
  after v (A.if_else i c s t) b = after v s (at_end c true b) && after v t (at_end c false b)
  -- what the body assigns does not count after the loop
  after v (A.while i c s) b = at_end c false b
  -- "`return` and `fail` leave everything assigned"
  after v (A.return i e) b = true
  after v (A.fail i) b = true
  after v A.no_stmts b = b
  after v (A.more_stmts l s) b = after v s (after v l b)
  after v (A.braced l j) b = after v l b
  after v (A.number i) b = b
  after v (A.negative i) b = b
  after v (A.name i) b = b
  after v (A.call i a) b = b
  after v (A.bracket i e) b = b
  after v (A.times o x y) b = b
  after v (A.plus x y) b = b
  after v (A.minus x y) b = b
  after v A.no_args b = b
  after v (A.more_args l e) b = b
  after v (A.cmp_mark o) b = b
  after v A.always b = b
  after v A.never b = b
  after v (A.compare x o y) b = b
  after v (A.both c d) b = b
  after v (A.either c d) b = b
  after v A.no_params b = b
  after v (A.more_params l i) b = b
  after v (A.function i p l) b = b
  after v A.no_funs b = b
  after v (A.more_funs p f) b = b

  -- "at the name that is read": the tokens of the names that are read where their variable is not assigned, in the order of the text. `set v`: the variable v is assigned before.
  unfoldable pub unset : {s : Sort} → Ast s → (ℕ → Bool) → List ℕ
  unset (A.number i) set = []
  unset (A.negative i) set = []
  unset (A.name i) set = cond (set (means i)) [] (i ∷ [])
  unset (A.call i a) set = unset a set
  unset (A.bracket i e) set = unset e set
  unset (A.times o x y) set = unset x set ++ unset y set
  unset (A.plus x y) set = unset x set ++ unset y set
  unset (A.minus x y) set = unset x set ++ unset y set
  unset A.no_args set = []
  unset (A.more_args l e) set = unset l set ++ unset e set
  unset (A.cmp_mark o) set = []
  unset A.always set = []
  unset A.never set = []
  unset (A.compare x o y) set = unset x set ++ unset y set
  unset (A.both c d) set = unset c set ++ unset d (λ v. at_end c true (set v))
  unset (A.either c d) set = unset c set ++ unset d (λ v. at_end c false (set v))
  unset (A.empty i) set = []
  unset (A.declare i) set = []
  unset (A.declare_free i) set = []
  unset (A.declare_own i a b) set = []
  unset (A.assign i e) set = unset e set
  unset (A.eval e) set = unset e set
  unset (A.block i l) set = unset l set
  unset (A.if_else i c s t) set = unset c set ++ unset s (λ v. at_end c true (set v)) ++ unset t (λ v. at_end c false (set v))
  unset (A.while i c s) set = unset c set ++ unset s (λ v. at_end c true (set v))
  unset (A.return i e) set = unset e set
  unset (A.fail i) set = []
  unset A.no_stmts set = []
  unset (A.more_stmts l s) set = unset l set ++ unset s (λ v. after v l (set v))
  unset (A.braced l j) set = unset l set
  unset A.no_params set = []
  unset (A.more_params l i) set = []
  -- "a parameter [is] assigned": their slots come first
  unset (A.function i p l) set = unset l (λ v. ltb v (parameter_count p))
  unset A.no_funs set = []
  unset (A.more_funs p f) set = unset p set ++ unset f set

  -- "17": over the whole text, functions that are never called too
  abbrev pub unassigned : Ast A.prog → List ℕ
  unassigned p = unset p (λ v. false)
