-- What is known of a variable in the program is what rule 17 says of it in the tree; and a variable that is not declared yet is not assigned.
use Prim.Native.Nat.{ℕ, ◌≤◌, ◌<◌}
use mathlib.Core.Path.{◌≡◌, refl, sym, subst}
use mathlib.Core.Bool.{Bool, true, false, ◌&&◌, ◌||◌, and-true, or-true}
use mathlib.Core.List.{List}
use native.Mathlib.Omega.{arith}
use lib.Dec.{eqb}
use borrow.Author.Tests.{eqb-true}
use Rattle.syntax.specs.Ast.{Sort, Ast, cond, stmts}
use Rattle.syntax.specs.Ast as A
use Rattle.semantics.specs.Program.{Cond, Stmts}
use Rattle.semantics.specs.Program as P
use Rattle.semantics.proofs.Assigned.{Flow, nowhere, at, meet, when, assigned, after_all}
use Rattle.semantics.proofs.Assigned as F
use Rattle.text_rules.specs.Assigned.{at_end, after}
use Rattle.text_rules.specs.Resolve.{part}
use Rattle.text_rules.proofs.Slots.{Slots, slots-rise}
use Rattle.text_rules.proofs.Slots as S

-- ---- statements, in the order of the text

module _ (value means : ℕ → ℕ) where
  unfoldable pub after_each : Ast stmts → ℕ → Flow → Flow
  after_each A.no_stmts v f = f
  after_each (A.more_stmts l s) v f = F.after (part value means s) v (after_each l v f)

  -- and what follows them
  after-each : (l : Ast stmts) (ss : Stmts) (v : ℕ) (f : Flow) → after_all (part value means l ss) v f ≡ after_all ss v (after_each l v f)
  unfolding part after_each after_all
  after-each A.no_stmts ss v f = refl
  after-each (A.more_stmts l s) ss v f = after-each l (P.next (part value means s) ss) v f

  -- in braces nothing does
  after-body : (Q : Flow → Type 0) (l : Ast stmts) (v : ℕ) (f : Flow) → Q (after_each l v f) → Q (after_all (part value means l P.end) v f)
  unfolding after_all
  after-body Q l v f h = subst Q (sym (after-each l P.end v f)) h

-- ---- what the rule says of a flow

-- "where no run comes, V is assigned"
pub data Says : Flow → Bool → Type 0 where
  dead : Says nowhere true
  alive : {b : Bool} → Says (at b) b

says-meet : {f g : Flow} {b c : Bool} → Says f b → Says g c → Says (meet f g) (b && c)
says-meet dead k = k
says-meet (alive {b}) dead = rw and-true alive
says-meet alive alive = alive

says-assigned : (i v : ℕ) {f : Flow} {b : Bool} → Says f b → Says (assigned i v f) (eqb i v || b)
says-assigned i v dead = rw or-true dead
says-assigned i v alive = alive

module _ (value means : ℕ → ℕ) where
  pub says-when : (c : Ast cond) (o : Bool) {f : Flow} {b : Bool} → Says f b → Says (when (part value means c) o f) (at_end c o b)
  unfolding part when at_end
  says-when A.always true h = h
  says-when A.always false h = dead
  says-when A.never true h = dead
  says-when A.never false h = h
  says-when (A.compare x m y) o h = h
  says-when (A.both c d) true h = says-when d true (says-when c true h)
  says-when (A.both c d) false h = says-meet (says-when c false h) (says-when d false (says-when c true h))
  says-when (A.either c d) true h = says-meet (says-when c true h) (says-when d true (says-when c false h))
  says-when (A.either c d) false h = says-when d false (says-when c false h)

-- ---- what is not declared yet

pub data Vacant : Flow → Type 0 where
  unreached : Vacant nowhere
  empty : Vacant (at false)

vacant-meet : {f g : Flow} → Vacant f → Vacant g → Vacant (meet f g)
vacant-meet unreached k = k
vacant-meet empty unreached = empty
vacant-meet empty empty = empty

pub vacant-when : (c : Cond) (o : Bool) {f : Flow} → Vacant f → Vacant (when c o f)
unfolding when
vacant-when (P.const true) true h = h
vacant-when (P.const true) false h = unreached
vacant-when (P.const false) true h = unreached
vacant-when (P.const false) false h = h
vacant-when (P.compare c a b) o h = h
vacant-when (P.and a b) true h = vacant-when b true (vacant-when a true h)
vacant-when (P.and a b) false h = vacant-meet (vacant-when a false h) (vacant-when b false (vacant-when a true h))
vacant-when (P.or a b) true h = vacant-meet (vacant-when a true h) (vacant-when b true (vacant-when a false h))
vacant-when (P.or a b) false h = vacant-when b false (vacant-when a false h)

-- another variable was assigned
vacant-other : (i v : ℕ) → i < v → {f : Flow} → Vacant f → Vacant (assigned i v f)
vacant-other i v l unreached = unreached
vacant-other i v l empty = go (eqb i v) refl
  where
    go : (b : Bool) → eqb i v ≡ b → Vacant (at (b || false))
    go true e = absurd (omega (arith, eqb-true i v e))
    go false e = empty

module _ (value : ℕ → ℕ) (counts : List ℕ) (means : ℕ → ℕ) where
  -- after a statement, statements or a body
  abbrev Then : (k : Sort) → Ast k → ℕ → Flow → Flow
  Then A.expr t v f = f
  Then A.args t v f = f
  Then A.mark t v f = f
  Then A.cond t v f = f
  Then A.stmt t v f = F.after (part value means t) v f
  Then A.stmts t v f = after_each value means t v f
  Then A.body t v f = after_all (part value means t) v f
  Then A.params t v f = f
  Then A.fun t v f = f
  Then A.prog t v f = f

  -- as the rule says
  pub says_then : {k : Sort} {seen seen' : List ℕ} {lo hi : ℕ} {t : Ast k} → Slots counts means k seen lo t seen' hi → (v : ℕ) {f : Flow} {b : Bool} → Says f b
      → Says (Then k t v f) (after means v t b)
  unfolding part F.after after after_each
  says_then S.empty v h = h
  says_then (S.declare e) v h = h
  says_then (S.declare_free e) v h = says-assigned _ v h
  says_then (S.declare_own e) v h = says-assigned _ v h
  says_then (S.assign a m r) v h = says-assigned _ v h
  says_then (S.eval r) v h = h
  says_then (S.block b) v h = says_then b v h
  says_then (S.if_else {c = c} r s t) v h = says-meet (says_then s v (says-when value means c true h)) (says_then t v (says-when value means c false h))
  says_then (S.while {c = c} r s) v h = says-when value means c false h
  says_then (S.return r) v h = dead
  says_then S.fail v h = dead
  says_then S.no_stmts v h = h
  says_then (S.more_stmts l s) v h = says_then s v (says_then l v h)
  says_then (S.braced {l = l} s) v {f} {b} h = after-body value means (λ g. Says g (after means v l b)) l v f (says_then s v h)

  -- what is declared after a part is not assigned by it
  pub still-vacant : {k : Sort} {seen seen' : List ℕ} {lo hi : ℕ} {t : Ast k} → Slots counts means k seen lo t seen' hi → (v : ℕ) → hi ≤ v → {f : Flow} → Vacant f → Vacant (Then k t v f)
  unfolding part F.after after_each
  still-vacant S.empty v h u = u
  still-vacant (S.declare e) v h u = u
  still-vacant (S.declare_free e) v h u = vacant-other _ v (omega (arith, e)) u
  still-vacant (S.declare_own e) v h u = vacant-other _ v (omega (arith, e)) u
  still-vacant (S.assign a m r) v h u = vacant-other _ v (omega arith) u
  still-vacant (S.eval r) v h u = u
  still-vacant (S.block b) v h u = still-vacant b v h u
  still-vacant (S.if_else r s t) v h u =
      vacant-meet (still-vacant s v (omega (arith, slots-rise counts means t)) (vacant-when _ true u)) (still-vacant t v h (vacant-when _ false u))
  still-vacant (S.while r s) v h u = vacant-when _ false u
  still-vacant (S.return r) v h u = unreached
  still-vacant S.fail v h u = unreached
  still-vacant S.no_stmts v h u = u
  still-vacant (S.more_stmts l s) v h u = still-vacant s v h (still-vacant l v (omega (arith, slots-rise counts means s)) u)
  still-vacant (S.braced {l = l} s) v h {f} u = after-body value means Vacant l v f (still-vacant s v h u)
