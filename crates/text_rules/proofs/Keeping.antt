-- A body that keeps rule 17 and whose names are resolved keeps, as a part of the program, to what makes runs sure.
use Prim.Native.Nat.{ℕ, ◌+◌, ◌≤◌, ◌<◌}
use mathlib.Core.Path.{◌≡◌}
use mathlib.Core.Bool.{Bool, true, false}
use mathlib.Core.List.{List, [], ◌∷◌, ◌++◌}
use native.Mathlib.Omega.{arith}
use lib.ListN.{get_or}
use lib.Dec.{T, ltb, ltb→lt}
use Rattle.syntax.specs.Ast.{Sort, Ast, args, cond, body, params}
use Rattle.syntax.specs.Ast as A
use Rattle.events.specs.Event.{count}
use Rattle.semantics.specs.Program.{Exprs, Stmts}
use Rattle.semantics.specs.Program as P
use Rattle.semantics.proofs.Assigned.{Flow, at, Flows, when, Assigned, Unassigned, many, KeepsE, KeepsEs, KeepsC, KeepsS, KeepsSs, parameters}
use Rattle.text_rules.specs.Assigned.{at_end, parameter_count, unset}
use Rattle.text_rules.specs.Assigned as R
use Rattle.text_rules.specs.Rules.{most_declarations}
use Rattle.text_rules.specs.Resolve.{part}
use Rattle.text_rules.proofs.Counts.{nil-left, nil-right}
use Rattle.text_rules.proofs.Slots.{Reads, Slots, slots-rise}
use Rattle.text_rules.proofs.Slots as S
use Rattle.text_rules.proofs.Bodies.{ResolvedBody}
use Rattle.text_rules.proofs.Flows.{after_each, Says, dead, alive, says-when, says_then, Vacant, unreached, empty, vacant-when, still-vacant}

-- a name that is no fault of rule 17
read : {f : Flow} {b : Bool} (i : ℕ) → Says f b → mathlib.Core.Bool.cond b [] (i ∷ []) ≡ [] → Assigned f
read i dead e = tt
read i (alive {b = true}) e = tt
read i (alive {b = false}) e =
    let z : ◌≡◌ {A = ℕ} 0 1 = cc in
    absurd (omega arith)

vacant-unassigned : {f : Flow} → Vacant f → Unassigned f
vacant-unassigned unreached = tt
vacant-unassigned empty = tt

-- as many arguments as the tree has
many-count : (value means : ℕ → ℕ) (a : Ast args) (es : Exprs) → many (part value means a es) ≡ count a + many es
unfolding part many count
many-count value means A.no_args es = omega arith
many-count value means (A.more_args l e) es = omega (arith, many-count value means l (P.more (part value means e) es))

-- two parts, of which neither has a fault
both : (xs ys : List ℕ) {P Q : Type 0} → (xs ≡ [] → P) → (ys ≡ [] → Q) → xs ++ ys ≡ [] → P × Q
both xs ys f g u = (f (nil-left xs ys u), g (nil-right xs ys u))

abbrev pub arity_in : List ℕ → ℕ → ℕ
arity_in counts g = get_or counts g 0

module _ (value : ℕ → ℕ) (counts : List ℕ) (means : ℕ → ℕ) where
  -- what a part keeps to, where φ is known before it. Of arguments and statements: if what follows them keeps to it, then so does all
  abbrev Keeps : (k : Sort) → Ast k → Flows → Type 0
  Keeps A.expr t φ = KeepsE (arity_in counts) (part value means t) φ
  Keeps A.args t φ = (es : Exprs) → KeepsEs (arity_in counts) es φ → KeepsEs (arity_in counts) (part value means t es) φ
  Keeps A.mark t φ = Unit {0}
  Keeps A.cond t φ = KeepsC (arity_in counts) (part value means t) φ
  Keeps A.stmt t φ = KeepsS (arity_in counts) (part value means t) φ
  Keeps A.stmts t φ = (ss : Stmts) → KeepsSs (arity_in counts) ss (λ v. after_each value means t v (φ v)) → KeepsSs (arity_in counts) (part value means t ss) φ
  Keeps A.body t φ = KeepsSs (arity_in counts) (part value means t) φ
  Keeps A.params t φ = Unit {0}
  Keeps A.fun t φ = Unit {0}
  Keeps A.prog t φ = Unit {0}

  -- the rule says `set` where φ is known
  abbrev SaysOf : Flows → (ℕ → Bool) → Type 0
  SaysOf φ set = (v : ℕ) → Says (φ v) (set v)

  -- after a condition
  abbrev come : Ast cond → Bool → Flows → Flows
  come c o φ v = when (part value means c) o (φ v)

  reads-keep : {seen : List ℕ} {lo : ℕ} {k : Sort} {t : Ast k} → Reads counts means seen lo k t → (φ : Flows) (set : ℕ → Bool) → SaysOf φ set → unset means t set ≡ [] → Keeps k t φ
  unfolding part unset KeepsE KeepsC many
  reads-keep S.number φ set h u = tt
  reads-keep S.negative φ set h u = tt
  reads-keep (S.name {i = i} l m) φ set h u = read i (h (means i)) u
  reads-keep (S.call {a = a} l e r) φ set h u = (omega (arith, many-count value means a P.none, e), reads-keep r φ set h u P.none tt)
  reads-keep (S.bracket r) φ set h u = reads-keep r φ set h u
  reads-keep (S.times r q) φ set h u = both _ _ (reads-keep r φ set h) (reads-keep q φ set h) u
  reads-keep (S.plus r q) φ set h u = both _ _ (reads-keep r φ set h) (reads-keep q φ set h) u
  reads-keep (S.minus r q) φ set h u = both _ _ (reads-keep r φ set h) (reads-keep q φ set h) u
  reads-keep S.no_args φ set h u = λ es k. k
  reads-keep (S.more_args {l = l} r q) φ set h u = λ es k. reads-keep r φ set h (nil-left _ _ u) (P.more _ es) (reads-keep q φ set h (nil-right (unset means l set) _ u), k)
  reads-keep S.always φ set h u = tt
  reads-keep S.never φ set h u = tt
  reads-keep (S.compare r q) φ set h u = both _ _ (reads-keep r φ set h) (reads-keep q φ set h) u
  reads-keep (S.both {a = c} r q) φ set h u = both _ _ (reads-keep r φ set h) (reads-keep q (come c true φ) (λ v. at_end c true (set v)) (λ v. says-when value means c true (h v))) u
  reads-keep (S.either {a = c} r q) φ set h u = both _ _ (reads-keep r φ set h) (reads-keep q (come c false φ) (λ v. at_end c false (set v)) (λ v. says-when value means c false (h v))) u

  -- what is declared from lo on is not assigned
  abbrev VacantFrom : ℕ → Flows → Type 0
  VacantFrom lo φ = (v : ℕ) → lo ≤ v → Vacant (φ v)

  slots-keep : {k : Sort} {seen seen' : List ℕ} {lo hi : ℕ} {t : Ast k} → Slots counts means k seen lo t seen' hi → hi ≤ most_declarations
      → (φ : Flows) (set : ℕ → Bool) → SaysOf φ set → VacantFrom lo φ → unset means t set ≡ [] → Keeps k t φ
  unfolding part unset KeepsS after_each
  slots-keep S.empty m φ set h n u = tt
  slots-keep (S.declare e) m φ set h n u = vacant-unassigned (n _ (omega (arith, e)))
  slots-keep (S.declare_free e) m φ set h n u = omega (arith, e)
  slots-keep (S.declare_own e) m φ set h n u = omega (arith, e)
  slots-keep (S.assign l s r) m φ set h n u = (omega arith, reads-keep r φ set h u)
  slots-keep (S.eval r) m φ set h n u = reads-keep r φ set h u
  slots-keep (S.block b) m φ set h n u = slots-keep b m φ set h n u
  slots-keep (S.if_else {mid = mid} {c = c} {s = x} r s t) m φ set h n u =
      let i = slots-rise counts means s in
      let j = slots-rise counts means t in
      let w : unset means c set ++ unset means x (λ v. at_end c true (set v)) ≡ [] = nil-left _ _ u in
      let z : VacantFrom mid (come c false φ) = λ v l. vacant-when _ false (n v (omega arith)) in (
        reads-keep r φ set h (nil-left _ _ w),
        slots-keep s (omega arith) (come c true φ) (λ v. at_end c true (set v)) (λ v. says-when value means c true (h v)) (λ v l. vacant-when _ true (n v l)) (nil-right (unset means c set) _ w),
        slots-keep t m (come c false φ) (λ v. at_end c false (set v)) (λ v. says-when value means c false (h v)) z (nil-right (unset means c set ++ unset means x (λ v. at_end c true (set v))) _ u),
      )
  slots-keep (S.while {c = c} r s) m φ set h n u =
      both _ _ (reads-keep r φ set h) (slots-keep s m (come c true φ) (λ v. at_end c true (set v)) (λ v. says-when value means c true (h v)) (λ v l. vacant-when _ true (n v l))) u
  slots-keep (S.return r) m φ set h n u = reads-keep r φ set h u
  slots-keep S.fail m φ set h n u = tt
  slots-keep S.no_stmts m φ set h n u = λ ss k. k
  slots-keep (S.more_stmts {mid = mid} {l = l} a s) m φ set h n u = λ ss k.
      let i = slots-rise counts means a in
      let j = slots-rise counts means s in
      let z : VacantFrom mid (λ v. after_each value means l v (φ v)) = λ v g. still-vacant value counts means a v g (n v (omega arith)) in
      let b = slots-keep s m (λ v. after_each value means l v (φ v)) (λ v. R.after means v l (set v)) (λ v. says_then value counts means a v (h v)) z (nil-right (unset means l set) _ u) in
      slots-keep a (omega arith) φ set h n (nil-left _ _ u) (P.next _ ss) (b, k)
  slots-keep (S.braced l) m φ set h n u = slots-keep l m φ set h n u P.end tt

  -- ---- a function

  vacant-parameters : (n : ℕ) → VacantFrom n (parameters n)
  vacant-parameters n v l = go (ltb v n) (ltb→lt v n)
    where
      go : (b : Bool) → (T b → v < n) → Vacant (at b)
      go true h = let k = h tt in absurd (omega arith)
      go false h = empty

  -- it has no more parameters than it has places
  pub parameters-few : {q : Ast params} {b : Ast body} → ResolvedBody counts means q b → parameter_count q ≤ most_declarations
  parameters-few r = omega (arith, slots-rise counts means r.slots, r.few)

  pub body-keeps : {q : Ast params} {b : Ast body} → ResolvedBody counts means q b → unset means b (λ v. ltb v (parameter_count q)) ≡ []
      → KeepsSs (arity_in counts) (part value means b) (parameters (parameter_count q))
  body-keeps {q} r u = slots-keep r.slots r.few (parameters (parameter_count q)) (λ v. ltb v (parameter_count q)) (λ v. alive) (vacant-parameters (parameter_count q)) u
