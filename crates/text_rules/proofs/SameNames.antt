-- Rule 17 asks only what the names of the text mean: where two readings of names agree below m, and no token of a tree is past m, they find the same.
use Prim.Native.Nat.{ℕ, ◌+◌, ◌<◌}
use mathlib.Core.Path.{◌≡◌, refl, ap, ap₂, ◌∙◌}
use mathlib.Core.Bool.{Bool, true, false, cond, ◌&&◌, ◌||◌}
use mathlib.Core.List.{[], ◌∷◌, ◌++◌}
use native.Mathlib.Omega.{arith}
use lib.Dec.{eqb}
use Rattle.syntax.specs.Ast.{Sort, Ast}
use Rattle.syntax.specs.Ast as A
use Rattle.events.specs.Walk.{Below}
use Rattle.text_rules.specs.Assigned.{at_end, after, unset, unassigned}

module _ (one other : ℕ → ℕ) (m : ℕ) (agree : (i : ℕ) → i < m → one i ≡ other i) where
  after_same : {s : Sort} (v : ℕ) (t : Ast s) {a b : Bool} → Below m t → a ≡ b → after one v t a ≡ after other v t b
  unfolding after Below
  after_same v (A.number i) h q = q
  after_same v (A.negative i) h q = q
  after_same v (A.name i) h q = q
  after_same v (A.call i a) h q = q
  after_same v (A.bracket i e) h q = q
  after_same v (A.times o x y) h q = q
  after_same v (A.plus x y) h q = q
  after_same v (A.minus x y) h q = q
  after_same v A.no_args h q = q
  after_same v (A.more_args l e) h q = q
  after_same v (A.cmp_mark o) h q = q
  after_same v A.always h q = q
  after_same v A.never h q = q
  after_same v (A.compare x o y) h q = q
  after_same v (A.both c d) h q = q
  after_same v (A.either c d) h q = q
  after_same v (A.empty i) h q = q
  after_same v (A.declare i) h q = q
  after_same v (A.declare_free i) h q = ap₂ (λ (n : ℕ) (x : Bool). eqb n v || x) (agree (i + 1) h) q
  after_same v (A.declare_own i a b) h q = ap₂ (λ (n : ℕ) (x : Bool). eqb n v || x) (agree (i + 1) (omega (arith, h))) q
  after_same v (A.assign i e) h q = ap₂ (λ (n : ℕ) (x : Bool). eqb n v || x) (agree i h.0) q
  after_same v (A.eval e) h q = q
  after_same v (A.block i l) h q = after_same v l h.1 q
  after_same v (A.if_else i c s t) h q = ap₂ ◌&&◌ (after_same v s h.1.1.0 (ap (at_end c true) q)) (after_same v t h.1.1.1 (ap (at_end c false) q))
  after_same v (A.while i c s) h q = ap (at_end c false) q
  after_same v (A.return i e) h q = refl
  after_same v (A.fail i) h q = refl
  after_same v A.no_stmts h q = q
  after_same v (A.more_stmts l s) h q = after_same v s h.1 (after_same v l h.0 q)
  after_same v (A.braced l j) h q = after_same v l h.0 q
  after_same v A.no_params h q = q
  after_same v (A.more_params l i) h q = q
  after_same v (A.function i p l) h q = q
  after_same v A.no_funs h q = q
  after_same v (A.more_funs p f) h q = q

  unset-same : {s : Sort} (t : Ast s) {f g : ℕ → Bool} → Below m t → ((v : ℕ) → f v ≡ g v) → unset one t f ≡ unset other t g
  unfolding unset Below
  unset-same (A.number i) h q = refl
  unset-same (A.negative i) h q = refl
  unset-same (A.name i) {f = f} h q = ap (λ (b : Bool). cond b [] (i ∷ [])) (ap f (agree i h) ∙ q (other i))
  unset-same (A.call i a) h q = unset-same a h.1 q
  unset-same (A.bracket i e) h q = unset-same e h.1 q
  unset-same (A.times o x y) h q = ap₂ ◌++◌ (unset-same x h.0 q) (unset-same y h.1 q)
  unset-same (A.plus x y) h q = ap₂ ◌++◌ (unset-same x h.0 q) (unset-same y h.1 q)
  unset-same (A.minus x y) h q = ap₂ ◌++◌ (unset-same x h.0 q) (unset-same y h.1 q)
  unset-same A.no_args h q = refl
  unset-same (A.more_args l e) h q = ap₂ ◌++◌ (unset-same l h.0 q) (unset-same e h.1 q)
  unset-same (A.cmp_mark o) h q = refl
  unset-same A.always h q = refl
  unset-same A.never h q = refl
  unset-same (A.compare x o y) h q = ap₂ ◌++◌ (unset-same x h.0 q) (unset-same y h.1 q)
  unset-same (A.both c d) h q = ap₂ ◌++◌ (unset-same c h.0 q) (unset-same d h.1 (λ v. ap (at_end c true) (q v)))
  unset-same (A.either c d) h q = ap₂ ◌++◌ (unset-same c h.0 q) (unset-same d h.1 (λ v. ap (at_end c false) (q v)))
  unset-same (A.empty i) h q = refl
  unset-same (A.declare i) h q = refl
  unset-same (A.declare_free i) h q = refl
  unset-same (A.declare_own i a b) h q = refl
  unset-same (A.assign i e) h q = unset-same e h.1 q
  unset-same (A.eval e) h q = unset-same e h q
  unset-same (A.block i l) h q = unset-same l h.1 q
  unset-same (A.if_else i c s t) h q = ap₂ ◌++◌ (ap₂ ◌++◌ (unset-same c h.1.0 q) (unset-same s h.1.1.0 (λ v. ap (at_end c true) (q v)))) (unset-same t h.1.1.1 (λ v. ap (at_end c false) (q v)))
  unset-same (A.while i c s) h q = ap₂ ◌++◌ (unset-same c h.1.0 q) (unset-same s h.1.1 (λ v. ap (at_end c true) (q v)))
  unset-same (A.return i e) h q = unset-same e h.1 q
  unset-same (A.fail i) h q = refl
  unset-same A.no_stmts h q = refl
  unset-same (A.more_stmts l s) h q = ap₂ ◌++◌ (unset-same l h.0 q) (unset-same s h.1 (λ v. after_same v l h.0 (q v)))
  unset-same (A.braced l j) h q = unset-same l h.0 q
  unset-same A.no_params h q = refl
  unset-same (A.more_params l i) h q = refl
  unset-same (A.function i p l) h q = unset-same l h.1.1 (λ v. refl)
  unset-same A.no_funs h q = refl
  unset-same (A.more_funs p f) h q = ap₂ ◌++◌ (unset-same p h.0 q) (unset-same f h.1 q)

  pub same-unassigned : (p : Ast A.prog) → Below m p → unassigned one p ≡ unassigned other p
  same-unassigned p h = unset-same p h (λ v. refl)
