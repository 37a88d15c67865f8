-- What stands in slices for the values and meanings of tokens need only agree with them below the count of tokens: then the tree is as sound, and its program is the same.
use Rattle.std.proofs.Common.{◌≡◌, ℕ, suc, ◌+◌, ◌<◌, Bool, T, List, ◌∷◌, pos, ◌-ℤ◌, refl, ap, ◌∙◌, subst, ap₂, arith}
use mathlib.Core.Option.{Option}
use lib.Signed.{le_z}
use Rattle.syntax.specs.Ast.{Sort, Ast, prog, low_first, low_number, high_number}
use Rattle.syntax.specs.Ast as A
use Rattle.semantics.specs.Int.{add, sub}
use Rattle.semantics.specs.Program as P
use Rattle.semantics.specs.Program.{Expr, Exprs, Cond, Stmt, Stmts, slot}
use Rattle.text_rules.specs.Own.{signed, pair_at}
use Rattle.text_rules.specs.Resolve.{Part, part, multiplied, comparison}
use Rattle.compiler.specs.Sound.{Sound}
use Rattle.events.specs.Walk.{Below}

-- two functions that agree below m
pub record Agree (m : ℕ) (f g : ℕ → ℕ) : Type 0 where
  pub at : (i : ℕ) → i < m → f i ≡ g i

-- equal parts; of arguments, statements and functions: whatever follows them
abbrev SameAs : (s : Sort) → Part s → Part s → Type 0
SameAs A.expr x y = x ≡ y
SameAs A.args f g = (es : Exprs) → f es ≡ g es
SameAs A.mark x y = x ≡ y
SameAs A.cond x y = x ≡ y
SameAs A.stmt x y = x ≡ y
SameAs A.stmts f g = (ss : Stmts) → f ss ≡ g ss
SameAs A.body x y = x ≡ y
SameAs A.params x y = x ≡ y
SameAs A.fun x y = x ≡ y
SameAs A.prog f g = (bs : List Stmts) → f bs ≡ g bs

-- ends with the same numbers go upward alike
ends_same : (a b : Bool) {x x' y y' : ℕ} → x ≡ x' → y ≡ y' → T (le_z (signed a x) (signed b y)) → T (le_z (signed a x') (signed b y'))
ends_same a b {x' = x'} {y = y} p q h = subst (λ (z : ℕ). T (le_z (signed a x') (signed b z))) q (subst (λ (z : ℕ). T (le_z (signed a z) (signed b y))) p h)

module _ (m : ℕ) (value means value' means' : ℕ → ℕ) (v : Agree m value value') (n : Agree m means means') where
  pub sound-same : {s : Sort} (t : Ast s) → Sound m value means t → Sound m value' means' t
  unfolding Sound
  sound-same (A.number i) h = (h.0, omega (arith, h.1, v.at (i) h.0))
  sound-same (A.negative i) h = (h.0, omega (arith, h.1, v.at (i + 1) h.0))
  sound-same (A.name i) h = (h.0, omega (arith, h.1, n.at (i) h.0))
  sound-same (A.call i a) h = (h.0, omega (arith, h.1, n.at (i) h.0), h.2, sound-same a h.3)
  sound-same (A.bracket i e) h = sound-same e h
  sound-same (A.times o a b) h = (sound-same a h.0, sound-same b h.1)
  sound-same (A.plus a b) h = (sound-same a h.0, sound-same b h.1)
  sound-same (A.minus a b) h = (sound-same a h.0, sound-same b h.1)
  sound-same A.no_args h = tt
  sound-same (A.more_args l e) h = (sound-same l h.0, sound-same e h.1)
  sound-same (A.cmp_mark o) h = tt
  sound-same A.always h = tt
  sound-same A.never h = tt
  sound-same (A.compare a o b) h = (sound-same a h.0, sound-same b h.1)
  sound-same (A.both a b) h = (sound-same a h.0, sound-same b h.1)
  sound-same (A.either a b) h = (sound-same a h.0, sound-same b h.1)
  sound-same (A.empty i) h = tt
  sound-same (A.declare i) h = tt
  sound-same (A.declare_free i) h = (h.0, omega (arith, h.1, n.at (i + 1) h.0))
  sound-same (A.declare_own i a b) h =
      let l = v.at (low_number (low_first i) a) (omega (arith, h.0)) in
      let r = v.at (high_number (low_first i) a b) h.0 in
      (h.0, omega (arith, h.1, n.at (i + 1) (omega (arith, h.0))), omega (arith, h.2, l), omega (arith, h.3, r), ends_same a b l r h.4)
  sound-same (A.assign i e) h = (h.0, omega (arith, h.1, n.at (i) h.0), sound-same e h.2)
  sound-same (A.eval e) h = sound-same e h
  sound-same (A.block i b) h = sound-same b h
  sound-same (A.if_else i c s t) h = (sound-same c h.0, sound-same s h.1, sound-same t h.2)
  sound-same (A.while i c s) h = (sound-same c h.0, sound-same s h.1)
  sound-same (A.return i e) h = sound-same e h
  sound-same (A.fail i) h = tt
  sound-same A.no_stmts h = tt
  sound-same (A.more_stmts l s) h = (sound-same l h.0, sound-same s h.1)
  sound-same (A.braced l j) h = sound-same l h
  sound-same A.no_params h = tt
  sound-same (A.more_params l i) h = tt
  sound-same (A.function i p b) h = sound-same b h
  sound-same A.no_funs h = tt
  sound-same (A.more_funs l f) h = (sound-same l h.0, sound-same f h.1)

  pub part_same : {s : Sort} (t : Ast s) → Below m t → SameAs s (part value means t) (part value' means' t)
  unfolding part Below
  part_same (A.number i) w = ap (λ (k : ℕ). P.number (pos k)) (v.at i w)
  part_same (A.negative i) w = ap (λ (k : ℕ). P.number (pos 0 -ℤ pos k)) (v.at (i + 1) w)
  part_same (A.name i) w = ap (λ (k : ℕ). P.name (slot k)) (n.at i w)
  part_same (A.call i a) w = ap₂ (λ (k : ℕ) (es : Exprs). P.call k es) (n.at i w.0) (part_same a w.1 P.none)
  part_same (A.bracket i e) w = part_same e w.1
  part_same (A.times o a b) w = ap₂ (λ (x y : Expr). P.op (multiplied o) x y) (part_same a w.0) (part_same b w.1)
  part_same (A.plus a b) w = ap₂ (λ (x y : Expr). P.op add x y) (part_same a w.0) (part_same b w.1)
  part_same (A.minus a b) w = ap₂ (λ (x y : Expr). P.op sub x y) (part_same a w.0) (part_same b w.1)
  part_same A.no_args w = λ es. refl
  part_same (A.more_args l e) w = λ es. part_same l w.0 (P.more (part value means e) es) ∙ ap (λ (x : Expr). part value' means' l (P.more x es)) (part_same e w.1)
  part_same (A.cmp_mark o) w = refl
  part_same A.always w = refl
  part_same A.never w = refl
  part_same (A.compare a (A.cmp_mark o) b) w = ap₂ (λ (x y : Expr). P.compare (comparison o) x y) (part_same a w.0) (part_same b w.1)
  part_same (A.both a b) w = ap₂ (λ (x y : Cond). P.and x y) (part_same a w.0) (part_same b w.1)
  part_same (A.either a b) w = ap₂ (λ (x y : Cond). P.or x y) (part_same a w.0) (part_same b w.1)
  part_same (A.empty i) w = refl
  part_same (A.declare i) w = ap (λ (k : ℕ). P.declare (slot k)) (n.at (i + 1) w)
  part_same (A.declare_free i) w = ap (λ (k : ℕ). P.unknown (slot k) Option.none) (n.at (i + 1) w)
  part_same (A.declare_own i a b) w =
      ap (λ (k : ℕ). P.unknown (slot k) (Option.some (pair_at value (low_first i) a b))) (n.at (i + 1) (omega (arith, w)))
      ∙ ap₂ (λ (x y : ℕ). P.unknown (slot (means' (i + 1))) (Option.some (record { low = signed a x; high = signed b y }))) (v.at (low_number (low_first i) a) (omega (arith, w))) (v.at (high_number (low_first i) a b) w)
  part_same (A.assign i e) w = ap₂ (λ (k : ℕ) (x : Expr). P.assign (slot k) x) (n.at i w.0) (part_same e w.1)
  part_same (A.eval e) w = ap (λ (x : Expr). P.eval x) (part_same e w)
  part_same (A.block i b) w = ap (λ (x : Stmts). P.block x) (part_same b w.1)
  part_same (A.if_else i c s t) w = ap₂ (λ (x : Cond) (y : Stmt). P.if x y (part value means t)) (part_same c w.1.0) (part_same s w.1.1.0) ∙ ap (λ (z : Stmt). P.if (part value' means' c) (part value' means' s) z) (part_same t w.1.1.1)
  part_same (A.while i c s) w = ap₂ (λ (x : Cond) (y : Stmt). P.while x y) (part_same c w.1.0) (part_same s w.1.1)
  part_same (A.return i e) w = ap (λ (x : Expr). P.return x) (part_same e w.1)
  part_same (A.fail i) w = refl
  part_same A.no_stmts w = λ ss. refl
  part_same (A.more_stmts l s) w = λ ss. part_same l w.0 (P.next (part value means s) ss) ∙ ap (λ (x : Stmt). part value' means' l (P.next x ss)) (part_same s w.1)
  part_same (A.braced l j) w = part_same l w.0 P.end
  part_same A.no_params w = refl
  part_same (A.more_params l i) w = ap suc (part_same l w.0)
  part_same (A.function i p b) w = part_same b w.1.1
  part_same A.no_funs w = λ bs. refl
  part_same (A.more_funs l f) w = λ bs. part_same l w.0 (part value means f ∷ bs) ∙ ap (λ (x : Stmts). part value' means' l (x ∷ bs)) (part_same f w.1)
