-- A comparison of two numbers is decided: it has the outcome that it has of them.
use mathlib.Core.Path.{◌≡◌, refl, sym, ap, subst, ◌∙◌}
use mathlib.Core.Bool.{Bool, true, false, not}
use mathlib.Core.Option.{some}
use lib.Dec.{T}
use lib.IntN.{ℤ}
use native.Mathlib.Omega.{arith}
use Rattle.semantics.specs.Int.{Cmp, holds}
use Rattle.semantics.specs.Search.{to, negated, decided}
use Rattle.semantics.proofs.Order.{antisym}
use Rattle.semantics.proofs.Range.{In}
use Rattle.semantics.proofs.Narrow.{holds_negated}
use Rattle.semantics.proofs.Exact.{Always, decided-true, decided-false}

only : (x z : ℤ) → In (to x x) z → x ≡ z
only x z i = antisym x z i.least i.most

always-of : (c : Cmp) (x y : ℤ) → T (holds c x y) → Always c (to x x) (to y y)
always-of c x y t v w i j = subst (λ (y : ℤ). T (holds c v y)) (only y w j) (subst (λ (x : ℤ). T (holds c x y)) (only x v i) t)

pub decided-known : (c : Cmp) (x y : ℤ) → decided c (to x x) (to y y) ≡ some (holds c x y)
decided-known c x y = by (holds c x y) refl
  where
    by : (o : Bool) → holds c x y ≡ o → decided c (to x x) (to y y) ≡ some (holds c x y)
    by true e = (decided-true c (to x x) (to y y) (omega arith) (omega arith)).1 (always-of c x y (subst T (sym e) tt)) ∙ ap some (sym e)
    by false e = (decided-false c (to x x) (to y y) (omega arith) (omega arith)).1 (always-of (negated c) x y (subst T (sym (holds_negated c x y ∙ ap not e)) tt)) ∙ ap some (sym e)
