-- What a solver must keep to, so that the search with it finds the plan list.
use Prim.Native.Nat.{ℕ}
use mathlib.Core.Path.{◌≡◌, refl, subst}
use mathlib.Core.Bool.{Bool, true, false, not, cond}
use mathlib.Core.Option.{Option, none, some}
use mathlib.Core.List.{List}
use native.Mathlib.Omega.{arith}
use lib.ListN.{get_or, length}
use lib.IntN.{ℤ}
use lib.Dec.{T}
use Rattle.semantics.specs.Int.{Cmp, holds}
use Rattle.semantics.specs.Program.{Window}
use Rattle.semantics.specs.Search.{Value, under, all32, range, negated, always, decided, Solver, by_ranges, in_use}
use Rattle.semantics.proofs.Range.{Sub, Within, range-sound}
use Rattle.semantics.proofs.Narrow.{always-sound, holds_negated, narrowed-sound, narrowed-length, narrowed-within}

-- as many windows, each within the one before
pub record Narrower (us ws : List Window) : Type 0 where
  pub many : length us ≡ length ws
  pub each : (i : ℕ) → Sub (get_or us i all32) (get_or ws i all32)

-- whether a setting passes the comparison of two values
abbrev pub passes : Cmp → Value → Value → List ℤ → Bool
passes c a b s = holds c (under s a) (under s b)

pub record Sound (v : Solver) : Type 0 where
  -- an outcome that is decided is that of every setting in the windows
  pub decides : (c : Cmp) (a b : Value) (ws : List Window) (o : Bool) → v.decide c a b ws ≡ some o → (s : List ℤ) → Within ws s → passes c a b s ≡ o
  -- narrowing loses no setting that passes
  pub keeps : (c : Cmp) (a b : Value) (ws us : List Window) → v.narrow c a b ws ≡ some us → (s : List ℤ) → Within ws s → T (passes c a b s) → Within us s
  -- and never widens
  pub narrows : (c : Cmp) (a b : Value) (ws us : List Window) → v.narrow c a b ws ≡ some us → Narrower us ws
  -- a side is closed only where no setting passes
  pub closes : (c : Cmp) (a b : Value) (ws : List Window) → v.narrow c a b ws ≡ none → (s : List ℤ) → Within ws s → T (passes c a b s) → ⊥

-- ---- document 01's solver is sound

true_of : (b : Bool) → T b → b ≡ true
true_of true t = refl
true_of false t = absurd t

false_of : (b : Bool) → T (not b) → b ≡ false
false_of true t = absurd t
false_of false t = refl

decided-right : (x y : Bool) (o p : Bool) → cond x (some true) (cond y (some false) none) ≡ some o → (T x → p ≡ true) → (T y → p ≡ false) → p ≡ o
decided-right true y o p e f g = let h = f tt in cc
decided-right false true o p e f g = let h = g tt in cc
decided-right false false o p e f g = absurd (clash e)
  where
    clash : ◌≡◌ {A = Option Bool} none (some o) → ⊥
    clash e = let z : ◌≡◌ {A = ℕ} 0 1 = cc in omega arith

pub by_ranges-sound : Sound by_ranges
unfolding decided
by_ranges-sound = record {
  decides = λ c a b ws o e s w. decided-right (always c (range ws a) (range ws b)) (always (negated c) (range ws a) (range ws b)) o (passes c a b s) e
      (λ t. true_of (passes c a b s) (always-sound c (range ws a) (range ws b) (under s a) (under s b) (range-sound ws s w a) (range-sound ws s w b) t))
      (λ t. false_of (passes c a b s) (subst T (holds_negated c (under s a) (under s b)) (always-sound (negated c) (range ws a) (range ws b) (under s a) (under s b) (range-sound ws s w a) (range-sound ws s w b) t)));
  keeps = λ c a b ws us e s w t. subst (λ vs. Within vs s) (some-path e) (narrowed-sound c a b ws s w t);
  narrows = λ c a b ws us e. subst (λ vs. Narrower vs ws) (some-path e) (record { many = narrowed-length c a b ws; each = narrowed-within c a b ws });
  closes = λ c a b ws e s w t. clash e;
}
  where
    some-path : {us vs : List Window} → ◌≡◌ {A = Option (List Window)} (some us) (some vs) → us ≡ vs
    some-path e = cc

    clash : {us : List Window} → ◌≡◌ {A = Option (List Window)} (some us) none → ⊥
    clash e = let z : ◌≡◌ {A = ℕ} 0 1 = cc in omega arith

-- the solver that list uses
pub in_use-sound : Sound in_use
in_use-sound = by_ranges-sound
