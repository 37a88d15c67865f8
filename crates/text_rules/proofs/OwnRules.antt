-- What the rules 3 and 18 say of the own pairs of a text: they lie in 32 bits, and go upward.
use Prim.Native.Nat.{ℕ, zero, suc, ◌-◌, ◌<◌}
use mathlib.Core.Path.{◌≡◌, sym, ap, ◌∙◌, subst}
use mathlib.Core.Bool.{Bool, true, false, cond, not}
use mathlib.Core.List.{List, [], ◌∷◌}
use native.Mathlib.Omega.{arith}
use lib.Dec.{T, le→leb}
use lib.IntN.{ℤ, pos, negsuc, ◌-ℤ◌}
use lib.Signed.{lt_z, le_z, lt_z_no}
use borrow.Author.Tests.{lt-ltb}
use Rattle.semantics.specs.Program.{Window}
use Rattle.semantics.specs.Demand.{In32}
use Rattle.text_rules.specs.Own.{Own, signed, pair_at, breach, breaching, is_reversed}
use Rattle.text_rules.specs.Scan.{when}
use Rattle.text_rules.proofs.Counts.{nil-left, nil-right}
use Rattle.text_rules.proofs.Pairs.{Each}

-- ---- 32 bits

pub negated-is : (n : ℕ) → pos 0 -ℤ pos (suc n) ≡ negsuc n
negated-is n =
    let e : suc n - 1 ≡ n = omega arith in
    ap (λ (b : Bool). cond b (negsuc (suc n - 1)) (pos (0 - suc n))) (lt-ltb 0 (suc n) (omega arith)) ∙ ap negsuc e

end-32 : (a : Bool) (v : ℕ) → v < 2147483648 → T (le_z (negsuc 2147483647) (signed a v)) × T (le_z (signed a v) (pos 2147483647))
end-32 true zero h = (tt, tt)
end-32 true (suc n) h = subst (λ (z : ℤ). T (le_z (negsuc 2147483647) z) × T (le_z z (pos 2147483647))) (sym (negated-is n)) (le→leb n 2147483647 (omega arith), tt)
end-32 false v h = (tt, le→leb v 2147483647 (omega arith))

pub each-32 : (value : ℕ → ℕ) → ((i : ℕ) → value i < 2147483648) → (os : List Own) → Each In32 value os
unfolding Each
each-32 value small [] = tt
each-32 value small (o ∷ os) = (((end-32 o.low _ (small _)).0, (end-32 o.high _ (small _)).1), each-32 value small os)

-- ---- upward

abbrev pub Rises : Window → Type 0
Rises w = T (le_z w.low w.high)

unbroken : (a b : ℤ) (i : ℕ) → when (lt_z b a) i ≡ [] → T (le_z a b)
unbroken a b i e = (lt_z_no {a = b} {b = a} (go (lt_z b a) e)).le
  where
    go : (t : Bool) → when t i ≡ [] → T (not t)
    go true q = absurd (let z : ◌≡◌ {A = ℕ} 0 1 = cc in omega arith)
    go false q = tt

pub each-rises : (value : ℕ → ℕ) (os : List Own) → breaching value is_reversed os ≡ [] → Each Rises value os
unfolding Each breaching
each-rises value [] e = tt
each-rises value (o ∷ os) e = let w = pair_at value o.token o.low o.high in (unbroken w.low w.high o.token (nil-left (breach value is_reversed o) (breaching value is_reversed os) e), each-rises value os (nil-right (breach value is_reversed o) (breaching value is_reversed os) e))
