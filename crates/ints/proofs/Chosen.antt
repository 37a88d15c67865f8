-- The numbers of comparisons. A `match` that comes to its last arm: the number is none of those before.
use Rattle.std.proofs.Common.{◌≡◌, ℕ, zero, suc, refl}
use Rattle.semantics.specs.Int.{ne}
use Rattle.ints.specs.Numbers.{comparison}

pub last-comparison : (c : ℕ) → (c ≡ 0 → ⊥) → (c ≡ 1 → ⊥) → (c ≡ 2 → ⊥) → (c ≡ 3 → ⊥) → (c ≡ 4 → ⊥) → comparison c ≡ ne
last-comparison zero f g h j k = absurd (f refl)
last-comparison (suc zero) f g h j k = absurd (g refl)
last-comparison (suc (suc zero)) f g h j k = absurd (h refl)
last-comparison (suc (suc (suc zero))) f g h j k = absurd (j refl)
last-comparison (suc (suc (suc (suc zero)))) f g h j k = absurd (k refl)
last-comparison (suc (suc (suc (suc (suc n))))) f g h j k = refl
