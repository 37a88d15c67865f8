-- How many values a window has.
use Prim.Native.Nat.{ℕ, zero, suc}
use mathlib.Core.Path.{◌≡◌, refl, ap, ◌∙◌}
use lib.ListN.{length}
use lib.Dec.{ltb, leb-suc-suc}
use lib.IntN.{ℤ, pos, negsuc, suc_ℤ, neg_ℤ, ◌-ℤ◌, suc_ℤ-+ℤ}
use lib.Signed.{le_z}
use Rattle.semantics.specs.Run.{counting, clamp, numbers}
use Rattle.semantics.specs.Search.{to}

counting-length : (z : ℤ) (n : ℕ) → length (counting z n) ≡ n
unfolding counting
counting-length z zero = refl
counting-length z (suc n) = ap suc (counting-length (suc_ℤ z) n)

over : (z : ℤ) → ltb 4096 (clamp (suc_ℤ z)) ≡ le_z (pos 4096) z
unfolding clamp
over (pos n) = leb-suc-suc 4096 n
over (negsuc zero) = refl
over (negsuc (suc n)) = refl

-- a window has over 4,096 values where its ends are as far apart
pub wide : (low high : ℤ) → ltb 4096 (length (numbers (to low high))) ≡ le_z (pos 4096) (high -ℤ low)
unfolding numbers
wide low high =
    ap (ltb 4096) (counting-length low (clamp (suc_ℤ high -ℤ low)) ∙ ap clamp (suc_ℤ-+ℤ high (neg_ℤ low)))
    ∙ over (high -ℤ low)
