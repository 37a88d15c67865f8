-- The eight pairs, read as windows.
use Prim.Native.Nat.{ℕ, zero, suc, ◌<◌}
use mathlib.Core.Path.{◌≡◌, refl, sym, ap, ◌∙◌, subst}
use mathlib.Core.List.{List, [], ◌∷◌, ◌++◌}
use lib.ListN.{set, take, length, length-map}
use lib.Seq.{take-suc-set}
use lib.IntN.{ℤ}
use Rattle.semantics.specs.Program.{Window}
use Rattle.intervals.specs.Meaning.{of_pair, of_pairs}

pub pairs_set : (ps : List (List ℤ)) (i : ℕ) (p : List ℤ) → of_pairs (set ps i p) ≡ set (of_pairs ps) i (of_pair p)
pairs_set [] i p = refl
pairs_set (q ∷ ps) zero p = refl
pairs_set (q ∷ ps) (suc i) p = ap (λ (ws : List Window). of_pair q ∷ ws) (pairs_set ps i p)

-- "each free declaration starts with the job's pair": one window more
pub pairs-more : (ps : List (List ℤ)) (i : ℕ) (p : List ℤ) → i < length ps → take (suc i) (of_pairs (set ps i p)) ≡ take i (of_pairs ps) ++ of_pair p ∷ []
pairs-more ps i p h = ap (take (suc i)) (pairs_set ps i p) ∙ take-suc-set (of_pairs ps) i (of_pair p) (subst (λ (n : ℕ). i < n) (sym (length-map ps of_pair)) h)
