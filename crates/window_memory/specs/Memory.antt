-- Pairs in memory: two words each, low and then high, one pair after the other.
use Rattle.std.specs.Prelude.{ℕ, zero, suc, ◌+◌, List, [], ◌∷◌, get_or, set, ℤ, pos}
use Rattle.std.specs.Int.{w32}
use Rattle.std.proofs.Common.{to_z, of_z}

-- the pair at k, and so many pairs from k on
abbrev pub pair_at : List ℕ → ℕ → List ℤ
pair_at m k = to_z w32 (get_or m k 0) ∷ to_z w32 (get_or m (k + 1) 0) ∷ []

unfoldable pub pairs_at : List ℕ → ℕ → ℕ → List (List ℤ)
pairs_at m k zero = []
pairs_at m k (suc n) = pair_at m k ∷ pairs_at m (k + 2) n

-- the memory with a pair's words at k, and with those of several pairs from k on
abbrev pub put_pair : List ℕ → ℕ → List ℤ → List ℕ
put_pair m k p = set (set m k (of_z w32 (get_or p 0 (pos 0)))) (k + 1) (of_z w32 (get_or p 1 (pos 0)))

unfoldable pub put_pairs : List ℕ → ℕ → List (List ℤ) → List ℕ
put_pairs m k [] = m
put_pairs m k (p ∷ ps) = put_pairs (put_pair m k p) (k + 2) ps
