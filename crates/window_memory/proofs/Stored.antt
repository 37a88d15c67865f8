-- Pairs put into memory: what is kept, and that the same pairs are loaded again.
use Prim.Native.Nat.{ℕ, zero, suc, ◌+◌, ◌*◌, ◌≤◌, ◌<◌}
use mathlib.Core.Path.{◌≡◌, refl, ap, ap₂, ◌∙◌}
use mathlib.Core.Logic.{◌≢◌}
use mathlib.Core.List.{List, [], ◌∷◌}
use native.Mathlib.Omega.{arith}
use lib.ListN.{get_or, set, length, take, length-set}
use lib.Seq.{get_or-set_same, get_or-set_other}
use lib.IntN.{ℤ, pos}
use mir.Syntax.{w32}
use mir.Val.{to_z, of_z, SFits}
use mir.Facts.{to_z-of_z}
use Rattle.semantics.specs.Program.{Window}
use Rattle.semantics.specs.Search.{to}
use Rattle.intervals.specs.Meaning.{of_pair, of_pairs}
use Rattle.window_memory.specs.Memory.{pair_at, pairs_at, put_pair, put_pairs}

-- the eight pairs, by their places
pub eight : (m : List ℕ) (k : ℕ) → pairs_at m k 8 ≡ pair_at m k ∷ pair_at m (k + 2) ∷ pair_at m (k + 4) ∷ pair_at m (k + 6) ∷ pair_at m (k + 8) ∷ pair_at m (k + 10)
    ∷ pair_at m (k + 12) ∷ pair_at m (k + 14) ∷ []
unfolding pairs_at
eight m k =
    let e₄ : k + 2 + 2 ≡ k + 4 = omega arith in
    let e₆ : k + 4 + 2 ≡ k + 6 = omega arith in
    let e₈ : k + 6 + 2 ≡ k + 8 = omega arith in
    let e₁₀ : k + 8 + 2 ≡ k + 10 = omega arith in
    let e₁₂ : k + 10 + 2 ≡ k + 12 = omega arith in
    let e₁₄ : k + 12 + 2 ≡ k + 14 = omega arith in
    rw (e₄, e₆, e₈, e₁₀, e₁₂, e₁₄)

length-pair : (m : List ℕ) (k : ℕ) (p : List ℤ) → length (put_pair m k p) ≡ length m
length-pair m k p = simp length-set

pub length-put : (m : List ℕ) (k : ℕ) (ps : List (List ℤ)) → length (put_pairs m k ps) ≡ length m
unfolding put_pairs
length-put m k [] = refl
length-put m k (p ∷ ps) = length-put (put_pair m k p) (k + 2) ps ∙ length-pair m k p

-- one pair more
pub put-more : (m : List ℕ) (k : ℕ) (ws : List (List ℤ)) (i : ℕ) → i < length ws → put_pairs m k (take (suc i) ws) ≡ put_pair (put_pairs m k (take i ws)) (k + 2 * i) (get_or ws i [])
unfolding put_pairs
put-more m k [] i h = absurd (omega arith)
put-more m k (q ∷ ws) zero h = ap (λ (n : ℕ). put_pair m n q) (omega arith)
put-more m k (q ∷ ws) (suc i) h = put-more (put_pair m k q) (k + 2) ws i (omega arith) ∙ ap (λ (n : ℕ). put_pair (put_pairs (put_pair m k q) (k + 2) (take i ws)) n (get_or ws i [])) (omega arith)

-- ---- what is kept

pair-kept : (m : List ℕ) (k j : ℕ) (p : List ℤ) → j ≢ k → j ≢ k + 1 → get_or (put_pair m k p) j 0 ≡ get_or m j 0
pair-kept m k j p f g = get_or-set_other (set m k (of_z w32 (get_or p 0 (pos 0)))) (k + 1) j (of_z w32 (get_or p 1 (pos 0))) 0 g ∙ get_or-set_other m k j (of_z w32 (get_or p 0 (pos 0))) 0 f

pub put-below : (m : List ℕ) (k j : ℕ) (ps : List (List ℤ)) → j < k → get_or (put_pairs m k ps) j 0 ≡ get_or m j 0
unfolding put_pairs
put-below m k j [] h = refl
put-below m k j (p ∷ ps) h = put-below (put_pair m k p) (k + 2) j ps (omega arith) ∙ pair-kept m k j p (λ e. omega arith) (λ e. omega arith)

pub put-above : (m : List ℕ) (k j : ℕ) (ps : List (List ℤ)) → k + 2 * length ps ≤ j → get_or (put_pairs m k ps) j 0 ≡ get_or m j 0
unfolding put_pairs
put-above m k j [] h = refl
put-above m k j (p ∷ ps) h = put-above (put_pair m k p) (k + 2) j ps (omega arith) ∙ pair-kept m k j p (λ e. omega arith) (λ e. omega arith)

-- ---- loaded again

-- both ends of each pair fit 32 bits
pub record Ends (ws : List (List ℤ)) : Type 0 where
  pub low : (i : ℕ) → SFits w32 (get_or (get_or ws i []) 0 (pos 0))
  pub high : (i : ℕ) → SFits w32 (get_or (get_or ws i []) 1 (pos 0))

-- the pair at k, where so many pairs are put after it
first : (m : List ℕ) (k : ℕ) (p : List ℤ) (ps : List (List ℤ)) → k + 1 < length m → SFits w32 (get_or p 0 (pos 0)) → SFits w32 (get_or p 1 (pos 0))
    → of_pair (pair_at (put_pairs (put_pair m k p) (k + 2) ps) k) ≡ of_pair p
first m k p ps h f g =
    let l = of_z w32 (get_or p 0 (pos 0)) in
    let u = of_z w32 (get_or p 1 (pos 0)) in
    let a : get_or (put_pair m k p) k 0 ≡ l = get_or-set_other (set m k l) (k + 1) k u 0 (λ e. omega arith) ∙ get_or-set_same m k l 0 (omega arith) in
    let b : get_or (put_pair m k p) (k + 1) 0 ≡ u = get_or-set_same (set m k l) (k + 1) u 0 (simp length-set (omega arith)) in
    ap₂ to
    (ap (to_z w32) (put-below (put_pair m k p) (k + 2) k ps (omega arith) ∙ a) ∙ to_z-of_z f)
    (ap (to_z w32) (put-below (put_pair m k p) (k + 2) (k + 1) ps (omega arith) ∙ b) ∙ to_z-of_z g)

pub put-load : (m : List ℕ) (k : ℕ) (ws : List (List ℤ)) → k + 2 * length ws ≤ length m → Ends ws → of_pairs (pairs_at (put_pairs m k ws) k (length ws)) ≡ of_pairs ws
unfolding put_pairs pairs_at
put-load m k [] h e = refl
put-load m k (p ∷ ps) h e =
    ap₂ (λ (w : Window) (vs : List Window). w ∷ vs)
    (first m k p ps (omega arith) (e.low 0) (e.high 0))
    (put-load (put_pair m k p) (k + 2) ps (omega (arith, length-pair m k p)) (record { low = λ i. e.low (suc i); high = λ i. e.high (suc i) }))
