-- Starting pairs are added at the end, and those that there are stay.
use mathlib.Core.Path.{◌≡◌, sym, ap, ◌∙◌}
use mathlib.Core.List.{List}
use Prim.Native.Nat.{ℕ, ◌≤◌}
use native.Mathlib.Omega.{arith}
use lib.ListN.{length, take, length-append}
use lib.Seq.{take-take, take-append-le, length-take-le}
use Rattle.simulation.proofs.Cells.{Extends}
use Rattle.intervals.specs.Meaning.{of_pairs}
use Rattle.window_memory.specs.Memory.{pairs_at}
use Rattle.machine.specs.Layout.{starts_place}
use Rattle.machine.specs.Memory.{starts_in}

starts-length : (m : List ℕ) (k : ℕ) → k ≤ 8 → length (starts_in m k) ≡ k
unfolding pairs_at
starts-length m k l = length-take-le k (of_pairs (pairs_at m starts_place 8)) l

-- where pairs were added to the first a, which make b, those are as they were
pub starts-stay : (m m' : List ℕ) (a b : ℕ) → a ≤ 8 → b ≤ 8 → Extends (starts_in m a) (starts_in m' b) → ((k : ℕ) → k ≤ a → starts_in m' k ≡ starts_in m k) × (a ≤ b)
starts-stay m m' a b l g h = (
  λ k q.
      sym (take-take k b (of_pairs (pairs_at m' starts_place 8)) (omega (arith, more))) ∙ ap (take k) h.is ∙ take-append-le k (starts_in m a) h.more (omega (arith, starts-length m a l))
      ∙ take-take k a (of_pairs (pairs_at m starts_place 8)) q,
  more,
)
  where
    more : a ≤ b
    more = omega (arith, starts-length m a l, starts-length m' b g, ap length h.is, length-append (starts_in m a) h.more)
