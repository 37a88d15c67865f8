-- Windows that are put back into the memory: one more, or narrowed.
use mathlib.Core.Path.{◌≡◌, refl, sym, ap, ap₂, ◌∙◌, subst}
use mathlib.Core.Option.{none}
use mathlib.Core.List.{List, [], ◌∷◌, ◌++◌}
use Prim.Native.Nat.{ℕ, zero, suc, ◌+◌, ◌≤◌, ◌<◌}
use native.Mathlib.Numerals.{add-one}
use native.Mathlib.Decide.{dec_lt}
use native.Mathlib.Omega.{arith}
use lib.ListN.{length, get_or, set, take}
use lib.IntN.{ℤ, pos}
use mir.Syntax.{w32}
use mir.Val.{Val, SFits}
use denote.Shadow.{shadow}
use denote.Array.{Array, each}
use denote.Builtin.{i32}
use Rattle.semantics.specs.Int.{Cmp}
use Rattle.semantics.specs.Program.{Window}
use Rattle.semantics.specs.Search as search
use Rattle.semantics.specs.Search.{all32, range, mirrored, decided, clipped, narrowed}
use Rattle.semantics.proofs.Filled.{never-empty}
use Rattle.simulation.specs.Nodes.{ranges, range_in}
use Rattle.simulation.proofs.Nodes.{range-ok}
use Rattle.intervals.specs.declared.Window as win
use Rattle.narrowing.specs.declared.Side.{Side}
use Rattle.intervals.specs.Meaning.{of_window, of_pair, of_pairs}
use Rattle.narrowing.specs.Meaning.{AmongEight, range_of, variable_of, narrowed_by, Stands}
use Rattle.window_memory.specs.Memory.{pairs_at, put_pairs}
use Rattle.ranges.proofs.Ranges.{filled, ordered}
use Rattle.narrowing.proofs.Pairs.{pairs-more}
use Rattle.narrowing.proofs.Sides.{stands-range, narrowed-by}
use Rattle.window_memory.proofs.Stored.{Ends, put-below, put-above, put-load}
use Rattle.machine.specs.Layout.{windows_place, windows_end, starts_place, tables_place}
use Rattle.machine.specs.Memory.{node_at, nodes_in, windows_in, ranges_in}
use Rattle.machine.specs.Terms.{cell_of, meant, Other}
use Rattle.machine.specs.declared.Value as code
use Rattle.machine.proofs.Tables.{room-same}
use Rattle.paths.specs.Table.{Windows, Anew}
use Rattle.paths.specs.Choice.{Named, Tables, PairSet, Reached, Undecided, Narrowed}
use Rattle.paths.proofs.Table.{windows-same, starts-same, node-same, nodes-same}
use Rattle.paths.proofs.Choice.{windows-length}

-- ---- the numbers of an array by value have 32 bits

nums-fit : (xs : List ℤ) (us : List Val) (j : ℕ) → shadow (each ℤ i32.own_val xs us) → SFits w32 (get_or xs j (pos 0))
nums-fit [] us j p = record { sfits = omega arith }
nums-fit (x ∷ xs) [] j p = absurd p
nums-fit (x ∷ xs) (u ∷ us) zero p = record { sfits = p.0.1 }
nums-fit (x ∷ xs) (u ∷ us) (suc j) p = nums-fit xs us j p.1

pairs-fit : (xs : List (List ℤ)) (us : List Val) (i j : ℕ) → shadow (each (List ℤ) (Array i32 2).own_val xs us) → SFits w32 (get_or (get_or xs i []) j (pos 0))
pairs-fit [] us i j p = record { sfits = omega arith }
pairs-fit (x ∷ xs) [] i j p = absurd p
pairs-fit (x ∷ xs) (u ∷ us) zero j p = nums-fit x p.0.0 j p.0.1.1
pairs-fit (x ∷ xs) (u ∷ us) (suc i) j p = pairs-fit xs us i j p.1

pub ends : (ws : List (List ℤ)) (us : List Val) → shadow (each (List ℤ) (Array i32 2).own_val ws us) → Ends ws
ends ws us p = record { low = λ i. pairs-fit ws us i 0 p; high = λ i. pairs-fit ws us i 1 p }

-- ---- windows put back

module _ (m : List ℕ) (at : ℕ) (ws : List (List ℤ)) (eight : length ws ≡ 8) where
  stored_other : Other m (put_pairs m at ws) at (at + 16)
  stored_other = record { outside = λ i h. by i h (dec_lt i at) (dec_lt i (at + 16)) }
    where
      by : (i : ℕ) → (at ≤ i → i < at + 16 → ⊥) → Dec (i < at) → Dec (i < at + 16) → get_or (put_pairs m at ws) i 0 ≡ get_or m i 0
      by i h (yes a) b = put-below m at i ws a
      by i h (no a) (yes b) = absurd (h (omega arith) b)
      by i h (no a) (no b) = put-above m at i ws (omega arith)

  stored-pairs : (k : ℕ) → at + 16 ≤ length m → Ends ws → take k (of_pairs (pairs_at (put_pairs m at ws) at 8)) ≡ take k (of_pairs ws)
  stored-pairs k l e = ap (take k) (ap (λ (n : ℕ). of_pairs (pairs_at (put_pairs m at ws) at n)) (sym eight) ∙ put-load m at ws (omega arith) e)

-- one more
pub stored : (m m' : List ℕ) (at : ℕ) (ws : List (List ℤ)) (k : ℕ) (p : List ℤ) (w : Window) → k < 8 → at + 16 ≤ length m → m' ≡ put_pairs m at ws → ws ≡ set (pairs_at m at 8) k p
    → of_pair p ≡ w → length ws ≡ 8 → Ends ws → PairSet m m' at w k
unfolding pairs_at
stored m m' at ws k p w l h q r e n f = subst (λ (m' : List ℕ). PairSet m m' at w k) (sym q) (record {
  other = stored_other m at ws n;
  is = stored-pairs m at ws n (k + 1) h f
      ∙ ap₂ (λ (j : ℕ) (us : List (List ℤ)). take j (of_pairs us)) (add-one k) r
      ∙ pairs-more (pairs_at m at 8) k p l
      ∙ ap (λ (w : Window). take k (of_pairs (pairs_at m at 8)) ++ w ∷ []) e;
})

-- a window, and the pair that it starts as
pub reached : (m m₁ m₂ : List ℕ) (w : Window) (k : ℕ) → PairSet m m₁ windows_place w k → PairSet m₁ m₂ starts_place w k → Reached m m₂ w k
reached m m₁ m₂ w k a b = record {
  other = record { outside = λ i f g. b.other.outside i g ∙ a.other.outside i f };
  is = windows-same m₁ m₂ (k + 1) (λ i x y. b.other.outside i (λ u v. omega arith)) ∙ a.is;
  starts = b.is ∙ ap (λ (l : List Window). l ++ w ∷ []) (starts-same m m₁ k (λ i x y. a.other.outside i (λ u v. omega arith)));
}

-- ---- windows narrowed

module _ (m : List ℕ) (k n : ℕ) (t : Tables m k n) where
  abbrev ps : List Window
  ps = of_pairs (pairs_at m windows_place 8)

  pub range-is : (v : code.Value) → range_in (ranges_in m n) (cell_of v) ≡ range (windows_in m k) (meant m n v)
  range-is v = ap (λ (rs : List Window). range_in rs (cell_of v)) t.is ∙ range-ok (windows_in m k) (nodes_in m n) (cell_of v)

  side-range : (s : Side) (v : code.Value) → Stands (windows_in m k) s (meant m n v) → range_of ps s ≡ range_in (ranges_in m n) (cell_of v)
  side-range s v st = sym (stands-range ps k st) ∙ sym (range-is v)

  pub side-placed : (s : Side) (v : code.Value) → Stands (windows_in m k) s (meant m n v) → AmongEight s
  side-placed s v st = by s (meant m n v) st
    where
      by : (s : Side) (x : search.Value) → Stands (windows_in m k) s x → AmongEight s
      by s x (Stands.free {i} h) = let l : i < 8 = omega (arith, windows-length m k t.count, t.count) in AmongEight.free l
      by s x (Stands.number e) = AmongEight.other
      by s x (Stands.operation e) = AmongEight.other

  module _ (c : Cmp) (v w : code.Value) (a b : Side) (u : Undecided m n c v w) (sa : Stands (windows_in m k) a (meant m n v)) (sb : Stands (windows_in m k) b (meant m n w)) where
    pub sides-undecided : decided c (range_of ps a) (range_of ps b) ≡ none
    sides-undecided = ap₂ (decided c) (side-range a v sa) (side-range b w sb) ∙ u.is

    by_values : take k (narrowed_by c a b ps) ≡ narrowed c (meant m n v) (meant m n w) (windows_in m k)
    by_values = narrowed-by c ps k sa sb

    some_left : Windows (narrowed c (meant m n v) (meant m n w) (windows_in m k))
    some_left = record {
      some = λ i. filled (get_or (narrowed c (meant m n v) (meant m n w) (windows_in m k)) i all32)
          ((never-empty c (meant m n v) (meant m n w) (windows_in m k) (λ j. ordered (get_or (windows_in m k) j all32) (t.some.some j))
          (ap₂ (decided c) (sym (range-is v)) (sym (range-is w)) ∙ u.is)).0 i);
    }

    -- neither side narrows a window
    pub narrowed_none : (r q : win.Window) → of_window r ≡ range_in (ranges_in m n) (cell_of w) → of_window q ≡ range_in (ranges_in m n) (cell_of v)
        → ((c : Cmp) (ws : List Window) → clipped c (variable_of a) (of_window r) ws ≡ ws)
        → ((c : Cmp) (ws : List Window) → clipped c (variable_of b) (of_window q) ws ≡ ws) → Narrowed m m k n c v w
    narrowed_none r q e f h g = record {
      beside = record { other = λ i x y. refl };
      windows = ap (take k) (sym (ap₂ (λ (z : Window) (ws : List Window). clipped (mirrored c) (variable_of b) z ws) (side-range a v sa ∙ sym f)
          (ap (λ (z : Window). clipped c (variable_of a) z ps) (side-range b w sb ∙ sym e) ∙ h c ps) ∙ g (mirrored c) ps)) ∙ by_values;
      tables = t;
    }

    module _ (m₁ : List ℕ) (ls us : List (List ℤ)) (long : tables_place ≤ length m) (put : m₁ ≡ put_pairs m windows_place us) (loaded : ls ≡ pairs_at m windows_place 8)
        (is : of_pairs us ≡ narrowed_by c a b (of_pairs ls)) (eight : length us ≡ 8) (e : Ends us) where
      put-windows : windows_in m₁ k ≡ narrowed c (meant m n v) (meant m n w) (windows_in m k)
      put-windows = ap (λ (l : List ℕ). windows_in l k) put ∙ stored-pairs m windows_place us eight k (omega arith) e ∙ ap (take k) (is ∙ ap (λ (l : List (List ℤ)). narrowed_by c a b (of_pairs l)) loaded) ∙ by_values

      put_other : Other m m₁ windows_place windows_end
      put_other = subst (λ (l : List ℕ). Other m l windows_place windows_end) (sym put) (stored_other m windows_place us eight)

      pub put_some : Windows (windows_in m₁ k)
      put_some = subst Windows (sym put-windows) some_left

      pub narrowed-so : (m₂ : List ℕ) → length m₂ ≡ length m → Anew m₁ m₂ k n → Narrowed m m₂ k n c v w
      narrowed-so m₂ len an = record {
        beside = record { other = λ i x y. an.other i y ∙ put_other.outside i x };
        windows = still ∙ put-windows;
        tables = record {
          count = t.count;
          room = room-same len t.room;
          some = subst Windows (sym still) put_some;
          named = λ j l. subst (Named k) (sym (here j)) (t.named j l);
          is = an.is ∙ ap₂ ranges (sym still) (nodes-same m₂ m₁ n (λ j l. sym (node-same m₁ m₂ j (λ i x y. an.other i (λ l g u v. omega arith)))));
        };
      }
        where
          still : windows_in m₂ k ≡ windows_in m₁ k
          still = windows-same m₁ m₂ k (λ i x y. an.other i (λ l g u v. omega arith))

          here : (j : ℕ) → node_at m₂ j ≡ node_at m j
          here j = node-same m m₂ j (λ i x y. an.other i (λ l g u v. omega arith) ∙ put_other.outside i (λ u v. omega arith))
