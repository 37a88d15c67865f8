-- Windows, nodes and ranges in the memory: what they read as, what stays where words stay, and what a pass over the nodes writes.
use mathlib.Core.Path.{◌≡◌, refl, sym, ap, ap₂, ◌∙◌, subst}
use mathlib.Core.List.{List, [], ◌∷◌, ◌++◌}
use mathlib.Core.Logic.{⊎_elim, ◌≢◌}
use Prim.Native.Nat.{ℕ, zero, suc, ◌+◌, ◌*◌, ◌≤◌, ◌<◌}
use native.Mathlib.Nat.{eq-or-lt_of_le}
use native.Mathlib.Numerals.{add-one}
use native.Mathlib.Omega.{arith}
use lib.ListN.{length, get_or, set, take, length-set, length-take, length-append, get_or-append, get_or-eq_default}
use lib.Seq.{get_or_at, get_or-take, get_or-set_same, get_or-set_other}
use lib.IntN.{ℤ, pos, negsuc}
use mir.Syntax.{w32}
use mir.Val.{to_z}
use Rattle.semantics.specs.Program.{Window}
use Rattle.semantics.specs.Search.{to, all32, span, fitted, range}
use Rattle.semantics.proofs.Filled.{range-filled}
use Rattle.simulation.specs.Nodes.{Cell, Known, Open, Node, cell, node, meaning, ranges, range_in}
use Rattle.simulation.proofs.Nodes.{range-ok, ranges-last}
use Rattle.ints.specs.Numbers as numbers
use Rattle.intervals.specs.Meaning.{of_pair, Filled, of_pairs}
use Rattle.window_memory.specs.Memory.{pair_at, pairs_at}
use Rattle.ranges.proofs.Ranges.{filled, ordered}
use Rattle.machine.specs.Kinds.{node_op, left_open, right_open}
use Rattle.machine.specs.Layout.{windows_place, window_low, window_high, windows_end, starts_place, starts_end, node_place, node_left, node_right, node_end, range_low, range_high}
use Rattle.machine.specs.Memory.{cell_read_as, node_by, node_at, nodes_in, windows_in, starts_in, ranges_in}
use Rattle.machine.specs.Terms.{Room}
use Rattle.paths.specs.Table.{range_at, Ranging, Ranged, Windows, Anew}

-- ---- windows

pairs-get : (m : List ℕ) (k n i : ℕ) → i < n → get_or (of_pairs (pairs_at m k n)) i all32 ≡ of_pair (pair_at m (k + 2 * i))
unfolding pairs_at
pairs-get m k zero i h = absurd (omega arith)
pairs-get m k (suc n) zero h = ap (λ (j : ℕ). of_pair (pair_at m j)) {x = k} {y = k + 2 * 0} (omega arith)
pairs-get m k (suc n) (suc i) h = pairs-get m (k + 2) n i (omega arith) ∙ ap (λ (j : ℕ). of_pair (pair_at m j)) {x = k + 2 + 2 * i} {y = k + 2 * suc i} (omega arith)

pub windows-get : (m : List ℕ) (k i : ℕ) → k ≤ 8 → i < k → get_or (windows_in m k) i all32 ≡ to (to_z w32 (get_or m (window_low i) 0)) (to_z w32 (get_or m (window_high i) 0))
windows-get m k i l h =
    get_or-take k (of_pairs (pairs_at m windows_place 8)) i all32 h
    ∙ pairs-get m windows_place 8 i (omega arith)
    ∙ ap (λ (j : ℕ). to (to_z w32 (get_or m (window_low i) 0)) (to_z w32 (get_or m j 0))) {x = window_low i + 1} {y = window_high i} (omega arith)

pub windows-none : (m : List ℕ) (k i : ℕ) → k ≤ i → get_or (windows_in m k) i all32 ≡ to (negsuc 2147483647) (pos 2147483647)
unfolding all32
windows-none m k i h = get_or-eq_default (windows_in m k) all32 {n = i} (omega (arith, length-take k (of_pairs (pairs_at m windows_place 8))))

pairs-same : (m m' : List ℕ) (k n : ℕ) → ((i : ℕ) → k ≤ i → i < k + 2 * n → get_or m' i 0 ≡ get_or m i 0) → pairs_at m' k n ≡ pairs_at m k n
unfolding pairs_at
pairs-same m m' k zero h = refl
pairs-same m m' k (suc n) h =
    ap₂ (λ (p : List ℤ) (l : List (List ℤ)). p ∷ l) (ap₂ (λ (a b : ℕ). to_z w32 a ∷ to_z w32 b ∷ []) (h k (omega arith) (omega arith)) (h (k + 1) (omega arith) (omega arith)))
    (pairs-same m m' (k + 2) n (λ i a b. h i (omega arith) (omega arith)))

pub windows-same : (m m' : List ℕ) (k : ℕ) → ((i : ℕ) → windows_place ≤ i → i < windows_end → get_or m' i 0 ≡ get_or m i 0) → windows_in m' k ≡ windows_in m k
windows-same m m' k h = ap (λ (l : List (List ℤ)). take k (of_pairs l)) (pairs-same m m' windows_place 8 (λ i a b. h i a (omega arith)))

pub starts-same : (m m' : List ℕ) (k : ℕ) → ((i : ℕ) → starts_place ≤ i → i < starts_end → get_or m' i 0 ≡ get_or m i 0) → starts_in m' k ≡ starts_in m k
starts-same m m' k h = ap (λ (l : List (List ℤ)). take k (of_pairs l)) (pairs-same m m' starts_place 8 (λ i a b. h i a (omega arith)))

-- ---- nodes

pub node-same : (m m' : List ℕ) (j : ℕ) → ((i : ℕ) → node_place j ≤ i → i < node_end j → get_or m' i 0 ≡ get_or m i 0) → node_at m' j ≡ node_at m j
node-same m m' j h = rw (h (node_place j) (omega arith) (omega arith), h (node_left j) (omega arith) (omega arith), h (node_right j) (omega arith) (omega arith))

pub nodes-same : (m m' : List ℕ) (n : ℕ) → ((j : ℕ) → j < n → node_at m' j ≡ node_at m j) → nodes_in m' n ≡ nodes_in m n
unfolding nodes_in
nodes-same m m' zero h = refl
nodes-same m m' (suc n) h = ap₂ (λ (l : List Node) (x : Node). l ++ x ∷ []) (nodes-same m m' n (λ j g. h j (omega arith))) (h n (omega arith))

-- ---- ranges

abbrev pub range_words : List ℕ → ℕ → Window
range_words m i = to (to_z w32 (get_or m (range_low i) 0)) (to_z w32 (get_or m (range_high i) 0))

ranges-length : (m : List ℕ) (n : ℕ) → length (ranges_in m n) ≡ n
unfolding ranges_in
ranges-length m zero = refl
ranges-length m (suc n) = length-append (ranges_in m n) (range_words m n ∷ []) ∙ ap (λ k. k + 1) (ranges-length m n) ∙ add-one n

pub ranges-get : (m : List ℕ) (n i : ℕ) → i < n → get_or (ranges_in m n) i (to (pos 0) (pos 0)) ≡ range_words m i
unfolding ranges_in
ranges-get m zero i h = absurd (omega arith)
ranges-get m (suc n) i h = ⊎_elim
    (λ e. get_or_at (ranges_in m n) (range_words m n) [] (to (pos 0) (pos 0)) i (ranges-length m n ∙ omega arith) ∙ ap (range_words m) {x = n} {y = i} (omega arith))
    (λ g. get_or-append (ranges_in m n) (range_words m n ∷ []) (to (pos 0) (pos 0)) i (omega (arith, ranges-length m n)) ∙ ranges-get m n i (omega arith))
    (eq-or-lt_of_le {n = suc i} {m = suc n} (omega arith))

pub ranges-none : (m : List ℕ) (n i : ℕ) → n ≤ i → get_or (ranges_in m n) i (to (pos 0) (pos 0)) ≡ to (pos 0) (pos 0)
ranges-none m n i h = get_or-eq_default (ranges_in m n) (to (pos 0) (pos 0)) {n = i} (omega (arith, ranges-length m n))

pub ranges-same : (m m' : List ℕ) (n : ℕ) → ((j : ℕ) → j < n → range_words m' j ≡ range_words m j) → ranges_in m' n ≡ ranges_in m n
unfolding ranges_in
ranges-same m m' zero h = refl
ranges-same m m' (suc n) h = ap₂ (λ (l : List Window) (x : Window). l ++ x ∷ []) (ranges-same m m' n (λ j g. h j (omega arith))) (h n (omega arith))

-- ---- the range of one node

cell-is : (rs : List Window) (free : ℕ → Window) (v : Cell) → cell (λ z. to z z) free (λ o v w. fitted (span o v w)) rs v ≡ range_in rs v
cell-is rs free (Known z) = refl
cell-is rs free (Open j) = refl

-- the kind of node j, and its two cells
abbrev pub kind : List ℕ → ℕ → ℕ
kind m j = get_or m (node_place j) 0

abbrev pub left : List ℕ → ℕ → Cell
left m j = cell_read_as (left_open (kind m j)) (get_or m (node_left j) 0)

abbrev pub right : List ℕ → ℕ → Cell
right m j = cell_read_as (right_open (kind m j)) (get_or m (node_right j) 0)

module _ (m : List ℕ) (k j : ℕ) where
  pub range-free : node_op (kind m j) ≡ 0 → get_or (windows_in m k) (get_or m (node_left j) 0) all32 ≡ range_at m k j
  range-free e = ap (λ (t : ℕ). node (λ z. to z z) (λ i. get_or (windows_in m k) i all32) (λ o v w. fitted (span o v w)) (ranges_in m j) (node_by t (get_or m (node_left j) 0) (left m j) (right m j))) (sym e)

  pub range-op : (o : ℕ) → node_op (kind m j) ≡ suc o → fitted (span (numbers.operation o) (range_in (ranges_in m j) (left m j)) (range_in (ranges_in m j) (right m j))) ≡ range_at m k j
  range-op o e =
      ap₂ (λ (v w : Window). fitted (span (numbers.operation o) v w)) (sym (cell-is (ranges_in m j) (λ i. get_or (windows_in m k) i all32) (left m j)))
      (sym (cell-is (ranges_in m j) (λ i. get_or (windows_in m k) i all32) (right m j)))
      ∙ ap (λ (t : ℕ). node (λ z. to z z) (λ i. get_or (windows_in m k) i all32) (λ o v w. fitted (span o v w)) (ranges_in m j) (node_by t (get_or m (node_left j) 0) (left m j) (right m j))) (sym e)

-- the range of a cell has a number where the ranges have
pub cell-filled : (rs : List Window) (v : Cell) → Ranging rs → Filled (range_in rs v)
cell-filled rs (Known z) h = filled (to z z) (omega arith)
cell-filled rs (Open j) h = h.some j

-- ---- it is written

module _ (m : List ℕ) (k j a b : ℕ) (r : Room m (j + 1)) where
  abbrev m₁ : List ℕ
  m₁ = set m (range_low j) a

  abbrev m₂ : List ℕ
  m₂ = set m₁ (range_high j) b

  elsewhere : (i : ℕ) → i ≢ range_low j → i ≢ range_high j → get_or m₂ i 0 ≡ get_or m i 0
  elsewhere i p q = get_or-set_other m₁ (range_high j) i b 0 q ∙ get_or-set_other m (range_low j) i a 0 p

  pub ranged : to (to_z w32 a) (to_z w32 b) ≡ range_at m k j → Ranged m m₂ k j
  unfolding ranges_in
  ranged e = record {
    other = record { outside = λ i h. elsewhere i (λ q. h (omega arith) (omega arith)) (λ q. h (omega arith) (omega arith)) };
    is = ap (ranges_in m₂) (add-one j)
        ∙ ap₂ (λ (l : List Window) (x : Window). l ++ x ∷ [])
        (ranges-same m m₂ j (λ i g. ap₂ (λ (x y : ℕ). to (to_z w32 x) (to_z w32 y)) (elsewhere (range_low i) (λ q. omega arith) (λ q. omega arith))
        (elsewhere (range_high i) (λ q. omega arith) (λ q. omega arith))))
        (ap₂ (λ (x y : ℕ). to (to_z w32 x) (to_z w32 y))
        (get_or-set_other m₁ (range_high j) (range_low j) b 0 (λ q. omega arith) ∙ get_or-set_same m (range_low j) a 0 (omega (arith, r.words)))
        (get_or-set_same m₁ (range_high j) b 0 (simp length-set (omega (arith, r.words))))
        ∙ e);
  }

-- ---- a pass over the nodes

pub ranging : (ws : List Window) (ns : List Node) → Windows ws → Ranging (ranges ws ns)
ranging ws ns h = record {
  some = λ i. subst Filled (sym (range-ok ws ns (Open i)))
      (filled (range ws (meaning ns (Open i))) (range-filled ws (λ j. ordered (get_or ws j all32) (h.some j)) (meaning ns (Open i))));
}

pub anew-none : (m : List ℕ) (k : ℕ) → Anew m m k 0
unfolding ranges_in nodes_in ranges Rattle.simulation.specs.Nodes.pass
anew-none m k = record { other = λ i h. refl; is = refl }

pub anew-more : (m m₁ m₂ : List ℕ) (k j : ℕ) → Anew m m₁ k j → Ranged m₁ m₂ k j → Anew m m₂ k (j + 1)
unfolding nodes_in
anew-more m m₁ m₂ k j a r = record {
  other = λ i h. r.other.outside i (λ p q. h j (omega arith) p q) ∙ a.other i (λ l g p q. h l (omega arith) p q);
  is = r.is
      ∙ (λ i. a.is i ++ node (λ z. to z z) (λ x. get_or (ws i) x all32) (λ o v w. fitted (span o v w)) (a.is i) (here i) ∷ [])
      ∙ sym (ranges-last (windows_in m k) (nodes_in m j) (node_at m j))
      ∙ ap (λ (n : ℕ). ranges (windows_in m k) (nodes_in m n)) (sym (add-one j));
}
  where
    ws : windows_in m₁ k ≡ windows_in m k
    ws = windows-same m m₁ k (λ i p q. a.other i (λ l g u v. omega arith))

    here : node_at m₁ j ≡ node_at m j
    here = node-same m m₁ j (λ i p q. a.other i (λ l g u v. omega arith))
