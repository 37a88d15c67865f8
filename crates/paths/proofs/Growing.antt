-- One node more, one window more: the tables, and what stands beside them.
use mathlib.Core.Path.{◌≡◌, refl, sym, ap, ap₂, ◌∙◌, subst}
use mathlib.Core.List.{List, [], ◌∷◌, ◌++◌, map}
use mathlib.Core.Logic.{⊎_elim}
use Prim.Native.Nat.{ℕ, zero, suc, ◌+◌, ◌≤◌, ◌<◌}
use native.Mathlib.Nat.{eq-or-lt_of_le}
use native.Mathlib.Numerals.{add-one}
use native.Mathlib.Omega.{arith}
use lib.ListN.{length, get_or}
use Rattle.semantics.specs.Program.{Window}
use Rattle.semantics.specs.Search.{Test, to, all32, span, fitted}
use Rattle.semantics.proofs.Order.{up, down}
use Rattle.simulation.specs.Nodes.{Node, unknown, operation, node, Noted, test_of, ranges}
use Rattle.simulation.proofs.Nodes.{Each, ranges-last, ranges-window}
use Rattle.intervals.specs.Meaning.{Filled}
use Rattle.ranges.proofs.Ranges.{filled}
use Rattle.machine.specs.Layout.{range_low, range_high, range_end, outcome_place}
use Rattle.machine.specs.Memory.{node_at, nodes_in, windows_in, starts_in, ranges_in, tests_in, outcomes_in, test_at}
use Rattle.machine.specs.Terms.{Room, Other, Formed}
use Rattle.machine.proofs.Tables.{room-same, within_more, meaning-kept}
use Rattle.machine.proofs.Stays.{kept-none}
use Rattle.paths.specs.Table.{Ranging, Ranged, Windows}
use Rattle.paths.specs.Choice.{Named, Tables, PairsOnly, Reached}
use Rattle.paths.specs.Point.{Tested, Machinery}
use Rattle.paths.specs.Turn.{Growing, Grown}
use Rattle.paths.proofs.Table.{windows-same, starts-same, node-same, nodes-same, ranges-same, ranging}
use Rattle.paths.proofs.Choice.{outcomes-same, windows-length}
use Rattle.paths.proofs.Choosing.{test-same, tests_same}

-- ---- what stays where a range is written

module _ {m m' : List ℕ} (n : ℕ) (o : Other m m' (range_low n) (range_end n)) where
  pub range-machinery : Machinery m m'
  range-machinery = record { low = λ k l. o.outside k (λ u v. omega arith); tables = λ k j x y. o.outside k (λ u v. omega arith) }

  pub range-windows : (k : ℕ) → windows_in m' k ≡ windows_in m k
  range-windows k = windows-same m m' k (λ i a b. o.outside i (λ u v. omega arith))

  pub range-starts : (k : ℕ) → starts_in m' k ≡ starts_in m k
  range-starts k = starts-same m m' k (λ i a b. o.outside i (λ u v. omega arith))

  pub range-node : (j : ℕ) → node_at m' j ≡ node_at m j
  range-node j = node-same m m' j (λ i a b. o.outside i (λ u v. omega arith))

  pub range-nodes : (i : ℕ) → nodes_in m' i ≡ nodes_in m i
  range-nodes i = nodes-same m m' i (λ j l. range-node j)

  pub range-test : (j : ℕ) → test_at m' j ≡ test_at m j
  range-test j = test-same m m' j (λ i a b. o.outside i (λ u v. omega arith))

  pub range-tests : (t : ℕ) → tests_in m' t ≡ tests_in m t
  range-tests t = tests_same m m' t (λ j l. range-test j)

  pub range-outcomes : (i f : ℕ) → outcomes_in m' i f ≡ outcomes_in m i f
  range-outcomes i f = outcomes-same m m' i f (λ j a b. o.outside (outcome_place j) (λ u v. omega arith))

-- ---- what stays where windows are written, and the pairs that they start as

module _ {m m' : List ℕ} (o : PairsOnly m m') where
  pub window-machinery : Machinery m m'
  window-machinery = record { low = λ k l. o.outside k (λ u v. omega arith) (λ u v. omega arith); tables = λ k j x y. o.outside k (λ u v. omega arith) (λ u v. omega arith) }

  pub window-node : (j : ℕ) → node_at m' j ≡ node_at m j
  window-node j = node-same m m' j (λ i a b. o.outside i (λ u v. omega arith) (λ u v. omega arith))

  pub window-nodes : (i : ℕ) → nodes_in m' i ≡ nodes_in m i
  window-nodes i = nodes-same m m' i (λ j l. window-node j)

  pub window-ranges : (n : ℕ) → ranges_in m' n ≡ ranges_in m n
  window-ranges n = ranges-same m m' n (λ j l. rw (o.outside (range_low j) (λ u v. omega arith) (λ u v. omega arith), o.outside (range_high j) (λ u v. omega arith) (λ u v. omega arith)) refl)

  pub window-test : (j : ℕ) → test_at m' j ≡ test_at m j
  window-test j = test-same m m' j (λ i a b. o.outside i (λ u v. omega arith) (λ u v. omega arith))

  pub window-tests : (t : ℕ) → tests_in m' t ≡ tests_in m t
  window-tests t = tests_same m m' t (λ j l. window-test j)

  pub window-outcomes : (i f : ℕ) → outcomes_in m' i f ≡ outcomes_in m i f
  window-outcomes i f = outcomes-same m m' i f (λ j a b. o.outside (outcome_place j) (λ u v. omega arith) (λ u v. omega arith))

-- ---- tests with more nodes

pub tested-more : (n n' : ℕ) → n ≤ n' → (x : Noted) → Tested n x → Tested n' x
tested-more n n' l x h = record { left = within_more n n' l x.left h.left; right = within_more n n' l x.right h.right }

pub tests-grow : (m : List ℕ) (n n' : ℕ) → n ≤ n' → (t : ℕ) → ((j : ℕ) → j < t → Tested n (test_at m j)) → map (test_of (nodes_in m n')) (tests_in m t) ≡ map (test_of (nodes_in m n)) (tests_in m t)
unfolding tests_in
tests-grow m n n' l zero h = refl
tests-grow m n n' l (suc t) h =
    let x = h t (omega arith) in
    ap₂ (λ (y : Test) (ys : List Test). y ∷ ys)
    (λ i. record {
      compare = (test_at m t).compare;
      left = meaning-kept {m = m} {m' = m} {n = n} kept-none n' l (test_at m t).left x.left i;
      right = meaning-kept {m = m} {m' = m} {n = n} kept-none n' l (test_at m t).right x.right i;
    })
    (tests-grow m n n' l t (λ j g. h j (omega arith)))

-- ---- one node more

pub tables_more : (m m' : List ℕ) (k n : ℕ) → k ≤ 8 → Room m (n + 1) → length m' ≡ length m → Windows (windows_in m k) → ((j : ℕ) → j < n → Named k (node_at m j)) → Named k (node_at m n)
    → ranges_in m n ≡ ranges (windows_in m k) (nodes_in m n) → Ranged m m' k n
    → Tables m' k (n + 1)
unfolding nodes_in
tables_more m m' k n c r len some old new is h = record {
  count = c;
  room = room-same len r;
  some = subst Windows (sym (range-windows n h.other k)) some;
  named = λ j l. ⊎_elim
      (λ e. subst (λ (j : ℕ). Named k (node_at m' j)) {x = n} {y = j} (omega arith) (subst (Named k) (sym (range-node n h.other n)) new))
      (λ g. subst (Named k) (sym (range-node n h.other j)) (old j (omega arith)))
      (eq-or-lt_of_le {n = suc j} {m = n + 1} (omega arith));
  is = h.is
      ∙ ap (λ (rs : List Window). rs ++ node (λ z. to z z) (λ x. get_or (windows_in m k) x all32) (λ o v w. fitted (span o v w)) rs (node_at m n) ∷ []) is
      ∙ sym (ranges-last (windows_in m k) (nodes_in m n) (node_at m n))
      ∙ ap (λ (i : ℕ). ranges (windows_in m k) (nodes_in m i)) (sym (add-one n))
      ∙ sym (ap₂ ranges (range-windows n h.other k) (range-nodes n h.other (n + 1)));
}

formed-named : (k j : ℕ) (x : Node) → Formed j x → Named k x
formed-named k j (unknown i) h = absurd h
formed-named k j (operation o a b) h = tt

-- an operation
pub range-so : (m : List ℕ) (k n : ℕ) → Tables m k n → Ranging (ranges_in m n)
range-so m k n t = subst Ranging (sym t.is) (ranging (windows_in m k) (nodes_in m n) t.some)

pub grown-none : (m : List ℕ) (k n nodes : ℕ) → Tables m k n → Growing m n nodes → nodes ≤ n → Grown m m k n nodes
grown-none m k n nodes t g l = record { other = record { outside = λ i h. refl }; tables = subst (Tables m k) {x = n} {y = nodes} (omega (arith, g.more)) t }

pub grown-one : (m m' : List ℕ) (k n nodes : ℕ) → Tables m k n → Room m nodes → Growing m n nodes → n < nodes → length m' ≡ length m → Ranged m m' k n → Grown m m' k n nodes
grown-one m m' k n nodes t r g l len h =
    let e : nodes ≡ n + 1 = omega (arith, g.one) in
    record {
      other = h.other;
      tables = subst (Tables m' k) (sym e) (tables_more m m' k n t.count (subst (Room m) e r) len t.some t.named (formed-named k n (node_at m n) (g.formed n (omega arith) l)) t.is h);
    }

-- ---- one window more

all-filled : Filled all32
unfolding all32 up down
all-filled = filled all32 (omega arith)

windows-more : (ws : List Window) (w : Window) → Windows ws → Filled w → Windows (ws ++ w ∷ [])
windows-more ws w h f = record { some = by ws h.some }
  where
    by : (ws : List Window) → ((i : ℕ) → Filled (get_or ws i all32)) → (i : ℕ) → Filled (get_or (ws ++ w ∷ []) i all32)
    by [] h zero = f
    by [] h (suc i) = all-filled
    by (u ∷ ws) h zero = h zero
    by (u ∷ ws) h (suc i) = by ws (λ j. h (suc j)) i

named_more : (k : ℕ) (x : Node) → Named k x → Named (k + 1) x
named_more k (unknown i) h = omega arith
named_more k (operation o a b) h = tt

each_last : (k : ℕ) (ns : List Node) (x : Node) → Each (λ i. i < k) ns → Named k x → Each (λ i. i < k) (ns ++ x ∷ [])
each_last k [] (unknown i) h g = (g, tt)
each_last k [] (operation o a b) h g = tt
each_last k (unknown i ∷ ns) x h g = (h.0, each_last k ns x h.1 g)
each_last k (operation o a b ∷ ns) x h g = each_last k ns x h g

each-named : (m : List ℕ) (k n : ℕ) → ((j : ℕ) → j < n → Named k (node_at m j)) → Each (λ i. i < k) (nodes_in m n)
unfolding nodes_in
each-named m k zero h = tt
each-named m k (suc n) h = each_last k (nodes_in m n) (node_at m n) (each-named m k n (λ j l. h j (omega arith))) (h n (omega arith))

module _ (m m₁ : List ℕ) (job : Window) (k n : ℕ) (t : Tables m k n) (r : Reached m m₁ job k) (f : Filled job) where
  pub reached-windows : Windows (windows_in m₁ (k + 1))
  reached-windows = subst Windows (sym r.is) (windows-more (windows_in m k) job t.some f)

  reached-ranges : ranges_in m₁ n ≡ ranges (windows_in m₁ (k + 1)) (nodes_in m₁ n)
  reached-ranges =
      window-ranges r.other n ∙ t.is
      ∙ sym (ranges-window (windows_in m k) job (nodes_in m n) (subst (λ (l : ℕ). Each (λ i. i < l) (nodes_in m n)) (sym (windows-length m k t.count)) (each-named m k n t.named)))
      ∙ sym (ap₂ ranges r.is (window-nodes r.other n))

  pub reached-ranging : Ranging (ranges_in m₁ n)
  reached-ranging = subst Ranging (sym reached-ranges) (ranging (windows_in m₁ (k + 1)) (nodes_in m₁ n) reached-windows)

  pub reached-tables : (m₂ : List ℕ) → k < 8 → Room m (n + 1) → length m₁ ≡ length m → length m₂ ≡ length m₁ → node_at m n ≡ unknown k → Ranged m₁ m₂ (k + 1) n → Tables m₂ (k + 1) (n + 1)
  reached-tables m₂ l room len len₂ e h =
      let g : Named (k + 1) (unknown k) = let x : k < k + 1 = omega arith in x in
      tables_more m₁ m₂ (k + 1) n (omega arith) (room-same len room) len₂ reached-windows (λ j i. subst (Named (k + 1)) (sym (window-node r.other j)) (named_more k (node_at m j) (t.named j i)))
      (subst (Named (k + 1)) (sym (window-node r.other n ∙ e)) g) reached-ranges h
