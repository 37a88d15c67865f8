-- Sides, tests and outcomes in the memory, and windows that narrow.
use mathlib.Core.Path.{◌≡◌, refl, sym, ap, ap₂, ◌∙◌, subst}
use mathlib.Core.Bool.{Bool, true, false, not}
use mathlib.Core.List.{List, [], ◌∷◌, ◌++◌}
use mathlib.Core.Logic.{◌≢◌}
use Prim.Native.Nat.{ℕ, zero, suc, ◌+◌, ◌-◌, ◌*◌, ◌%◌, ◌≤◌, ◌<◌}
use native.Mathlib.Numerals.{add-one}
use native.Mathlib.Omega.{arith}
use lib.Dec.{eqb}
use borrow.Author.Tests.{ne_eqb}
use lib.ListN.{length, get_or, set, length-set}
use lib.Seq.{get_or-set_same, get_or-set_other, length-take-le}
use lib.IntN.{ℤ}
use mir.Syntax.{w32}
use mir.Val.{of_z, SFits}
use Rattle.semantics.specs.Int.{Cmp}
use Rattle.semantics.specs.Program.{Window}
use Rattle.semantics.specs.Search as search
use Rattle.semantics.specs.Search.{known, open', to, range, clipped}
use Rattle.simulation.specs.Nodes.{Known, Open, Node, unknown, operation, node, values, meaning, range_in, Within}
use Rattle.simulation.proofs.Nodes.{range-ok, adding-ok}
use Rattle.ints.specs.Numbers as numbers
use Rattle.ints.proofs.Fits.{eq-bits}
use Rattle.intervals.specs.declared.Window as win
use Rattle.narrowing.specs.declared.Side.{Side}
use Rattle.narrowing.specs.declared.Side.TheVariants.{Free, Other}
use Rattle.intervals.specs.Meaning.{of_window, of_pairs}
use Rattle.narrowing.specs.Meaning.{variable_of, Stands}
use Rattle.window_memory.specs.Memory.{pairs_at}
use Rattle.machine.specs.Kinds.{node_op, test_kind, test_compare, test_sides, test_left_open, test_right_open}
use Rattle.machine.specs.Layout.{windows_place, node_left, test_place, test_left, test_right, outcome_place}
use Rattle.machine.specs.Memory.{cell_read_as, node_by, node_at, nodes_in, windows_in, ranges_in, test_as, outcome_as, outcomes_in}
use Rattle.machine.specs.Terms.{cell_of, meant, Room}
use Rattle.machine.specs.declared.Value as code
use Rattle.machine.specs.declared.Value.TheVariants as values
use Rattle.machine.proofs.Tables.{nodes-length, meaning-kept}
use Rattle.machine.proofs.Stays.{kept-none}
use Rattle.paths.specs.Choice.{Named, Tables, bit, test_by, Noting, Taken}
use Rattle.paths.proofs.Table.{kind, left, right}

pub within-open : (v : code.Value) (j n : ℕ) → v ≡ values.Open j → Within n (cell_of v) → j < n
within-open v j n e h = subst (λ (v : code.Value). Within n (cell_of v)) e h

-- ---- a side

-- the value of node j
meaning-at : (m : List ℕ) (n j : ℕ) → j < n → meaning (nodes_in m n) (Open j) ≡ node known search.unknown open' (Rattle.simulation.specs.Nodes.values (nodes_in m j)) (node_at m j)
unfolding nodes_in
meaning-at m n j l =
    meaning-kept {m = m} {m' = m} {n = suc j} kept-none n (omega arith) (Open j) (omega arith)
    ∙ ap (λ (i : ℕ). meaning (nodes_in m j ++ node_at m j ∷ []) (Open i)) (sym (nodes-length m j))
    ∙ adding-ok (nodes_in m j) (node_at m j)

pub windows-length : (m : List ℕ) (k : ℕ) → k ≤ 8 → length (windows_in m k) ≡ k
unfolding pairs_at
windows-length m k l = length-take-le k (of_pairs (pairs_at m windows_place 8)) l

pub side-known : (ws : List Window) (ns : List Node) (r : win.Window) (z : ℤ) → of_window r ≡ to z z → Stands ws (Other r) (meaning ns (Known z))
unfolding meaning range
side-known ws ns r z e = Stands.number e

pub stands_at : (m : List ℕ) (k n : ℕ) (v u : code.Value) (s : Side) → v ≡ u → Stands (windows_in m k) s (meant m n u) → Stands (windows_in m k) s (meant m n v)
stands_at m k n v u s e h = subst (λ (v : code.Value). Stands (windows_in m k) s (meant m n v)) (sym e) h

module _ (m : List ℕ) (k n j : ℕ) where
  pub side-free : Tables m k n → j < n → node_op (kind m j) ≡ 0 → Stands (windows_in m k) (Free (get_or m (node_left j) 0)) (meaning (nodes_in m n) (Open j))
  side-free t l e =
      let x = get_or m (node_left j) 0 in
      let q : node_at m j ≡ unknown x = ap (λ (i : ℕ). node_by i x (left m j) (right m j)) e in
      let g : x < k = subst (Named k) q (t.named j l) in
      subst (Stands (windows_in m k) (Free x)) (sym (meaning-at m n j l ∙ ap (node known search.unknown open' (Rattle.simulation.specs.Nodes.values (nodes_in m j))) q))
      (Stands.free (omega (arith, windows-length m k t.count)))

  pub side-op : (r : win.Window) → Tables m k n → j < n → (node_op (kind m j) ≡ 0 → ⊥) → of_window r ≡ range_in (ranges_in m n) (Open j) → Stands (windows_in m k) (Other r) (meaning (nodes_in m n) (Open j))
  side-op r t l f e = by (node_op (kind m j)) refl
    where
      is : of_window r ≡ range (windows_in m k) (meaning (nodes_in m n) (Open j))
      is = e ∙ ap (λ (rs : List Window). range_in rs (Open j)) t.is ∙ range-ok (windows_in m k) (nodes_in m n) (Open j)

      by : (i : ℕ) → node_op (kind m j) ≡ i → Stands (windows_in m k) (Other r) (meaning (nodes_in m n) (Open j))
      by zero q = absurd (f q)
      by (suc i) q =
          let o = numbers.operation i in
          let g : node_at m j ≡ operation o (left m j) (right m j) = ap (λ (i : ℕ). node_by i (get_or m (node_left j) 0) (left m j) (right m j)) q in
          let v = meaning-at m n j l ∙ ap (node known search.unknown open' (Rattle.simulation.specs.Nodes.values (nodes_in m j))) g in
          subst (Stands (windows_in m k) (Other r)) (sym v) (Stands.operation (is ∙ ap (range (windows_in m k)) v))

-- ---- a test

pub bit-two : (v : code.Value) → bit v < 2
bit-two (values.Known z) = omega arith
bit-two (values.Open j) = omega arith

module _ (m : List ℕ) (t c a b x y : ℕ) (v w : code.Value) (r : Room m (t + 1)) where
  abbrev m₁ : List ℕ
  m₁ = set m (test_place t) (test_kind c a b)

  abbrev m₂ : List ℕ
  m₂ = set m₁ (test_left t) x

  abbrev m₃ : List ℕ
  m₃ = set m₂ (test_right t) y

  apart : (i : ℕ) → i ≢ test_place t → i ≢ test_left t → i ≢ test_right t → get_or m₃ i 0 ≡ get_or m i 0
  apart i f g h = get_or-set_other m₂ (test_right t) i y 0 h ∙ get_or-set_other m₁ (test_left t) i x 0 g ∙ get_or-set_other m (test_place t) i (test_kind c a b) 0 f

  first : get_or m₃ (test_place t) 0 ≡ test_kind c a b
  first = get_or-set_other m₂ (test_right t) (test_place t) y 0 (omega arith) ∙ get_or-set_other m₁ (test_left t) (test_place t) x 0 (omega arith)
      ∙ get_or-set_same m (test_place t) (test_kind c a b) 0 (omega (arith, r.words))

  second : get_or m₃ (test_left t) 0 ≡ x
  second = get_or-set_other m₂ (test_right t) (test_left t) y 0 (omega arith) ∙ get_or-set_same m₁ (test_left t) x 0 (simp length-set (omega (arith, r.words)))

  third : get_or m₃ (test_right t) 0 ≡ y
  third = get_or-set_same m₂ (test_right t) y 0 (simp length-set (omega (arith, r.words)))

  decode : c < 6 → a < 2 → b < 2 → test_as (test_kind c a b) x y ≡ record { compare = numbers.comparison c; left = cell_read_as a x; right = cell_read_as b y }
  decode l p q =
      let e : test_compare (test_kind c a b) ≡ c = omega arith in
      let h : test_sides (test_kind c a b) ≡ a + 2 * b = omega arith in
      let f : test_left_open (test_kind c a b) ≡ a = ap (λ (z : ℕ). z % 2) h ∙ omega arith in
      let g : test_right_open (test_kind c a b) ≡ b = omega arith in
      λ i. record { compare = numbers.comparison (e i); left = cell_read_as (f i) x; right = cell_read_as (g i) y }

  pub noting : c < 6 → a ≡ bit v → b ≡ bit w → cell_read_as (bit v) x ≡ cell_of v → cell_read_as (bit w) y ≡ cell_of w → Noting m m₃ t (test_by (numbers.comparison c) v w)
  noting l p q e f = record {
    other = record { outside = λ i h. apart i (λ u. h (omega arith) (omega arith)) (λ u. h (omega arith) (omega arith)) (λ u. h (omega arith) (omega arith)) };
    is = rw (first, second, third) (decode l (omega (arith, p, bit-two v)) (omega (arith, q, bit-two w))
        ∙ (λ i. record { compare = numbers.comparison c; left = (ap (λ (z : ℕ). cell_read_as z x) p ∙ e) i; right = (ap (λ (z : ℕ). cell_read_as z y) q ∙ f) i }));
  }

-- ---- an outcome

pub outcomes-same : (m m' : List ℕ) (t f : ℕ) → ((j : ℕ) → t ≤ j → j < t + f → get_or m' (outcome_place j) 0 ≡ get_or m (outcome_place j) 0) → outcomes_in m' t f ≡ outcomes_in m t f
unfolding outcomes_in
outcomes-same m m' t zero h = refl
outcomes-same m m' t (suc f) h = ap₂ (λ (o : Bool) (l : List Bool). o ∷ l) (ap outcome_as (h t (omega arith) (omega arith))) (outcomes-same m m' (suc t) f (λ j a b. h j (omega arith) (omega arith)))

pub taken-new : (m : List ℕ) (t f : ℕ) → f ≡ 0 → Room m (t + 1) → Taken m (set m (outcome_place t) 1) t f true
unfolding outcomes_in
taken-new m t (suc f) z r = absurd (omega arith)
taken-new m t zero z r = record {
  other = record { outside = λ i h. get_or-set_other m (outcome_place t) i 1 0 (λ e. h (omega arith) (omega arith)) };
  is = ap outcome_as (get_or-set_same m (outcome_place t) 1 0 (omega (arith, r.words)));
  next = refl;
  rest = refl;
}

bool-of : (n : ℕ) → outcome_as n ≡ not (eqb n 0)
bool-of zero = refl
bool-of (suc n) = ap not (sym (ne_eqb (suc n) 0 (λ e. omega arith)))

pub taken-forced : (m : List ℕ) (t f : ℕ) → (f ≡ 0 → ⊥) → Taken m m t f (not (eqb (get_or m (outcome_place t) 0) 0))
unfolding outcomes_in
taken-forced m t zero h = absurd (h refl)
taken-forced m t (suc f) h = record {
  other = record { outside = λ i h. refl };
  is = bool-of (get_or m (outcome_place t) 0);
  next = sym (bool-of (get_or m (outcome_place t) 0));
  rest = ap (λ (i : ℕ). outcomes_in m i (suc f - 1)) (add-one t) ∙ ap (outcomes_in m (suc t)) {x = suc f - 1} {y = f} (omega arith);
}

-- ---- a side that narrows nothing

not-true : (b : Bool) → not b ≡ true → b ≡ false
not-true true e = absurd (subst (λ o. elim o as (λ o. Type 0) [ true ↦ ⊥ | false ↦ Unit {0} ]) e tt)
not-true false e = refl

pub idle-at : (s u : Side) (r : win.Window) → s ≡ u → ((c : Cmp) (ws : List Window) → clipped c (variable_of u) (of_window r) ws ≡ ws) → (c : Cmp) (ws : List Window)
    → clipped c (variable_of s) (of_window r) ws ≡ ws
idle-at s u r e h c ws = subst (λ (s : Side). clipped c (variable_of s) (of_window r) ws ≡ ws) (sym e) (h c ws)

pub idle-free : (i : ℕ) (r : win.Window) → SFits w32 r.low → SFits w32 r.high → not (eqb (of_z w32 r.low) (of_z w32 r.high)) ≡ true → (c : Cmp) (ws : List Window)
    → clipped c (variable_of (Free i)) (of_window r) ws ≡ ws
unfolding clipped
idle-free i r l h e c ws = rw (sym (eq-bits r.low r.high l h) ∙ not-true (eqb (of_z w32 r.low) (of_z w32 r.high)) e) refl

pub idle-other : (s : win.Window) (r : win.Window) (c : Cmp) (ws : List Window) → clipped c (variable_of (Other s)) (of_window r) ws ≡ ws
unfolding clipped
idle-other s r c ws = refl
