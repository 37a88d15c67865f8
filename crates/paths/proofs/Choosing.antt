-- A choice in the memory: its outcome, its test, and the windows that narrow.
use mathlib.Core.Path.{◌≡◌, refl, sym, ap, ap₂, ◌∙◌, subst}
use mathlib.Core.Bool.{Bool, true, false}
use mathlib.Core.Option.{none}
use mathlib.Core.List.{List, [], ◌∷◌, ◌++◌, map}
use mathlib.Core.Logic.{⊎_elim}
use Prim.Native.Nat.{ℕ, zero, suc, ◌+◌, ◌-◌, ◌≤◌, ◌<◌}
use native.Mathlib.Nat.{eq-or-lt_of_le}
use native.Mathlib.Numerals.{add-one}
use native.Mathlib.Omega.{arith}
use lib.ListN.{length, get_or}
use Rattle.semantics.specs.Int.{Cmp}
use Rattle.semantics.specs.Search.{as_test, narrowed, decided}
use Rattle.simulation.specs.Path.{state, later, holding}
use Rattle.simulation.specs.Nodes.{Node, Noted, meaning, ranges, range_in, test_of}
use Rattle.intervals.proofs.Undecided.{undecided-negated}
use Rattle.machine.specs.Layout.{windows_place, windows_end, range_low, range_high, range_end, test_place, test_left, test_right, test_end, outcome_place, outcome_end}
use Rattle.machine.specs.Memory.{node_at, nodes_in, windows_in, starts_in, ranges_in, tests_in, outcome_as, outcomes_in, test_at}
use Rattle.machine.specs.Terms.{cell_of, meant, Other}
use Rattle.machine.specs.declared.Value as code
use Rattle.machine.proofs.Tables.{room-same}
use Rattle.paths.specs.declared.Point.{Point}
use Rattle.paths.specs.Table.{Windows}
use Rattle.paths.specs.Choice.{Named, Tables, test_by, Noting, Taken, Undecided, Narrowed}
use Rattle.paths.specs.Point.{Tested, Standing, Chose}
use Rattle.paths.proofs.Table.{windows-same, starts-same, node-same, nodes-same, ranges-same}
use Rattle.paths.proofs.Choice.{outcomes-same}

-- ---- tests and outcomes

pub test-same : (m m' : List ℕ) (j : ℕ) → ((i : ℕ) → test_place j ≤ i → i < test_end j → get_or m' i 0 ≡ get_or m i 0) → test_at m' j ≡ test_at m j
test-same m m' j h = rw (h (test_place j) (omega arith) (omega arith), h (test_left j) (omega arith) (omega arith), h (test_right j) (omega arith) (omega arith))

pub tests_same : (m m' : List ℕ) (t : ℕ) → ((j : ℕ) → j < t → test_at m' j ≡ test_at m j) → tests_in m' t ≡ tests_in m t
unfolding tests_in
tests_same m m' zero h = refl
tests_same m m' (suc t) h = ap₂ (λ (x : Noted) (l : List Noted). x ∷ l) (h t (omega arith)) (tests_same m m' t (λ j g. h j (omega arith)))

outcomes-more : (m : List ℕ) (i n : ℕ) → outcomes_in m i (suc n) ≡ outcomes_in m i n ++ outcome_as (get_or m (outcome_place (i + n)) 0) ∷ []
unfolding outcomes_in
outcomes-more m i zero = ap (λ (j : ℕ). outcome_as (get_or m (outcome_place j) 0) ∷ []) {x = i} {y = i + 0} (omega arith)
outcomes-more m i (suc n) = ap (λ (l : List Bool). outcome_as (get_or m (outcome_place i) 0) ∷ l)
    (outcomes-more m (suc i) n ∙ ap (λ (j : ℕ). outcomes_in m (suc i) n ++ outcome_as (get_or m (outcome_place j) 0) ∷ []) {x = suc i + n} {y = i + suc n} (omega arith))

-- ---- the test and the outcome of choice t are written

module _ {m m' : List ℕ} (t : ℕ) (o : Other m m' (test_place t) (outcome_end t)) where
  noted-windows : (k : ℕ) → windows_in m' k ≡ windows_in m k
  noted-windows k = windows-same m m' k (λ i a b. o.outside i (λ u v. omega arith))

  noted-node : (j : ℕ) → node_at m' j ≡ node_at m j
  noted-node j = node-same m m' j (λ i a b. o.outside i (λ u v. omega arith))

  noted-nodes : (n : ℕ) → nodes_in m' n ≡ nodes_in m n
  noted-nodes n = nodes-same m m' n (λ j l. noted-node j)

  noted-ranges : (n : ℕ) → ranges_in m' n ≡ ranges_in m n
  noted-ranges n = ranges-same m m' n (λ j l. rw (o.outside (range_low j) (λ u v. omega arith), o.outside (range_high j) (λ u v. omega arith)) refl)

  pub noted-tables : (k n : ℕ) → length m' ≡ length m → Tables m k n → Tables m' k n
  noted-tables k n l h = record {
    count = h.count;
    room = room-same l h.room;
    some = subst Windows (sym (noted-windows k)) h.some;
    named = λ j g. subst (Named k) (sym (noted-node j)) (h.named j g);
    is = noted-ranges n ∙ h.is ∙ sym (ap₂ ranges (noted-windows k) (noted-nodes n));
  }

  pub noted-undecided : (n : ℕ) (c : Cmp) (b : Bool) (v w : code.Value) → Undecided m n c v w → Undecided m' n (holding b c) v w
  noted-undecided n c b v w h = record {
    left-sized = h.left-sized;
    left = h.left;
    right-sized = h.right-sized;
    right = h.right;
    is = ap (λ rs. decided (holding b c) (range_in rs (cell_of v)) (range_in rs (cell_of w))) (noted-ranges n) ∙ by b;
  }
    where
      by : (b : Bool) → decided (holding b c) (range_in (ranges_in m n) (cell_of v)) (range_in (ranges_in m n) (cell_of w)) ≡ none
      by true = h.is
      by false = undecided-negated c (range_in (ranges_in m n) (cell_of v)) (range_in (ranges_in m n) (cell_of w)) h.is

pub other-both : {m m₁ m₂ : List ℕ} {t f : ℕ} {o : Bool} {x : Noted} → Taken m m₁ t f o → Noting m₁ m₂ t x → Other m m₂ (test_place t) (outcome_end t)
other-both a b = record { outside = λ i h. b.other.outside i (λ u v. h u (omega arith)) ∙ a.other.outside i (λ u v. h (omega arith) v) }

-- ---- the choice

module _ (m m₁ m₂ m₃ : List ℕ) (p : Point) (c d : Cmp) (v w : code.Value) (o : Bool) (a : Taken m m₁ p.choices p.forced o) (b : Noting m₁ m₂ p.choices (test_by d v w))
    (s : Narrowed m₂ m₃ p.windows p.run.nodes d v w)
    (e : d ≡ holding o c) (before : Standing m p) (u : Undecided m p.run.nodes c v w) where
  abbrev t : ℕ
  t = p.choices

  abbrev n : ℕ
  n = p.run.nodes

  both : Other m m₂ (test_place t) (outcome_end t)
  both = other-both a b

  away : (i : ℕ) → (test_place t ≤ i → i < outcome_end t → ⊥) → (windows_place ≤ i → i < windows_end → ⊥) → ((j : ℕ) → j < n → range_low j ≤ i → i < range_end j → ⊥) → get_or m₃ i 0 ≡ get_or m i 0
  away i f g h = s.beside.other i g h ∙ both.outside i f

  nodes-are : nodes_in m₃ n ≡ nodes_in m n
  nodes-are = nodes-same m m₃ n (λ j l. node-same m m₃ j (λ i x y. away i (λ f g. omega arith) (λ f g. omega arith) (λ k l f g. omega arith)))

  older : (j : ℕ) → j < t → test_at m₃ j ≡ test_at m j
  older j l = test-same m m₃ j (λ i x y. away i (λ f g. omega arith) (λ f g. omega arith) (λ k l f g. omega arith))

  newest : test_at m₃ t ≡ test_by d v w
  newest = test-same m₂ m₃ t (λ i x y. s.beside.other i (λ f g. omega arith) (λ k l f g. omega arith)) ∙ b.is

  tests-are : tests_in m₃ (t + 1) ≡ test_by d v w ∷ tests_in m t
  unfolding tests_in
  tests-are = ap (tests_in m₃) (add-one t) ∙ ap₂ (λ (x : Noted) (l : List Noted). x ∷ l) newest (tests_same m m₃ t older)

  forced-are : outcomes_in m₃ (t + 1) (p.forced - 1) ≡ later (outcomes_in m t p.forced)
  forced-are = outcomes-same m₁ m₃ (t + 1) (p.forced - 1) (λ j f g. s.beside.other (outcome_place j) (λ x y. omega arith) (λ k l x y. omega arith)
      ∙ b.other.outside (outcome_place j) (λ x y. omega arith)) ∙ a.rest

  chosen-are : outcomes_in m₃ 0 (t + 1) ≡ outcomes_in m 0 t ++ o ∷ []
  chosen-are =
      ap (outcomes_in m₃ 0) (add-one t) ∙ outcomes-more m₃ 0 t
      ∙ ap₂ (λ (l : List Bool) (x : Bool). l ++ x ∷ [])
      (outcomes-same m m₃ 0 t (λ j f g. away (outcome_place j) (λ x y. omega arith) (λ x y. omega arith) (λ k l x y. omega arith)))
      (ap (λ (j : ℕ). outcome_as (get_or m₃ (outcome_place j) 0)) {x = 0 + t} {y = t} (omega arith)
      ∙ ap outcome_as (s.beside.other (outcome_place t) (λ x y. omega arith) (λ k l x y. omega arith) ∙ b.other.outside (outcome_place t) (λ x y. omega arith)) ∙ a.is)

  windows-are : windows_in m₃ p.windows ≡ narrowed (holding o c) (meant m n v) (meant m n w) (windows_in m p.windows)
  windows-are = s.windows ∙ (λ i. narrowed (e i) (meaning (noted-nodes t both n i) (cell_of v)) (meaning (noted-nodes t both n i) (cell_of w)) (noted-windows t both p.windows i))

  starts-are : starts_in m₃ p.windows ≡ starts_in m p.windows
  starts-are = starts-same m m₃ p.windows (λ i x y. away i (λ f g. omega arith) (λ f g. omega arith) (λ k l f g. omega arith))

  pub chose-so : Chose m m₃ p c v w o
  chose-so = record {
    machinery = record {
      low = λ k l. away k (λ f g. omega arith) (λ f g. omega arith) (λ q h f g. omega arith);
      tables = λ k j x y. away k (λ f g. omega arith) (λ f g. omega arith) (λ q l f g. omega arith);
    };
    stays = record {
      nodes = λ k j l x y. away k (λ f g. omega arith) (λ f g. omega arith) (λ q h f g. omega arith);
      tests = λ k j l x y. away k (λ f g. omega arith) (λ f g. omega arith) (λ q h f g. omega arith);
      marks = λ k j x y. away k (λ f g. omega arith) (λ f g. omega arith) (λ q h f g. omega arith);
    };
    next = a.next;
    is = λ i. state p.steps (8 - p.windows) (windows-are i) (starts-are i) ((ap₂ (λ (ns : List Node) (ts : List Noted). map (test_of ns) ts) nodes-are tests-are
        ∙ ap (λ (x : Cmp). as_test x (meant m n v) (meant m n w) ∷ map (test_of (nodes_in m n)) (tests_in m t)) e) i) (forced-are i) (chosen-are i);
    standing = record {
      tables = s.tables;
      tested = λ j l. ⊎_elim
          (λ q. subst (λ (j : ℕ). Tested n (test_at m₃ j)) {x = t} {y = j} (omega arith) (subst (Tested n) (sym newest) (record { left = u.left; right = u.right })))
          (λ g. subst (Tested n) (sym (older j (omega arith))) (before.tested j (omega arith)))
          (eq-or-lt_of_le {n = suc j} {m = t + 1} (omega arith));
    };
  }
