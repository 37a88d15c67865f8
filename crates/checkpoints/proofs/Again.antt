-- Once the live words are back and the ranges are worked anew, what stands in the memory is what stood at the checkpoint.
use mathlib.Core.Path.{◌≡◌, refl, sym, ap, ap₂, ◌∙◌, subst}
use mathlib.Core.List.{List, [], ◌∷◌, map}
use Prim.Native.Nat.{ℕ, zero, suc, ◌+◌, ◌-◌, ◌*◌, ◌/◌, ◌%◌, ◌≤◌, ◌<◌}
use native.Mathlib.Decide.{dec_lt}
use native.Mathlib.Omega.{arith}
use lib.ListN.{length, get_or, take}
use mir.Syntax.{w32}
use mir.Val.{to_z}
use Rattle.semantics.specs.Program.{Window}
use Rattle.simulation.specs.Machine.{machine}
use Rattle.simulation.specs.Path.{state}
use Rattle.simulation.specs.Nodes.{Cell, Node, meaning, Within, test_of, ranges}
use Rattle.intervals.specs.Meaning.{of_pair, of_pairs}
use Rattle.window_memory.specs.Memory.{pairs_at}
use Rattle.machine.specs.Layout.{frame_words, frame_place, variable_place, callers_place, windows_place, temp_place, node_place, node_end, test_place, outcome_place, index_end}
use Rattle.machine.specs.Memory.{node_at, nodes_in, machine_at, windows_in, starts_in, test_at, tests_in, outcomes_in}
use Rattle.machine.specs.Terms.{Room, Ready}
use Rattle.machine.proofs.Tables.{Same, stacked-same, frame_same, temps-same, callers-same, room-same}
use Rattle.machine.proofs.Stays.{held_stays, framed-stays}
use Rattle.paths.specs.declared.Point.{Point}
use Rattle.paths.specs.Table.{Windows, Anew}
use Rattle.paths.specs.Choice.{Named}
use Rattle.paths.specs.Point.{Tested, Standing}
use Rattle.paths.proofs.Table.{starts-same, node-same, nodes-same}
use Rattle.paths.proofs.Choice.{outcomes-same}
use Rattle.paths.proofs.Choosing.{test-same, tests_same}
use Rattle.checkpoints.specs.Live.{number_count, size_of, HasLive, Unused}
use Rattle.checkpoints.specs.Words.{point_at, Alive, Back, Saved, Agrees, forced, Restored, EndsBefore}
use Rattle.checkpoints.proofs.Places.{in_pairs}

-- the first pairs, where the words of these stay
pairs-front : (m m' : List ℕ) (i n k : ℕ) → ((x : ℕ) → i ≤ x → x < i + 2 * k → get_or m' x 0 ≡ get_or m x 0) → take k (of_pairs (pairs_at m' i n)) ≡ take k (of_pairs (pairs_at m i n))
unfolding pairs_at
pairs-front m m' i n zero h = refl
pairs-front m m' i zero (suc k) h = refl
pairs-front m m' i (suc n) (suc k) h =
    ap₂ (λ (w : Window) (ws : List Window). w ∷ ws) (ap₂ (λ (a b : ℕ). of_pair (to_z w32 a ∷ to_z w32 b ∷ [])) (h i (omega arith) (omega arith)) (h (i + 1) (omega arith) (omega arith)))
    (pairs-front m m' (i + 2) n k (λ x a b. h x (omega arith) (omega arith)))

-- the frames up to frame d, cell by cell
frames-alike : (n : ℕ) (m m' : List ℕ) (d : ℕ) → Unused n m d → Unused n m' d → ((j a b : ℕ) → j < d → a < n → b < 2 → get_or m' (variable_place (j + 1) a + b) 0 ≡ get_or m (variable_place (j + 1) a + b) 0)
    → (x : ℕ) → x < frame_place (d + 1) → get_or m' x 0 ≡ get_or m x 0
frames-alike n m m' d u v h x l = by (dec_lt x frame_words) (dec_lt (x % 32 / 2) n)
  where
    At : ℕ → Type 0
    At y = get_or m' y 0 ≡ get_or m y 0

    by : Dec (x < frame_words) → Dec (x % 32 / 2 < n) → At x
    by (yes a) b = v.first x a ∙ sym (u.first x a)
    by (no a) (yes b) = subst At {x = variable_place (x / 32 - 1 + 1) (x % 32 / 2) + x % 2} {y = x} (omega arith) (h (x / 32 - 1) (x % 32 / 2) (x % 2) (omega arith) b (omega arith))
    by (no a) (no b) = subst At {x = variable_place (x / 32) (x % 32 / 2) + x % 2} {y = x} (omega arith)
        (v.slim.rest (x / 32) (x % 32 / 2) (x % 2) (omega arith) (omega arith) (omega arith) (omega arith) ∙ sym (u.slim.rest (x / 32) (x % 32 / 2) (x % 2) (omega arith) (omega arith) (omega arith) (omega arith)))

module _ (n : ℕ) (m m₀ m₁ : List ℕ) (p : Point) (w : ℕ) (fits : n ≤ 16) (saved : Saved n m m₀ p w) (agrees : Agrees m m₀ p) (back : Back n m m₁ p w) (len : length m₁ ≡ length m) where
  abbrev d : ℕ
  d = p.run.depth

  abbrev k : ℕ
  k = p.windows

  abbrev c : ℕ
  c = p.run.nodes

  deep : d ≤ 32
  deep = saved.going.ready.deep

  few : k ≤ 8
  few = saved.going.standing.tables.count

  -- what is live is what was, and all of the tables but the temporaries is as it was
  alive : Alive n m₀ m₁ p
  alive = back.alive m₀ saved.lives

  table₁ : (x j : ℕ) → node_place j ≤ x → x < index_end j → get_or m₁ x 0 ≡ get_or m x 0
  table₁ x j a b = back.other x (omega arith) (λ q r l g e. omega arith)

  windows₁ : windows_in m₁ k ≡ windows_in m₀ k
  windows₁ = pairs-front m₀ m₁ windows_place 8 k (in_pairs m₀ m₁ windows_place k alive.windows)

  pub some₁ : Windows (windows_in m₁ k)
  some₁ = subst Windows (sym windows₁) saved.going.standing.tables.some

  nodes₁ : nodes_in m₁ c ≡ nodes_in m₀ c
  nodes₁ = nodes-same m₀ m₁ c (λ j l. node-same m₀ m₁ j (λ x a b. table₁ x j (omega arith) (omega arith) ∙ agrees.nodes x j l a b))

  module _ (m₂ : List ℕ) (anew : Anew m₁ m₂ k c) (len₂ : length m₂ ≡ length m₁) where
    -- the ranges were written
    low₂ : (x : ℕ) → x < 1200 → get_or m₂ x 0 ≡ get_or m₁ x 0
    low₂ x l = anew.other x (λ j h a b. omega arith)

    node₂ : (x j : ℕ) → node_place j ≤ x → x < node_end j → get_or m₂ x 0 ≡ get_or m x 0
    node₂ x j a b = anew.other x (λ q h u v. omega arith) ∙ table₁ x j (omega arith) (omega arith)

    test₂ : (x j : ℕ) → test_place j ≤ x → x < index_end j → get_or m₂ x 0 ≡ get_or m x 0
    test₂ x j a b = anew.other x (λ q h u v. omega arith) ∙ table₁ x j (omega arith) (omega arith)

    windows₂ : windows_in m₂ k ≡ windows_in m₀ k
    windows₂ = pairs-front m₀ m₂ windows_place 8 k (λ x a b. low₂ x (omega arith) ∙ in_pairs m₀ m₁ windows_place k alive.windows x a b)

    starts-are : (i : ℕ) → starts_in m₂ i ≡ starts_in m i
    starts-are i = starts-same m m₂ i (λ x a b. low₂ x (omega arith) ∙ back.other x (omega arith) (λ q r l g e. omega arith))

    starts₂ : starts_in m₂ k ≡ starts_in m₀ k
    starts₂ = starts-are k ∙ agrees.starts

    node-is : (j : ℕ) → j < c → node_at m₂ j ≡ node_at m₀ j
    node-is j l = node-same m₀ m₂ j (λ x a b. node₂ x j a b ∙ agrees.nodes x j l a b)

    nodes₂ : nodes_in m₂ c ≡ nodes_in m₀ c
    nodes₂ = nodes-same m₀ m₂ c node-is

    test-is : (j : ℕ) → j < p.choices → test_at m₂ j ≡ test_at m₀ j
    test-is j l = test-same m₀ m₂ j (λ x a b. test₂ x j a (omega arith) ∙ agrees.tests x j l a (omega arith))

    tests₂ : tests_in m₂ p.choices ≡ tests_in m₀ p.choices
    tests₂ = tests_same m₀ m₂ p.choices test-is

    chosen₂ : outcomes_in m₂ 0 p.choices ≡ outcomes_in m₀ 0 p.choices
    chosen₂ = outcomes-same m₀ m₂ 0 p.choices (λ j a b. test₂ (outcome_place j) j (omega arith) (omega arith) ∙ agrees.tests (outcome_place j) j (omega arith) (omega arith) (omega arith))

    forced₂ : (f : ℕ) → outcomes_in m₂ p.choices f ≡ outcomes_in m p.choices f
    forced₂ f = outcomes-same m m₂ p.choices f (λ j a b. test₂ (outcome_place j) j (omega arith) (omega arith))

    -- the machine
    same : Same m₀ m₂ (d + 1) d p.run.top c
    same = record {
      d-fits = omega (arith, deep);
      c-fits = deep;
      frames = λ x l. low₂ x (omega (arith, deep)) ∙ frames-alike n m₀ m₁ d saved.unused back.unused alive.frames x l;
      saved = λ x a b. low₂ x (omega (arith, deep)) ∙ in_pairs m₀ m₁ callers_place d alive.callers x a b;
      held = λ x j l a b. anew.other x (λ q h u v. omega arith) ∙ subst (λ (y : ℕ). get_or m₁ y 0 ≡ get_or m₀ y 0) {x = temp_place j + (x - temp_place j)} {y = x} (omega arith) (alive.temporaries j (x - temp_place j) l (omega arith));
    }

    agree : (v : Cell) → Within c v → meaning (nodes_in m₂ c) v ≡ meaning (nodes_in m₀ c) v
    agree v h = ap (λ (l : List Node). meaning l v) nodes₂

    ready : Ready m₀ p.run
    ready = saved.going.ready

    machine₂ : machine_at m₂ p.run ≡ machine_at m₀ p.run
    machine₂ =
        let f = meaning (nodes_in m₀ c) in
        let f₂ = meaning (nodes_in m₂ c) in
        sym (λ i. machine p.run.pc p.run.flag (temps-same same f f₂ agree p.run.base (p.run.top - p.run.base) (omega (arith, ready.low)) ready.held i)
        (frame_same same f f₂ agree d (omega arith) ready.framed i)
        (callers-same same f f₂ agree d p.run.base (omega arith) (omega arith) ready.low ready.stack (λ j g. ready.framed j (omega arith)) ready.held i) (32 - d))

    ready₂ : Ready m₂ p.run
    ready₂ = record {
      deep = deep;
      low = ready.low;
      tops = room-same {m = m₀} {m' = m₂} (len₂ ∙ len ∙ sym saved.same_length) ready.tops;
      few = room-same {m = m₀} {m' = m₂} (len₂ ∙ len ∙ sym saved.same_length) ready.few;
      stack = stacked-same same d p.run.base (omega arith) ready.stack;
      framed = λ i l. framed-stays m₀ m₂ p.run (d + 1) p.run.top c same ready (omega arith) (omega arith) i (omega arith) l;
      held = λ i l. held_stays m₀ m₂ p.run (d + 1) p.run.top c same ready (omega arith) (omega arith) i l;
    }

    standing₂ : Standing m₂ p
    standing₂ =
        let s = saved.going.standing in
        record {
          tables = record {
            count = few;
            room = room-same {m = m₀} {m' = m₂} (len₂ ∙ len ∙ sym saved.same_length) s.tables.room;
            some = subst Windows (sym windows₂) s.tables.some;
            named = λ j l. subst (Named k) (sym (node-is j l)) (s.tables.named j l);
            is = anew.is ∙ ap₂ ranges (windows₁ ∙ sym windows₂) (nodes₁ ∙ sym nodes₂);
          };
          tested = λ j l. subst (Tested c) (sym (test-is j l)) (s.tested j l);
        }

    pub again : (q : Point) (f : ℕ) → q ≡ forced p f → Restored m m₀ m₂ p q f
    again q f e = subst (λ (q : Point). Restored m m₀ m₂ p q f) (sym e) (record {
      point = refl;
      machine = machine₂;
      state = λ i. state p.steps (8 - k) (windows₂ i) (starts₂ i) (map (test_of (nodes₂ i)) (tests₂ i)) (forced₂ f i) (chosen₂ i);
      going = record {
        ready = ready₂;
        standing = record { tables = standing₂.tables; tested = standing₂.tested };
        tops = room-same {m = m₀} {m' = m₂} (len₂ ∙ len ∙ sym saved.same_length) saved.going.tops;
        nodes = room-same {m = m₀} {m' = m₂} (len₂ ∙ len ∙ sym saved.same_length) saved.going.nodes;
        choices = room-same {m = m₀} {m' = m₂} (len₂ ∙ len ∙ sym saved.same_length) saved.going.choices;
      };
      stays = record {
        nodes = λ x j l a b. node₂ x j a b;
        tests = λ x j l a b. test₂ x j a (omega arith);
        marks = λ x j a b. test₂ x j (omega arith) b;
      };
      starts = starts-are;
    })

-- ---- by the numbers that end before mark w

module _ (n : ℕ) (m : List ℕ) (w : ℕ) (q : Point) (fits : n ≤ 16) (read : q ≡ point_at m (w - number_count)) where
  is-point : (m₀ : List ℕ) (p : Point) (v : ℕ) → w ≡ v + size_of n p → Saved n m m₀ p v → q ≡ p
  is-point m₀ p v e s = read ∙ ap (point_at m) {x = w - number_count} {y = v + size_of n p - number_count} (omega arith) ∙ s.numbers

  pub reaches-so : EndsBefore n m w → HasLive m q × (size_of n q ≤ w)
  reaches-so h =
      let g = h.saved.going in
      subst (λ (p : Point). HasLive m p × (size_of n p ≤ w)) (sym (is-point h.before h.point h.start h.size h.saved)) (
        record { deep = g.ready.deep; few = g.standing.tables.count; tops = room-same {m = h.before} {m' = m} (sym h.saved.same_length) g.ready.tops },
        omega (arith, h.size),
      )

  module _ (m₁ : List ℕ) (v : ℕ) (back : Back n m m₁ q v) (at : v + size_of n q ≡ w) (len : length m₁ ≡ length m) where
    back_as : (m₀ : List ℕ) (p : Point) (u : ℕ) → w ≡ u + size_of n p → Saved n m m₀ p u → Back n m m₁ p u
    back_as m₀ p u e s =
        let f = is-point m₀ p u e s in
        subst (Back n m m₁ p) {x = v} {y = u} (omega (arith, ap (size_of n) f)) (subst (λ (p : Point). Back n m m₁ p v) f back)

    pub ranges-asked : EndsBefore n m w → (q.windows ≤ 8) × Room m₁ q.run.nodes × Windows (windows_in m₁ q.windows)
    ranges-asked h =
        let g = h.saved.going in
        subst (λ (p : Point). (p.windows ≤ 8) × Room m₁ p.run.nodes × Windows (windows_in m₁ p.windows)) (sym (is-point h.before h.point h.start h.size h.saved)) (
          g.standing.tables.count,
          room-same {m = h.before} {m' = m₁} (len ∙ sym h.saved.same_length) g.ready.few,
          some₁ n m h.before m₁ h.point h.start fits h.saved h.agrees (back_as h.before h.point h.start h.size h.saved) len,
        )

    pub restored-so : (m₂ : List ℕ) (k : ℕ) (r : Point) → Anew m₁ m₂ q.windows q.run.nodes → length m₂ ≡ length m₁ → r ≡ forced q (k - q.choices)
        → (m₀ : List ℕ) (p : Point) (u : ℕ) → w ≡ u + size_of n p → Saved n m m₀ p u → Agrees m m₀ p → Restored m m₀ m₂ p r (k - p.choices)
    restored-so m₂ k r anew len₂ e m₀ p u g s a =
        let f = is-point m₀ p u g s in
        again n m m₀ m₁ p u fits s a (back_as m₀ p u g s) len m₂ (subst (λ (p : Point). Anew m₁ m₂ p.windows p.run.nodes) f anew) len₂ r (k - p.choices)
        (e ∙ ap (λ (p : Point). forced p (k - p.choices)) f)
