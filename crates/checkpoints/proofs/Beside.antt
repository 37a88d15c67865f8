-- Where only marks change, all that a path stands on is as it was; and a checkpoint stays where its marks do.
use mathlib.Core.Path.{◌≡◌, refl, sym, ap, ap₂, ◌∙◌, subst}
use mathlib.Core.Bool.{Bool, true, false}
use mathlib.Core.List.{List, map}
use Prim.Native.Nat.{ℕ, ◌+◌, ◌-◌, ◌≤◌, ◌<◌}
use native.Mathlib.Omega.{arith}
use lib.ListN.{length, get_or}
use Rattle.simulation.specs.Path.{state}
use Rattle.simulation.specs.Nodes.{test_of, ranges}
use Rattle.machine.specs.Layout.{outcome_place, outcome_end, index_end, range_low, range_high, mark_place, mark_number}
use Rattle.machine.specs.Memory.{node_at, nodes_in, windows_in, test_at, outcome_as, outcomes_in}
use Rattle.machine.proofs.Tables.{room-same}
use Rattle.paths.specs.declared.Point.{Point}
use Rattle.paths.specs.Table.{Windows}
use Rattle.paths.specs.Choice.{Named}
use Rattle.paths.specs.Point.{state_at, Tested, Machinery, Going}
use Rattle.paths.proofs.Table.{windows-same, starts-same, node-same, nodes-same, ranges-same}
use Rattle.paths.proofs.Choice.{outcomes-same}
use Rattle.paths.proofs.Choosing.{test-same, tests_same}
use Rattle.paths.proofs.Machinery.{ready-stays}
use Rattle.checkpoints.specs.Live.{framed, called, windowed, live_pairs, size_of, number_count, Marking, Unused}
use Rattle.checkpoints.specs.Words.{bit_of, numbers_of, number_at, point_at, Numbered, Lives, Saved}
use Rattle.checkpoints.proofs.Places.{times-on}

-- ---- only marks changed

module _ (m m' : List ℕ) (w n : ℕ) (k : Marking m m' w n) where
  pub off : (x : ℕ) → ((j : ℕ) → outcome_end j ≤ x → x < index_end j → ⊥) → get_or m' x 0 ≡ get_or m x 0
  off x h = k.other x (λ i a b u v. h i u v)

  pub machinery-is : Machinery m m'
  machinery-is = record { low = λ x l. off x (λ j u v. omega arith); tables = λ x j a b. off x (λ q u v. omega arith) }

  windows-are : (i : ℕ) → windows_in m' i ≡ windows_in m i
  windows-are i = windows-same m m' i (λ x a b. off x (λ j u v. omega arith))

  node-is : (j : ℕ) → node_at m' j ≡ node_at m j
  node-is j = node-same m m' j (λ x a b. off x (λ q u v. omega arith))

  nodes-are : (i : ℕ) → nodes_in m' i ≡ nodes_in m i
  nodes-are i = nodes-same m m' i (λ j l. node-is j)

  test-is : (j : ℕ) → test_at m' j ≡ test_at m j
  test-is j = test-same m m' j (λ x a b. off x (λ q u v. omega arith))

  outcomes-are : (i f : ℕ) → outcomes_in m' i f ≡ outcomes_in m i f
  outcomes-are i f = outcomes-same m m' i f (λ j a b. off (outcome_place j) (λ q u v. omega arith))

  pub state-is : (p : Point) → state_at m' p ≡ state_at m p
  state-is p = λ i. state p.steps (8 - p.windows) (windows-are p.windows i) (starts-same m m' p.windows (λ x a b. off x (λ j u v. omega arith)) i)
      (map (test_of (nodes-are p.run.nodes i)) (tests_same m m' p.choices (λ j l. test-is j) i)) (outcomes-are p.choices p.forced i) (outcomes-are 0 p.choices i)

  pub going-is : (p : Point) → length m' ≡ length m → Going m p → Going m' p
  going-is p len g = record {
    ready = ready-stays machinery-is p.run len g.ready;
    standing = record {
      tables = record {
        count = g.standing.tables.count;
        room = room-same len g.standing.tables.room;
        some = subst Windows (sym (windows-are p.windows)) g.standing.tables.some;
        named = λ j l. subst (Named p.windows) (sym (node-is j)) (g.standing.tables.named j l);
        is = ranges-same m m' p.run.nodes (λ j l. rw (off (range_low j) (λ q u v. omega arith), off (range_high j) (λ q u v. omega arith)) refl)
            ∙ g.standing.tables.is ∙ sym (ap₂ ranges (windows-are p.windows) (nodes-are p.run.nodes));
      };
      tested = λ j l. subst (Tested p.run.nodes) (sym (test-is j)) (g.standing.tested j l);
    };
    tops = room-same len g.tops;
    nodes = room-same len g.nodes;
    choices = room-same len g.choices;
  }

-- ---- a point's numbers

flag_is : (o : Bool) → outcome_as (bit_of o) ≡ o
flag_is true = refl
flag_is false = refl

point-same : (m m' : List ℕ) (w : ℕ) → ((v : ℕ) → w ≤ v → v < w + number_count → number_at m' v ≡ number_at m v) → point_at m' w ≡ point_at m w
point-same m m' w h = λ i. record {
  run = record {
    pc = h w (omega arith) (omega arith) i;
    flag = outcome_as (h (w + 1) (omega arith) (omega arith) i);
    base = h (w + 2) (omega arith) (omega arith) i;
    top = h (w + 3) (omega arith) (omega arith) i;
    depth = h (w + 4) (omega arith) (omega arith) i;
    nodes = h (w + 5) (omega arith) (omega arith) i;
  };
  steps = h (w + 6) (omega arith) (omega arith) i;
  windows = h (w + 7) (omega arith) (omega arith) i;
  choices = h (w + 8) (omega arith) (omega arith) i;
  forced = 0;
}

point-is : (m : List ℕ) (p : Point) (w : ℕ) → p.forced ≡ 0 → ((i : ℕ) → i < number_count → number_at m (w + i) ≡ get_or (numbers_of p) i 0) → point_at m w ≡ p
point-is m p w e h = λ i. record {
  run = record {
    pc = (ap (number_at m) {x = w} {y = w + 0} (omega arith) ∙ h 0 (omega arith)) i;
    flag = (ap outcome_as (h 1 (omega arith)) ∙ flag_is p.run.flag) i;
    base = h 2 (omega arith) i;
    top = h 3 (omega arith) i;
    depth = h 4 (omega arith) i;
    nodes = h 5 (omega arith) i;
  };
  steps = h 6 (omega arith) i;
  windows = h 7 (omega arith) i;
  choices = h 8 (omega arith) i;
  forced = sym e i;
}

-- ---- a checkpoint

module _ (n : ℕ) where
  -- it stays where its marks do
  pub saved-stays : (m m' m₀ : List ℕ) (p : Point) (w : ℕ) → ((i x : ℕ) → w ≤ i → i < w + size_of n p → mark_place i ≤ x → x < index_end i → get_or m' x 0 ≡ get_or m x 0) → length m' ≡ length m
      → Saved n m m₀ p w → Saved n m' m₀ p w
  saved-stays m m' m₀ p w h len s =
      let d = p.run.depth in
      record {
        lives = record {
          frames = λ j a b l g k. let o = times-on n j d l in h (w + framed n j + a) (mark_place (w + framed n j + a) + b) (omega arith) (omega arith) (omega arith) (omega arith) ∙ s.lives.frames j a b l g k;
          callers = λ j b l k. h (w + framed n d + j) (mark_place (w + framed n d + j) + b) (omega arith) (omega arith) (omega arith) (omega arith) ∙ s.lives.callers j b l k;
          windows = λ j b l k. h (w + called n d + j) (mark_place (w + called n d + j) + b) (omega arith) (omega arith) (omega arith) (omega arith) ∙ s.lives.windows j b l k;
          temporaries = λ j b l k.
              h (w + windowed n d p.windows + j) (mark_place (w + windowed n d p.windows + j) + b) (omega arith) (omega arith) (omega arith) (omega arith) ∙ s.lives.temporaries j b l k;
        };
        unused = s.unused;
        numbers = point-same m m' (w + size_of n p - number_count) (λ v a b. h v (mark_number v) (omega arith) (omega arith) (omega arith) (omega arith)) ∙ s.numbers;
        going = s.going;
        same_length = s.same_length ∙ sym len;
      }

  -- it is written
  pub saved-so : (m m₁ m₂ : List ℕ) (p : Point) (w : ℕ) → Going m p → Unused n m p.run.depth → p.forced ≡ 0 → length m₂ ≡ length m → Lives n m₁ m p w × Marking m m₁ w (live_pairs n p)
      → Numbered m₁ m₂ (numbers_of p) (w + size_of n p - number_count) number_count → Saved n m₂ m p w × Marking m m₂ w (size_of n p)
  saved-so m m₁ m₂ p w g u e len a b =
      let d = p.run.depth in (
        record {
          lives = record {
            frames = λ j q r l f k. pair (w + framed n j + q) r k ∙ a.0.frames j q r l f k;
            callers = λ j r l k. pair (w + framed n d + j) r k ∙ a.0.callers j r l k;
            windows = λ j r l k. pair (w + called n d + j) r k ∙ a.0.windows j r l k;
            temporaries = λ j r l k. pair (w + windowed n d p.windows + j) r k ∙ a.0.temporaries j r l k;
          };
          unused = u;
          numbers = point-is m₂ p (w + size_of n p - number_count) e b.numbers;
          going = g;
          same_length = sym len;
        },
        record { other = λ x h. b.other x (λ i c l f. h i (omega arith) (omega arith) (omega arith) (omega arith)) ∙ a.1.other x (λ i c l. h i c (omega arith)) },
      )
    where
      -- numbers stand beside the pairs
      pair : (i r : ℕ) → r < 2 → get_or m₂ (mark_place i + r) 0 ≡ get_or m₁ (mark_place i + r) 0
      pair i r l = b.other (mark_place i + r) (λ q c k f. omega arith)
