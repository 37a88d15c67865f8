-- Turns in the memory: what a step, a comparison and a free declaration are within the limits.
use mathlib.Core.Path.{◌≡◌, refl, sym, ap, ap₂, ◌∙◌, subst}
use mathlib.Core.Bool.{Bool}
use mathlib.Core.Option.{Option}
use mathlib.Core.List.{List, [], ◌∷◌, ◌++◌, map}
use Prim.Native.Nat.{ℕ, zero, suc, ◌+◌, ◌-◌, ◌≤◌, ◌<◌}
use native.Mathlib.Omega.{arith}
use lib.Dec.{eqb}
use borrow.Author.Tests.{ne_eqb}
use lib.ListN.{length}
use Rattle.semantics.specs.Int.{Cmp}
use Rattle.semantics.specs.Program.{Window}
use Rattle.semantics.specs.Run.{pair_of}
use Rattle.semantics.specs.Search.{Value, Test, unknown, in_use}
use Rattle.simulation.specs.Machine.{Machine, Doing}
use Rattle.simulation.specs.Path.{State, state, Turn, cut, on, ended, still, fresh, comparing, turning}
use Rattle.simulation.specs.Nodes as nodes
use Rattle.simulation.specs.Nodes.{Noted, test_of}
use Rattle.intervals.specs.Meaning.{Filled}
use Rattle.machine.specs.Memory.{node_at, nodes_in, machine_at, windows_in, starts_in, tests_in, outcomes_in, test_at}
use Rattle.machine.specs.Terms.{meant, Room, Ready, flagged}
use Rattle.machine.specs.declared.Run.{Run}
use Rattle.machine.specs.declared.Value as code
use Rattle.paths.specs.declared.Point.{Point}
use Rattle.paths.specs.Table.{Ranged}
use Rattle.paths.specs.Choice.{Tables, Reached}
use Rattle.paths.specs.Point.{state_at, Tested, Standing, Machinery, Compared}
use Rattle.paths.specs.Turn.{Growing, Grown, spending, declaring, Onward, Stops}
use Rattle.paths.proofs.Choice.{windows-length}
use Rattle.paths.proofs.Machinery.{machinery-then, machine-stays, ready-stays}
use Rattle.paths.proofs.Growing.{range-machinery, range-windows, range-starts, range-nodes, range-test, range-tests, range-outcomes, window-machinery, window-nodes, window-test, window-tests, window-outcomes, tested-more, tests-grow, reached-tables}

-- ---- turns of the definition

-- whether a step is a move
fresh-is : (m : List ℕ) (i f : ℕ) → fresh (outcomes_in m i f) ≡ eqb f 0
unfolding outcomes_in
fresh-is m i zero = refl
fresh-is m i (suc f) = sym (ne_eqb (suc f) 0 (λ e. omega arith))

one_more : (n : ℕ) → 1 ≤ n → n ≡ suc (n - 1)
one_more n h = omega arith

module _ (job : Window) (f : ℕ) (ws ps : List Window) (ts : List Test) (p h : List Bool) where
  step-none : (x : Machine Value) → turning in_use job (Doing.step x) (state 0 f ws ps ts p h) ≡ still (ended cut (state 0 f ws ps ts p h))
  unfolding turning
  step-none x = refl

  step-one : (x : Machine Value) (l : ℕ) → turning in_use job (Doing.step x) (state (suc l) f ws ps ts p h) ≡ record { move = fresh p; went = on x (state l f ws ps ts p h) }
  unfolding turning
  step-one x l = refl

  test-none : (c : Cmp) (a b : Value) (k : Bool → Machine Value) → turning in_use job (Doing.test c a b k) (state 0 f ws ps ts p h) ≡ still (ended cut (state 0 f ws ps ts p h))
  unfolding turning
  test-none c a b k = refl

  test-one : (c : Cmp) (a b : Value) (k : Bool → Machine Value) (l : ℕ) → turning in_use job (Doing.test c a b k) (state (suc l) f ws ps ts p h)
      ≡ record { move = fresh p; went = comparing in_use job c a b k (state l f ws ps ts p h) }
  unfolding turning
  test-one c a b k l = refl

  free-none : (o : Option Window) (k : Value → Machine Value) → turning in_use job (Doing.free o k) (state 0 f ws ps ts p h) ≡ still (ended cut (state 0 f ws ps ts p h))
  unfolding turning
  free-none o k = refl

free-full : (job : Window) (o : Option Window) (ws ps : List Window) (ts : List Test) (p h : List Bool) (k : Value → Machine Value) (l : ℕ) → turning in_use job (Doing.free o k) (state l 0 ws ps ts p h)
    ≡ still (ended cut (state l 0 ws ps ts p h))
unfolding turning
free-full job o ws ps ts p h k zero = refl
free-full job o ws ps ts p h k (suc l) = refl

free_one : (job : Window) (o : Option Window) (ws ps : List Window) (ts : List Test) (p h : List Bool) (k : Value → Machine Value) (l f : ℕ)
    → turning in_use job (Doing.free o k) (state (suc l) (suc f) ws ps ts p h)
    ≡ record { move = fresh p; went = on (k (unknown (length ws))) (state l f (ws ++ pair_of job o ∷ []) (ps ++ pair_of job o ∷ []) ts p h) }
unfolding turning
free_one job o ws ps ts p h k l f = refl

-- the turn goes on
onward : (o o' : Bool) (x x' : Machine Value) (s s' : State) → o ≡ o' → x ≡ x' → s ≡ s' → ◌≡◌ {A = Turn} (record { move = o; went = on x s }) (record { move = o'; went = on x' s' })
onward o o' x x' s s' a b c = λ i. record { move = a i; went = on (b i) (c i) }

module _ (m : List ℕ) (p : Point) where
  abbrev t : ℕ
  t = p.choices

  abbrev n : ℕ
  n = p.run.nodes

  abbrev tests : List Test
  tests = map (test_of (nodes_in m n)) (tests_in m t)

  abbrev left : List Bool
  left = outcomes_in m t p.forced

  abbrev made : List Bool
  made = outcomes_in m 0 t

  -- the state with so many steps and free declarations left
  at : ℕ → ℕ → State
  at l f = state l f (windows_in m p.windows) (starts_in m p.windows) tests left made

  -- ---- the limits

  pub step_cut : (job : Window) (x : Machine Value) → p.steps ≡ 0 → Standing m p → Stops (turning in_use job (Doing.step x) (state_at m p)) m p cut
  step_cut job x e h = record {
    is = ap (λ (l : ℕ). turning in_use job (Doing.step x) (state l (8 - p.windows) (windows_in m p.windows) (starts_in m p.windows) tests left made)) e
        ∙ step-none job (8 - p.windows) (windows_in m p.windows) (starts_in m p.windows) tests left made x
        ∙ ap (λ (l : ℕ). still (ended cut (state l (8 - p.windows) (windows_in m p.windows) (starts_in m p.windows) tests left made))) (sym e);
    standing = h;
  }

  pub test-cut : (job : Window) (c : Cmp) (a b : Value) (k : Bool → Machine Value) → p.steps ≡ 0 → Standing m p → Stops (turning in_use job (Doing.test c a b k) (state_at m p)) m p cut
  test-cut job c a b k e h = record {
    is = ap (λ (l : ℕ). turning in_use job (Doing.test c a b k) (state l (8 - p.windows) (windows_in m p.windows) (starts_in m p.windows) tests left made)) e
        ∙ test-none job (8 - p.windows) (windows_in m p.windows) (starts_in m p.windows) tests left made c a b k
        ∙ ap (λ (l : ℕ). still (ended cut (state l (8 - p.windows) (windows_in m p.windows) (starts_in m p.windows) tests left made))) (sym e);
    standing = h;
  }

  pub free-cut : (job : Window) (o : Option Window) (k : Value → Machine Value) → p.steps ≡ 0 → Standing m p → Stops (turning in_use job (Doing.free o k) (state_at m p)) m p cut
  free-cut job o k e h = record {
    is = ap (λ (l : ℕ). turning in_use job (Doing.free o k) (state l (8 - p.windows) (windows_in m p.windows) (starts_in m p.windows) tests left made)) e
        ∙ free-none job (8 - p.windows) (windows_in m p.windows) (starts_in m p.windows) tests left made o k
        ∙ ap (λ (l : ℕ). still (ended cut (state l (8 - p.windows) (windows_in m p.windows) (starts_in m p.windows) tests left made))) (sym e);
    standing = h;
  }

  -- a ninth free declaration
  pub ninth-cut : (job : Window) (o : Option Window) (k : Value → Machine Value) → p.windows ≡ 8 → Standing m p → Stops (turning in_use job (Doing.free o k) (state_at m p)) m p cut
  ninth-cut job o k e h =
      let z : 8 - p.windows ≡ 0 = omega arith in
      record {
        is = ap (λ (f : ℕ). turning in_use job (Doing.free o k) (state p.steps f (windows_in m p.windows) (starts_in m p.windows) tests left made)) z
            ∙ free-full job o (windows_in m p.windows) (starts_in m p.windows) tests left made k p.steps
            ∙ ap (λ (f : ℕ). still (ended cut (state p.steps f (windows_in m p.windows) (starts_in m p.windows) tests left made))) (sym z);
        standing = h;
      }

  -- ---- a step

  pub step-on : (m' : List ℕ) (run : Run) (q : Point) → Standing m p → Ready m run → Growing m n run.nodes → 1 ≤ p.steps → length m' ≡ length m
      → Grown m m' p.windows n run.nodes → q ≡ spending p run
      → (job : Window) → Onward (turning in_use job (Doing.step (machine_at m run)) (state_at m p)) m' p (eqb p.forced 0) q
  step-on m' run q h r g l len w e job = subst (Onward (turning in_use job (Doing.step (machine_at m run)) (state_at m p)) m' p (eqb p.forced 0)) (sym e) (record {
    is = ap (λ (l : ℕ). turning in_use job (Doing.step (machine_at m run)) (state l (8 - p.windows) (windows_in m p.windows) (starts_in m p.windows) tests left made)) (one_more p.steps l)
        ∙ step-one job (8 - p.windows) (windows_in m p.windows) (starts_in m p.windows) tests left made (machine_at m run) (p.steps - 1)
        ∙ onward _ _ _ _ _ _ (fresh-is m t p.forced) (sym (machine-stays (range-machinery n w.other) run r.deep))
        (λ i. state (p.steps - 1) (8 - p.windows) (sym (range-windows n w.other p.windows) i) (sym (range-starts n w.other p.windows) i) (sym tests-are i) (sym (range-outcomes n w.other t p.forced) i)
        (sym (range-outcomes n w.other 0 t) i));
    ready = ready-stays (range-machinery n w.other) run len r;
    standing = record { tables = w.tables; tested = λ j i. subst (Tested run.nodes) (sym (range-test n w.other j)) (tested-more n run.nodes g.more (test_at m j) (h.tested j i)) };
    lighter = omega (arith, g.one);
    fewer = omega arith;
    grows = g.more;
    older = omega arith;
    falls = omega arith;
  })
    where
      tests-are : map (test_of (nodes_in m' run.nodes)) (tests_in m' t) ≡ tests
      tests-are = ap₂ (λ (ns : List nodes.Node) (ts : List Noted). map (test_of ns) ts) (range-nodes n w.other run.nodes) (range-tests n w.other t)
          ∙ tests-grow m n run.nodes g.more t h.tested

  -- ---- a free declaration

  pub free_on : (m₁ m₂ : List ℕ) (run : Run) (w : Window) (q : Point) → Standing m p → Ready m run → run.nodes ≡ n + 1 → node_at m n ≡ nodes.unknown p.windows → Filled w → 1 ≤ p.steps
      → p.windows < 8 → length m₁ ≡ length m → length m₂ ≡ length m₁
      → Reached m m₁ w p.windows → Ranged m₁ m₂ (p.windows + 1) n → q ≡ declaring p run → (job : Window) (o : Option Window) → pair_of job o ≡ w → (next : Value → Machine Value) → next (unknown p.windows) ≡ machine_at m run
      → Onward (turning in_use job (Doing.free o next) (state_at m p)) m₂ p (eqb p.forced 0) q
  free_on m₁ m₂ run w q h r one new f l k len len₂ a b e job o same next is = subst (Onward (turning in_use job (Doing.free o next) (state_at m p)) m₂ p (eqb p.forced 0)) (sym e) (record {
    is = ap₂ (λ (l f : ℕ). turning in_use job (Doing.free o next) (state l f (windows_in m p.windows) (starts_in m p.windows) tests left made)) (one_more p.steps l) fewer-left
        ∙ free_one job o (windows_in m p.windows) (starts_in m p.windows) tests left made next (p.steps - 1) (8 - (p.windows + 1))
        ∙ onward _ _ _ _ _ _ (fresh-is m t p.forced) (ap (λ (i : ℕ). next (unknown i)) (windows-length m p.windows h.tables.count) ∙ is ∙ sym (machine-stays moved run r.deep))
        (λ i. state (p.steps - 1) (8 - (p.windows + 1)) (sym windows-are i) (sym starts-are i) (sym tests-are i) (sym (outcomes-are t p.forced) i) (sym (outcomes-are 0 t) i));
    ready = ready-stays moved run (len₂ ∙ len) r;
    standing = record {
      tables = subst (Tables m₂ (p.windows + 1)) (sym one) (reached-tables m m₁ w p.windows n h.tables a f m₂ k (subst (Room m) one r.few) len len₂ new b);
      tested = λ j i. subst (Tested run.nodes) (sym (range-test n b.other j ∙ window-test a.other j)) (tested-more n run.nodes (omega arith) (test_at m j) (h.tested j i));
    };
    lighter = omega arith;
    fewer = omega arith;
    grows = omega arith;
    older = omega arith;
    falls = omega arith;
  })
    where
      fewer-left : 8 - p.windows ≡ suc (8 - (p.windows + 1))
      fewer-left = omega arith

      moved : Machinery m m₂
      moved = machinery-then (window-machinery a.other) (range-machinery n b.other)

      windows-are : windows_in m₂ (p.windows + 1) ≡ windows_in m p.windows ++ pair_of job o ∷ []
      windows-are = range-windows n b.other (p.windows + 1) ∙ a.is ∙ ap (λ (w : Window). windows_in m p.windows ++ w ∷ []) (sym same)

      starts-are : starts_in m₂ (p.windows + 1) ≡ starts_in m p.windows ++ pair_of job o ∷ []
      starts-are = range-starts n b.other (p.windows + 1) ∙ a.starts ∙ ap (λ (w : Window). starts_in m p.windows ++ w ∷ []) (sym same)

      outcomes-are : (i f : ℕ) → outcomes_in m₂ i f ≡ outcomes_in m i f
      outcomes-are i f = range-outcomes n b.other i f ∙ window-outcomes a.other i f

      tests-are : map (test_of (nodes_in m₂ run.nodes)) (tests_in m₂ t) ≡ tests
      tests-are = ap₂ (λ (ns : List nodes.Node) (ts : List Noted). map (test_of ns) ts) (range-nodes n b.other run.nodes ∙ window-nodes a.other run.nodes)
          (range-tests n b.other t ∙ window-tests a.other t)
          ∙ tests-grow m n run.nodes (omega arith) t h.tested

  -- ---- a comparison

  pub spent-standing : (run : Run) (q : Point) → run.nodes ≡ n → Standing m p → q ≡ spending p run → Standing m q
  spent-standing run q one h e = subst (Standing m) (sym e) (record {
    tables = subst (Tables m p.windows) (sym one) h.tables;
    tested = λ j i. subst (λ (x : ℕ). Tested x (test_at m j)) (sym one) (h.tested j i);
  })

  pub test_on : (m' : List ℕ) (run : Run) (c : Cmp) (v w : code.Value) (s q : Point) → run.nodes ≡ n → 1 ≤ p.steps → s ≡ spending p run → Compared m m' s c v w q
      → (job : Window) → Onward (turning in_use job (Doing.test c (meant m n v) (meant m n w) (λ b. machine_at m (flagged run b))) (state_at m p)) m' p (eqb p.forced 0) q
  test_on m' run c v w s q one l e d job = so (subst (λ (s : Point). Compared m m' s c v w q) e d)
    where
      so : Compared m m' (spending p run) c v w q → Onward (turning in_use job (Doing.test c (meant m n v) (meant m n w) (λ b. machine_at m (flagged run b))) (state_at m p)) m' p (eqb p.forced 0) q
      so d = record {
        is = ap (λ (l : ℕ). turning in_use job (Doing.test c (meant m n v) (meant m n w) (λ b. machine_at m (flagged run b)))
            (state l (8 - p.windows) (windows_in m p.windows) (starts_in m p.windows) tests left made)) (one_more p.steps l)
            ∙ test-one job (8 - p.windows) (windows_in m p.windows) (starts_in m p.windows) tests left made c (meant m n v) (meant m n w) (λ b. machine_at m (flagged run b)) (p.steps - 1)
            ∙ (λ i. record { move = fresh-is m t p.forced i; went = went i });
        ready = d.follows.ready;
        standing = d.follows.standing;
        lighter = omega (arith, d.follows.steps, ap (λ (r : Run). r.nodes) d.follows.run);
        fewer = omega (arith, d.follows.fewer);
        grows = omega (arith, ap (λ (r : Run). r.nodes) d.follows.run);
        older = d.older;
        falls = omega (arith, d.follows.steps);
      }
        where
          went : comparing in_use job c (meant m n v) (meant m n w) (λ b. machine_at m (flagged run b)) (state (p.steps - 1) (8 - p.windows) (windows_in m p.windows) (starts_in m p.windows) tests left made)
              ≡ on (machine_at m' q.run) (state_at m' q)
          went =
              (λ i. comparing in_use job c (meant m (sym one i) v) (meant m (sym one i) w) (λ b. machine_at m (flagged run b))
              (state (p.steps - 1) (8 - p.windows) (windows_in m p.windows) (starts_in m p.windows) (map (test_of (nodes_in m (sym one i))) (tests_in m t)) left made))
              ∙ d.is job
              ∙ ap₂ (λ (x : Machine Value) (s : State). on x s) (sym d.follows.machine) (sym d.follows.is)
