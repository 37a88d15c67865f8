-- Where a path begins: at the start of main, or at a checkpoint, to which the path with these outcomes forced comes without a move.
use Rattle.std.specs.Prelude.{Option, Some as Done, None}
use mathlib.Core.Path.{◌≡◌, refl, sym, ap, ◌∙◌, subst}
use mathlib.Core.Bool.{Bool}
use mathlib.Core.Logic.{⊎_elim}
use mathlib.Core.List.{List, ◌∷◌, ◌++◌}
use Prim.Native.Nat.{ℕ, zero, suc, ◌+◌, ◌-◌, ◌≤◌, ◌<◌}
use native.Mathlib.Omega.{arith}
use lib.ListN.{length, get_or}
use Rattle.semantics.specs.Program.{Window}
use Rattle.semantics.specs.Search.{Value, known, work, all32, in_use}
use Rattle.semantics.proofs.Order.{up, down}
use Rattle.simulation.specs.Code.{Code}
use Rattle.simulation.specs.Machine.{Machine, start}
use Rattle.simulation.specs.Path.{State, begins, End}
use Rattle.simulation.specs.Lister.{Tally, Next, Start, path}
use Rattle.simulation.specs.Nodes.{ranges, pass}
use Rattle.simulation.specs.Resume.{forcing, Comes}
use Rattle.simulation.specs.Cells.{Uses}
use Rattle.simulation.proofs.Back.{Some}
use Rattle.simulation.proofs.Bounds.{sound-start}
use Rattle.simulation.specs.Measure.{turns_left}
use Rattle.simulation.proofs.Resume.{comes-start, Onto, resumed}
use Rattle.intervals.specs.Meaning.{Filled}
use Rattle.ranges.proofs.Ranges.{filled}
use Rattle.machine.specs.Layout.{frame_cells, outcome_place}
use Rattle.machine.specs.Memory.{nodes_in, machine_at, ranges_in, tests_in, outcome_as, outcomes_in}
use Rattle.machine.specs.Terms.{Room, Started}
use Rattle.machine.specs.declared.Run.{Run}
use Rattle.machine.proofs.Tables.{room-same, room-less}
use Rattle.machine.proofs.Capacity.{tops-le}
use Rattle.machine.proofs.Stays.{three, is-or-not}
use Rattle.paths.specs.declared.Point.{Point}
use Rattle.paths.specs.Choice.{Tables}
use Rattle.paths.specs.Point.{state_at}
use Rattle.paths.proofs.Choice.{outcomes-same}
use Rattle.checkpoints.specs.Live.{size_of, number_count}
use Rattle.checkpoints.specs.Words.{Agrees, forced, Restored, EndsBefore}
use Rattle.walks.specs.declared.Stack.{Stack}
use Rattle.walks.specs.declared.Ended.{Ended}
use Rattle.walks.specs.Checkpoints.{ComesTo, Checkpoints, none, more, Dropped}
use Rattle.walks.specs.Walk.{at_start, Stands, Walks, Walking, FromMain, Begins}
use Rattle.walks.specs.Walk as walk
use Rattle.walks.proofs.Checkpoints.{alike-stays, checkpoints-fit, checkpoints-stay}
use Rattle.walks.proofs.Dropping.{Newest, newest, empty}

-- ---- the same path from another point

module _ (c : Code) (job : Window) (limit budget : ℕ) (x x₂ : Machine Value) (y y₂ : State)
    (to : (t : Tally) (n : ℕ) → turns_left c x y < n → Onto in_use job c limit (path in_use job c limit n x y t) x₂ y₂ t) where
  walks_from : {z : Tally → Next Start} → Walks c job limit budget x₂ y₂ z → Walks c job limit budget x y z
  walks_from h = record { is = λ t e n l. (to t n l).is ∙ h.is t e (to t n l).turns (to t n l).enough }

  ends-from : {m' : List ℕ} {e : End} {q : Point} {r : Stack} {left : ℕ} → walk.Ends c job limit budget x₂ y₂ m' e q r left → walk.Ends c job limit budget x y m' e q r left
  ends-from h = record { walks = walks_from h.walks; standing = h.standing; few = h.few; rest = h.rest; stacked = h.stacked; limited = h.limited }

  pub walking-from : (m' : List ℕ) (r : Option Ended) → Walking c job limit budget x₂ y₂ m' r → Walking c job limit budget x y m' r
  walking-from m' None h = walks_from h
  walking-from m' (Done r) h = (ends-from h.0, h.1)

-- ---- the start of main

all-filled : Filled all32
unfolding all32 up down
all-filled = filled all32 (omega arith)

module _ (c : Code) (job : Window) (m m' : List ℕ) (s : Stack) (r : Run) (f : ℕ) (h : Started m m' r) (len : length m' ≡ length m) (room : Room m (s.limit + 1)) (uses : Uses c s.cells) (cells : s.cells ≤ frame_cells) where
  abbrev first : Point
  first = at_start r s.limit f

  forced-same : outcomes_in m' 0 f ≡ outcomes_in m 0 f
  forced-same = outcomes-same m m' 0 f (λ j a b. h.other.outside (outcome_place j) (λ u v. omega arith))

  begins-at : begins s.limit (outcomes_in m 0 f) ≡ state_at m' first
  unfolding tests_in outcomes_in
  begins-at = ap (begins s.limit) (sym forced-same)

  none_yet : Tables m' 0 0
  unfolding ranges_in nodes_in ranges pass
  none_yet = record { count = omega arith; room = room-same len (room-less 0 (omega arith) room); some = record { some = λ i. all-filled }; named = λ j l. absurd (omega arith); is = refl }

  low : r.top + r.depth ≤ 0
  low = tops-le m' r 0 h.ready (subst (λ (x : Machine Value). Rattle.simulation.proofs.Bounds.Sound 0 x) (sym (h.is c)) (sound-start known work c))

  module _ (e : s.height ≡ 0) where
    pub first-stands : (p : Point) → p ≡ first → Stands c job m' p s
    first-stands p i = subst (λ (p : Point). Stands c job m' p s) (sym i) (record {
      going = record {
        ready = h.ready;
        standing = record { tables = subst (Tables m' 0) (sym h.none) none_yet; tested = λ j l. absurd (omega arith) };
        tops = room-less (r.top + r.depth + s.limit + 1) (omega (arith, low)) (room-same len room);
        nodes = room-less (r.nodes + s.limit + 1) (omega (arith, h.none)) (room-same len room);
        choices = room-less (0 + s.limit + 1) (omega arith) (room-same len room);
      };
      few = omega arith;
      comes = subst (λ (x : Machine Value). Comes in_use job c s.limit x (state_at m' first)) (sym (h.is c))
          (subst (Comes in_use job c s.limit (start known work c)) begins-at (comes-start in_use job c s.limit (outcomes_in m 0 f)));
      stacked = record { checkpoints = none e; room = room-same len room; uses = uses; cells = cells };
    })

    pub first_walks : (p : Point) → p ≡ first → (limit budget : ℕ) (m₂ : List ℕ) (w : Option Ended) → s.limit ≡ limit → Walking c job s.limit budget (machine_at m' p.run) (state_at m' p) m₂ w
        → FromMain c job limit budget (outcomes_in m 0 f) m₂ w
    first_walks p i limit budget m₂ w l k = subst (λ (l : ℕ). FromMain c job l budget (outcomes_in m 0 f) m₂ w) l
        (subst (λ (y : State). Walking c job s.limit budget (start known work c) y m₂ w) (sym begins-at)
        (subst (λ (x : Machine Value). Walking c job s.limit budget x (state_at m' first) m₂ w) (h.is c) (subst (λ (p : Point). Walking c job s.limit budget (machine_at m' p.run) (state_at m' p) m₂ w) i k)))

-- ---- what is left of the checkpoints

module _ (c : Code) (job : Window) (m : List ℕ) (f : ℕ) (s : Stack) (b : Begins c job m f s) where
  pub space-so : Room m s.height
  space-so = room-less s.height (omega (arith, checkpoints-fit c job s.limit s.cells b.stacked.checkpoints)) b.stacked.room

  module _ (i : ℕ) (e : i ≡ f - 1) (r : Stack) (d : Dropped m s i r) where
    pub checkpoints-left : Checkpoints c job r.limit r.cells m (f - 1) b.nodes (f - 1) b.windows r.height
    checkpoints-left = subst (λ (n : ℕ). Checkpoints c job r.limit n m (f - 1) b.nodes (f - 1) b.windows r.height) (sym d.cells)
        (subst (λ (l : ℕ). Checkpoints c job l s.cells m (f - 1) b.nodes (f - 1) b.windows r.height) (sym d.limit)
        (subst (λ (i : ℕ). Checkpoints c job s.limit s.cells m (f - 1) b.nodes i b.windows r.height) e (d.is c job (f - 1) b.nodes b.choices b.windows b.stacked.checkpoints)))

    pub uses-left : Uses c r.cells
    uses-left = subst (Uses c) (sym d.cells) b.stacked.uses

    pub cells_left : r.cells ≤ frame_cells
    cells_left = omega (arith, d.cells, b.stacked.cells)

    pub room-left : Room m (r.limit + 1)
    room-left = subst (λ (l : ℕ). Room m (l + 1)) (sym d.limit) b.stacked.room

    pub some-forced : (r.height ≡ 0 → ⊥) → 1 ≤ f
    some-forced h = ⊎_elim (λ g. absurd (h (omega (arith, d.fewer, b.first g)))) (λ g. omega arith) (is-or-not f 0)

    pub some_left : (r.height ≡ 0 → ⊥) → number_count ≤ r.height
    some_left h = ⊎_elim (λ g. omega arith) (λ g. ⊎_elim (λ g. absurd (h (empty c job r.limit r.cells m (f - 1) g checkpoints-left))) (λ g. omega arith) g) (three r.height number_count)

-- ---- a checkpoint

outcomes-join : (m : List ℕ) (i n f : ℕ) → outcomes_in m i n ++ outcomes_in m (i + n) f ≡ outcomes_in m i (n + f)
unfolding outcomes_in
outcomes-join m i zero f = ap (λ (j : ℕ). outcomes_in m j f) {x = i + 0} {y = i} (omega arith) ∙ ap (outcomes_in m i) {x = f} {y = 0 + f} (omega arith)
outcomes-join m i (suc n) f = ap (λ (l : List Bool). outcome_as (get_or m (outcome_place i) 0) ∷ l) (ap (λ (j : ℕ). outcomes_in m (suc i) n ++ outcomes_in m j f) {x = i + suc n} {y = suc i + n} (omega arith) ∙ outcomes-join m (suc i) n f)
    ∙ ap (outcomes_in m i) {x = suc (n + f)} {y = suc n + f} (omega arith)

some-outcomes : (m : List ℕ) (i f : ℕ) → 1 ≤ f → Some (outcomes_in m i f)
unfolding outcomes_in
some-outcomes m i zero l = absurd (omega arith)
some-outcomes m i (suc f) l = tt

module _ (c : Code) (job : Window) (m : List ℕ) (s : Stack) (k : ℕ) (n u : ℕ) (some : 1 ≤ k) (ms : Checkpoints c job s.limit s.cells m (k - 1) n (k - 1) u s.height) (room : Room m (s.limit + 1)) (uses : Uses c s.cells) (cells : s.cells ≤ frame_cells)
    (l : number_count ≤ s.height) where
  abbrev o : Newest c job s.limit s.cells m (k - 1) n (k - 1) u s.height
  o = newest c job s.limit s.cells m (k - 1) l ms

  abbrev p : Point
  p = o.point

  agrees : Agrees m o.is.before p
  agrees = o.is.agrees o.choices

  pub ends-here : EndsBefore s.cells m s.height
  ends-here = record { before = o.is.before; point = p; start = o.start; size = o.size; saved = o.is.saved; agrees = agrees }

  pub space-here : Room m s.height
  space-here = room-less s.height (omega (arith, checkpoints-fit c job s.limit s.cells ms)) room

  module _ (m' : List ℕ) (q : Point) (len : length m' ≡ length m)
      (back : (m₀ : List ℕ) (p : Point) (v : ℕ) → s.height ≡ v + size_of s.cells p → Rattle.checkpoints.specs.Words.Saved s.cells m m₀ p v → Agrees m m₀ p → Restored m m₀ m' p q (k - p.choices)) where
    abbrev restored : Restored m o.is.before m' p q (k - p.choices)
    restored = back o.is.before p o.start o.size o.is.saved agrees

    abbrev rest : List Bool
    rest = outcomes_in m p.choices (k - p.choices)

    comes-here : ComesTo c job s.limit m' q
    comes-here = subst (λ (x : Machine Value). Comes in_use job c s.limit x (state_at m' q)) (sym restored.machine)
        (subst (Comes in_use job c s.limit (machine_at o.is.before p.run)) (sym restored.state) (record { again = o.is.comes.again }))

    same-choices : q.choices ≡ p.choices
    same-choices = ap (λ (q : Point). q.choices) restored.point

    same_nodes : q.run.nodes ≡ p.run.nodes
    same_nodes = ap (λ (q : Point). q.run.nodes) restored.point

    same-windows : q.windows ≡ p.windows
    same-windows = ap (λ (q : Point). q.windows) restored.point

    same-steps : q.steps ≡ p.steps
    same-steps = ap (λ (q : Point). q.steps) restored.point

    pub again-stands : Stands c job m' q s
    again-stands = record {
      going = restored.going;
      few = omega (arith, same-choices, same-steps, o.is.few);
      comes = comes-here;
      stacked = record {
        checkpoints = checkpoints-stay c job s.limit s.cells m m' (k - 1) q.choices p.choices q.run.nodes q.choices q.windows (λ x a b. (omega (arith, o.choices), a)) (alike-stays p.windows s.height len (λ i a. restored.starts i) restored.stays)
            (omega (arith, same_nodes)) (omega (arith, same-choices)) (omega (arith, same-windows)) (more {n = p.run.nodes} {t = p.choices} {u = p.windows} p o.start o.older o.is (omega arith) (omega arith) (omega arith) o.fits o.size);
        room = room-same len room;
        uses = uses;
        cells = cells;
      };
    }

    all-forced : (state_at o.is.before p).chosen ++ rest ≡ outcomes_in m 0 k
    all-forced =
        ap (λ (l : List Bool). l ++ rest) (outcomes-same m o.is.before 0 p.choices (λ j a b. sym (agrees.tests (outcome_place j) j (omega arith) (omega arith) (omega arith))))
        ∙ ap (λ (j : ℕ). outcomes_in m 0 p.choices ++ outcomes_in m j (k - p.choices)) {x = p.choices} {y = 0 + p.choices} (omega arith)
        ∙ outcomes-join m 0 p.choices (k - p.choices)
        ∙ ap (outcomes_in m 0) {x = p.choices + (k - p.choices)} {y = k} (omega (arith, o.choices, some))

    pub again_walks : (limit budget : ℕ) (m₂ : List ℕ) (w : Option Ended) → s.limit ≡ limit → Walking c job s.limit budget (machine_at m' q.run) (state_at m' q) m₂ w → FromMain c job limit budget (outcomes_in m 0 k) m₂ w
    again_walks limit budget m₂ w e h = subst (λ (l : ℕ). FromMain c job l budget (outcomes_in m 0 k) m₂ w) e (subst (λ (fs : List Bool). FromMain c job s.limit budget fs m₂ w) all-forced
        (walking-from c job s.limit budget (start known work c) (machine_at o.is.before p.run) (begins s.limit ((state_at o.is.before p).chosen ++ rest)) (forcing rest (state_at o.is.before p))
        (resumed in_use job c s.limit (machine_at o.is.before p.run) (state_at o.is.before p) rest o.is.comes (some-outcomes m p.choices (k - p.choices) (omega (arith, o.choices, some)))) m₂ w
        (subst (λ (x : Machine Value). Walking c job s.limit budget x (forcing rest (state_at o.is.before p)) m₂ w) restored.machine
        (subst (λ (y : State). Walking c job s.limit budget (machine_at m' q.run) y m₂ w) restored.state h))))
