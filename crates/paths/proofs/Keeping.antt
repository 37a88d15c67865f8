-- What the work on one entry leaves beside the machine, and the room that stays after a turn.
use mathlib.Core.Path.{◌≡◌, refl, sym, ap, ap₂, ◌∙◌, subst}
use mathlib.Core.Bool.{Bool, false}
use mathlib.Core.List.{List, map}
use Prim.Native.Nat.{ℕ, zero, suc, ◌+◌, ◌-◌, ◌≤◌}
use native.Mathlib.Omega.{arith}
use lib.ListN.{length}
use Rattle.semantics.specs.Program.{Window}
use Rattle.semantics.specs.Search.{Value, known, work, in_use}
use Rattle.simulation.specs.Code.{Code}
use Rattle.simulation.specs.Machine.{Machine, Doing, advance}
use Rattle.simulation.specs.Path.{State, state, Turn, returned, failed, cut, on, ended, still, turning, turn}
use Rattle.simulation.specs.Nodes.{Cell, test_of, meaning, ranges}
use Rattle.simulation.proofs.Bounds.{Framed, Sound}
use Rattle.simulation.proofs.Drive as drive
use Rattle.simulation.specs.Measure.{turns_left}
use Rattle.simulation.proofs.Drive.{Nears, Nearer, turn-nears}
use Rattle.machine.specs.Layout.{frame_cells, frame_place}
use Rattle.machine.specs.Memory.{nodes_in, cells, callers, machine_at, windows_in, starts_in, tests_in, outcomes_in, test_at}
use Rattle.ints.specs.declared.Comparison.{Comparison}
use Rattle.ints.specs.Meaning.{of_comparison}
use Rattle.machine.specs.Terms.{meant, Kept, Ready, Goes, Gave, Tested, flagged, Done}
use Rattle.machine.specs.declared.Did.{Did}
use Rattle.machine.proofs.Stays.{kept-none}
use Rattle.machine.specs.declared.Run.{Run}
use Rattle.machine.specs.declared.Value as code
use Rattle.machine.proofs.Tables.{nodes-kept, room-same, room-less}
use Rattle.machine.proofs.Capacity.{held-is, tops-le}
use Rattle.machine.proofs.Beside.{windows-kept, starts-kept, ranges-kept, tests-kept, outcomes-kept}
use Rattle.paths.specs.declared.Point.{Point}
use Rattle.paths.specs.declared.Turned.{Turned}
use Rattle.paths.specs.declared.Turned.TheVariants.{On, Returned, Failed, Cut}
use Rattle.paths.specs.Table.{Windows}
use Rattle.paths.specs.Choice.{Named, Tables}
use Rattle.paths.specs.Point as point
use Rattle.paths.specs.Point.{state_at, Standing, Usable, Going, running}
use Rattle.paths.specs.Turn.{Growing, Onward, Stops, Gives, Turning, Onwards}
use Rattle.paths.proofs.Table.{node-same}
use Rattle.paths.proofs.Choosing.{test-same}

-- ---- what stands beside the machine stays

module _ {m m' : List ℕ} (p : Point) (s : Kept m m' p.run.nodes) where
  pub state-kept : state_at m' p ≡ state_at m p
  state-kept = λ i. state p.steps (8 - p.windows) (windows-kept s p.windows i) (starts-kept s p.windows i) (map (test_of (nodes-kept s p.run.nodes (omega arith) i)) (tests-kept s p.choices i))
      (outcomes-kept s p.choices p.forced i) (outcomes-kept s 0 p.choices i)

  pub standing-kept : length m' ≡ length m → Standing m p → Standing m' p
  standing-kept len h = record {
    tables = record {
      count = h.tables.count;
      room = room-same len h.tables.room;
      some = subst Windows (sym (windows-kept s p.windows)) h.tables.some;
      named = λ j l. subst (Named p.windows) (sym (node-same m m' j (λ i a b. s.noded i j l a b))) (h.tables.named j l);
      is = ranges-kept s p.run.nodes ∙ h.tables.is ∙ sym (ap₂ ranges (windows-kept s p.windows) (nodes-kept s p.run.nodes (omega arith)));
    };
    tested = λ j l. subst (point.Tested p.run.nodes) (sym (test-same m m' j (λ i a b. s.tables i j (omega arith) (omega arith)))) (h.tested j l);
  }

pub growing-kept : {A : Type 0} {how : Machine Value → A} {d : A} {m m' : List ℕ} {n : ℕ} {r : Run} → Goes how 1 d m n m' r → Growing m' n r.nodes
growing-kept g = record { more = g.more; one = g.grows; formed = g.formed }

-- ---- a turn is what the entry did

module _ (job : Window) (c : Code) (x : Machine Value) (s : State) where
  pub turn_is : (d : Doing Value) (s' : State) → advance known work c x ≡ d → s' ≡ s → turning in_use job d s' ≡ turn in_use job c x s
  unfolding turn
  turn_is d s' e f = ap₂ (turning in_use job) (sym e) f

silent-is : (job : Window) (x : Machine Value) (s : State) → turning in_use job (Doing.silent x) s ≡ still (on x s)
unfolding turning
silent-is job x s = refl

returned-is : (job : Window) (v : Value) (s : State) → turning in_use job (Doing.returned v) s ≡ still (ended (returned v) s)
unfolding turning
returned-is job v s = refl

failed-is : (job : Window) (s : State) → turning in_use job Doing.failed s ≡ still (ended failed s)
unfolding turning
failed-is job s = refl

cut-is : (job : Window) (s : State) → turning in_use job Doing.cut s ≡ still (ended cut s)
unfolding turning
cut-is job s = refl

module _ (m : List ℕ) (p : Point) (job : Window) (c : Code) (h : Standing m p) where
  abbrev here : Turn
  here = turn in_use job c (machine_at m p.run) (state_at m p)

  abbrev did : Doing Value
  did = advance known work c (machine_at m p.run)

  pub silent-on : (m' : List ℕ) (r : Run) (q : Point) → length m' ≡ length m → Goes Doing.silent 0 did m p.run.nodes m' r → q ≡ running p r → Onward here m' p false q
  silent-on m' r q len g e =
      let n : p.run.nodes ≡ r.nodes = omega (arith, g.more, g.grows) in
      let k = standing-kept p g.kept len h in
      subst (Onward here m' p false) (sym e) (record {
        is = sym (turn_is job c (machine_at m p.run) (state_at m p) (Doing.silent (machine_at m' r)) (state_at m' p) g.is (state-kept p g.kept))
            ∙ silent-is job (machine_at m' r) (state_at m' p)
            ∙ (λ i. still (on (machine_at m' r) (state p.steps (8 - p.windows) (windows_in m' p.windows) (starts_in m' p.windows) (map (test_of (nodes_in m' (n i))) (tests_in m' p.choices))
            (outcomes_in m' p.choices p.forced) (outcomes_in m' 0 p.choices))));
        ready = g.ready;
        standing = record { tables = subst (Tables m' p.windows) n k.tables; tested = λ j l. subst (λ (x : ℕ). point.Tested x (test_at m' j)) n (k.tested j l) };
        lighter = omega arith;
        fewer = omega arith;
        grows = g.more;
        older = omega arith;
        falls = omega arith;
      })

  pub returned-stops : (m' : List ℕ) (v : code.Value) → Gave did m p.run.nodes m' v → Gives here m' p v
  returned-stops m' v g = subst (λ (l : List ℕ). Gives here l p v) (sym g.same) (record {
    stops = record {
      is = sym (turn_is job c (machine_at m p.run) (state_at m p) (Doing.returned (meant m p.run.nodes v)) (state_at m p) g.is refl)
          ∙ returned-is job (meant m p.run.nodes v) (state_at m p);
      standing = h;
    };
    usable = record { sized = g.sized; within = g.within };
  })

  pub failed-stops : (m' : List ℕ) → did ≡ Doing.failed → m' ≡ m → Stops here m' p failed
  failed-stops m' e f = subst (λ (l : List ℕ). Stops here l p failed) (sym f)
      (record { is = sym (turn_is job c (machine_at m p.run) (state_at m p) Doing.failed (state_at m p) e refl) ∙ failed-is job (state_at m p); standing = h })

  pub cut-stops : (m' : List ℕ) → did ≡ Doing.cut → m' ≡ m → Stops here m' p cut
  cut-stops m' e f = subst (λ (l : List ℕ). Stops here l p cut) (sym f)
      (record { is = sym (turn_is job c (machine_at m p.run) (state_at m p) Doing.cut (state_at m p) e refl) ∙ cut-is job (state_at m p); standing = h })

-- ---- how much the machine holds

module _ {X : Type 0} (f : Cell → X) (m : List ℕ) where
  cells-length : (i n : ℕ) → length (cells f m i n) ≡ n
  unfolding cells
  cells-length i zero = refl
  cells-length i (suc n) = ap suc (cells-length (i + 2) n)

  callers-length : (d top : ℕ) → length (callers f m d top) ≡ d
  unfolding callers
  callers-length zero top = refl
  callers-length (suc d) top = ap suc (callers-length d _)

  callers-framed : (d top : ℕ) → Framed (callers f m d top)
  unfolding callers
  callers-framed zero top = tt
  callers-framed (suc d) top = (cells-length (frame_place d) frame_cells, callers-framed d _)

pub sound-of : (m : List ℕ) (r : Run) → Ready m r → Sound (r.top + r.depth) (machine_at m r)
sound-of m r h = record {
  few = omega (arith, held-is m r h);
  nested = omega (arith, callers-length (meaning (nodes_in m r.nodes)) m r.depth r.base, h.deep);
  framed = cells-length (meaning (nodes_in m r.nodes)) m (frame_place r.depth) frame_cells;
  frames = callers-framed (meaning (nodes_in m r.nodes)) m r.depth r.base;
}

pub kept_of : (c : Code) (m : List ℕ) (p : Point) → Ready m p.run → drive.Kept c (p.run.top + p.run.depth + p.steps) (machine_at m p.run) (state_at m p)
kept_of c m p h = record { made = p.run.top + p.run.depth; limit = refl; sound = sound-of m p.run h }

-- after a turn the end is nearer
pub nearer-of : (job : Window) (c : Code) (m m' : List ℕ) (p q : Point) (o : Bool) → Ready m p.run → turn in_use job c (machine_at m p.run) (state_at m p)
    ≡ record { move = o; went = on (machine_at m' q.run) (state_at m' q) }
    → Nearer c (p.run.top + p.run.depth + p.steps) (turns_left c (machine_at m p.run) (state_at m p)) (machine_at m' q.run) (state_at m' q)
nearer-of job c m m' p q o h e =
    subst (Nears c (p.run.top + p.run.depth + p.steps) (turns_left c (machine_at m p.run) (state_at m p))) (ap (λ (t : Turn). t.went) e)
    (turn-nears c in_use job (p.run.top + p.run.depth + p.steps) (machine_at m p.run) (state_at m p) (kept_of c m p h))

pub onwards : (job : Window) (c : Code) (m m' : List ℕ) (p : Point) (r : Turned) → Going m p → length m' ≡ length m
    → Turning (turn in_use job c (machine_at m p.run) (state_at m p)) m' p r → Onwards m' r
onwards job c m m' p (On o q) g len h =
    let k = (nearer-of job c m m' p q o g.ready h.is).kept in
    let t : q.run.top + q.run.depth ≤ k.made = tops-le m' q.run k.made h.ready k.sound in
    let e : k.made + q.steps ≡ p.run.top + p.run.depth + p.steps = k.limit in
    record {
      ready = h.ready;
      standing = h.standing;
      tops = room-less (q.run.top + q.run.depth + q.steps + 1) (omega arith) (room-same len g.tops);
      nodes = room-less (q.run.nodes + q.steps + 1) (omega (arith, h.lighter)) (room-same len g.nodes);
      choices = room-less (q.choices + q.steps + 1) (omega (arith, h.fewer)) (room-same len g.choices);
    }
onwards job c m m' p (Returned v) g len h = tt
onwards job c m m' p Failed g len h = tt
onwards job c m m' p Cut g len h = tt

-- ---- the whole turn

pub done-as : (d : Doing Value) (job : Window) (m : List ℕ) (n : ℕ) (m' : List ℕ) (k : ℕ) (x y : Did) → x ≡ y → Done d job m n m' k x → Done d job m n m' k y
done-as d job m n m' k x y e h = subst (λ (z : Did). Done d job m n m' k z) e h

module _ (m : List ℕ) (p : Point) (job : Window) (c : Code) (g : Going m p) where
  pub turned : (m₁ m₂ : List ℕ) (r : Turned) (d : Doing Value) → Kept m m₁ p.run.nodes → length m₂ ≡ length m → advance known work c (machine_at m p.run) ≡ d
      → Turning (turning in_use job d (state_at m₁ p)) m₂ p r
      → Turning (turn in_use job c (machine_at m p.run) (state_at m p)) m₂ p r × Onwards m₂ r
  turned m₁ m₂ r d k len e h =
      let t : Turning (turn in_use job c (machine_at m p.run) (state_at m p)) m₂ p r = subst (λ (t : Turn). Turning t m₂ p r)
      (turn_is job c (machine_at m p.run) (state_at m p) d (state_at m₁ p) e (state-kept p k)) h in
      (t, onwards job c m m₂ p r g len t)

  pub test-turned : (m₁ m₂ : List ℕ) (r : Turned) (o : Comparison) (v w : code.Value) (run : Run) → length m₂ ≡ length m → Tested (advance known work c (machine_at m p.run)) m p.run.nodes m₁ o v w run
      → Turning (turning in_use job (Doing.test (of_comparison o) (meant m₁ p.run.nodes v) (meant m₁ p.run.nodes w) (λ b. machine_at m₁ (flagged run b))) (state_at m₁ p)) m₂ p r
      → Turning (turn in_use job c (machine_at m p.run) (state_at m p)) m₂ p r × Onwards m₂ r
  test-turned m₁ m₂ r o v w run len t h =
      turned m m₂ r (Doing.test (of_comparison o) (meant m p.run.nodes v) (meant m p.run.nodes w) (λ b. machine_at m (flagged run b))) kept-none len t.is
      (subst (λ (l : List ℕ). Turning (turning in_use job (Doing.test (of_comparison o) (meant l p.run.nodes v) (meant l p.run.nodes w) (λ b. machine_at l (flagged run b)))
      (state_at l p)) m₂ p r) t.same h)
