-- A path in the memory, turn after turn: what `path` says from where it began is what it says from where the path now stands.
use mathlib.Core.Path.{◌≡◌, refl, sym, ap, ap₂, ◌∙◌, subst}
use mathlib.Core.Bool.{Bool, true, false}
use mathlib.Core.List.{List}
use Prim.Native.Nat.{ℕ, zero, suc, ◌+◌, ◌-◌, ◌≤◌, ◌<◌}
use native.Mathlib.Omega.{arith}
use lib.Dec.{eqb}
use lib.ListN.{length}
use borrow.Author.Tests.{ne_eqb}
use Rattle.semantics.specs.Program.{Window}
use Rattle.semantics.specs.Search.{Value, spent, in_use}
use Rattle.simulation.specs.Code.{Code}
use Rattle.simulation.specs.Machine.{Machine}
use Rattle.simulation.specs.Path.{State, Turn, End, on, ended, still, turn}
use Rattle.simulation.specs.Cells.{CallsMain}
use Rattle.simulation.specs.Lister.{Tally, tally, Next, go, over, then, closed, charge, charged, Start, path}
use Rattle.simulation.specs.Measure.{turns_left}
use Rattle.simulation.proofs.Resume.{after, path-turn, comes-on}
use Rattle.simulation.proofs.Cells.{Extends, starts-on, starts-end}
use Rattle.machine.specs.Layout.{frame_cells}
use Rattle.machine.specs.Memory.{machine_at, starts_in}
use Rattle.machine.specs.Terms.{Room}
use Rattle.machine.proofs.Tables.{room-same, room-less}
use Rattle.paths.specs.declared.Point.{Point}
use Rattle.paths.specs.declared.Turned.{Turned}
use Rattle.paths.specs.Point.{state_at, Going, Stays}
use Rattle.paths.specs.Turn.{Onward, Stops, Turning, Onwards}
use Rattle.paths.proofs.Keeping.{nearer-of}
use Rattle.checkpoints.specs.Live.{Unused}
use Rattle.checkpoints.proofs.Starts.{starts-stay}
use Rattle.known_steps.specs.Turns.{Paces, silent, step, Turns, none, more, moves, Passes}
use Rattle.known_steps.proofs.Passing.{paced, turns-fewer, turns-forced, moves-less, moves-none}
use Rattle.walks.specs.declared.Stack.{Stack}
use Rattle.walks.specs.Checkpoints.{Keeping}
use Rattle.walks.specs.Walk.{paid, Stands, Walks, Ends}
use Rattle.walks.proofs.Blank.{unused-so}
use Rattle.walks.proofs.Checkpoints.{alike-stays, checkpoints-fit, checkpoints-stay, kept-machine, kept-state, kept-limit, kept-stands}

-- ---- moves

charge-none : (k r : ℕ) (rs : List _) (n : ℕ) (h : Bool) → charge (tally 0 k r rs n h) ≡ over (closed spent (tally 0 k r rs n h))
unfolding charge
charge-none k r rs n h = refl

charge-one : (l k r : ℕ) (rs : List _) (n : ℕ) (h : Bool) → charge (tally (suc l) k r rs n h) ≡ go (tally l k r rs (suc n) h)
unfolding charge
charge-one l k r rs n h = refl

-- a move paid for
paid-one : (left : ℕ) (t : Tally) → 1 ≤ left → left ≤ t.budget → charge (paid left t) ≡ go (paid (left - 1) t)
paid-one left t l b =
    ap (λ (i : ℕ). charge (tally i t.skip t.room t.rows (t.moves + (t.budget - left)) t.cut)) {x = left} {y = suc (left - 1)} (omega arith)
    ∙ charge-one (left - 1) t.skip t.room t.rows (t.moves + (t.budget - left)) t.cut
    ∙ ap (λ (n : ℕ). go (tally (left - 1) t.skip t.room t.rows n t.cut)) {x = suc (t.moves + (t.budget - left))} {y = t.moves + (t.budget - (left - 1))} (omega arith)

pub turned_as : (t : Turn) (m' : List ℕ) (p : Point) (x y : Turned) → x ≡ y → Turning t m' p x × Onwards m' x → Turning t m' p y × Onwards m' y
turned_as t m' p x y e h = subst (λ (z : Turned). Turning t m' p z × Onwards m' z) e h

pub pays-none : (budget left : ℕ) (o : Bool) → o ≡ false → (t : Tally) → t.budget ≡ budget → charged o (paid left t) ≡ go (paid left t)
pays-none budget left o e t f = ap (λ (o : Bool). charged o (paid left t)) e

pub pays-one : (budget left : ℕ) (o : Bool) → o ≡ true → 1 ≤ left → left ≤ budget → (t : Tally) → t.budget ≡ budget → charged o (paid left t) ≡ go (paid (left - 1) t)
pays-one budget left o e l b t f = ap (λ (o : Bool). charged o (paid left t)) e ∙ paid-one left t l (omega arith)

-- the moves of a turn after others, of which the first began with a steps
pays-step : (budget left f a n : ℕ) (o : Bool) → o ≡ eqb f 0 → n < a → moves f (a - n) ≤ left → left ≤ budget → (t : Tally) → t.budget ≡ budget
    → charged o (paid (left - moves f (a - suc n)) t) ≡ go (paid (left - moves f (a - n)) t)
pays-step budget left zero a n o e l h b t q = pays-one budget (left - (a - suc n)) o e (omega arith) (omega arith) t q
    ∙ ap (λ (i : ℕ). go (paid i t)) {x = left - (a - suc n) - 1} {y = left - (a - n)} (omega arith)
pays-step budget left (suc f) a n o e l h b t q = pays-none budget (left - 0) o (e ∙ ne_eqb (suc f) 0 (λ z. omega arith)) t q

pays-turn : (budget left f a : ℕ) (p q : Point) (o : Bool) → p.forced ≡ f → p.steps ≤ a → Paces p o q → moves f (a - q.steps) ≤ left → left ≤ budget → (t : Tally) → t.budget ≡ budget
    → charged o (paid (left - moves f (a - p.steps)) t) ≡ go (paid (left - moves f (a - q.steps)) t)
pays-turn budget left f a p q o e l (silent g h) k b t z = pays-none budget (left - moves f (a - p.steps)) o g t z ∙ ap (λ (n : ℕ). go (paid (left - moves f (a - n)) t)) (sym h)
pays-turn budget left f a p q o e l (step g h) k b t z =
    ap (λ (n : ℕ). charged o (paid (left - moves f (a - n)) t)) {x = p.steps} {y = suc q.steps} (omega arith)
    ∙ pays-step budget left f a q.steps o (g ∙ ap (λ (f : ℕ). eqb f 0) e) (omega arith) k b t z

-- ---- where a path stands

-- the room that the checkpoints have yet, and cells that are not in use, those of the first frame with them
pub spare : (c : Code) (job : Window) (m : List ℕ) (p : Point) (s : Stack) → Stands c job m p s → Room m s.limit × (s.height ≤ s.limit) × (s.cells ≤ frame_cells) × (CallsMain c → Unused s.cells m p.run.depth)
spare c job m p s h = (
  room-less s.limit (omega arith) h.stacked.room,
  checkpoints-fit c job s.limit s.cells h.stacked.checkpoints,
  h.stacked.cells,
  unused-so c job s.limit m p h.comes h.going.ready s.cells h.stacked.uses,
)

module _ (c : Code) (job : Window) (limit : ℕ) where
  -- x is what `path` says from here on
  pub record From (x : Next Start) (m : List ℕ) (p : Point) (u : Tally) : Type 0 where
    pub turns : ℕ
    pub enough : turns_left c (machine_at m p.run) (state_at m p) < turns
    pub is : x ≡ path in_use job c limit turns (machine_at m p.run) (state_at m p) u

  pub record WalkedTo (budget : ℕ) (x : Machine Value) (y : State) (m : List ℕ) (p : Point) (s : Stack) (left : ℕ) : Type 0 where
    pub stands : Stands c job m p s
    pub limited : s.limit ≡ limit
    pub rest : left ≤ budget
    pub so : (t : Tally) → t.budget ≡ budget → (n : ℕ) → turns_left c x y < n → From (path in_use job c limit n x y t) m p (paid left t)

  module _ (budget : ℕ) (x : Machine Value) (y : State) where
    pub begins-so : (m : List ℕ) (p : Point) (s : Stack) → Stands c job m p s → s.limit ≡ limit → x ≡ machine_at m p.run → y ≡ state_at m p → WalkedTo budget x y m p s budget
    begins-so m p s h l e f = record {
      stands = h;
      limited = l;
      rest = omega arith;
      so = λ t g n b. record {
        turns = n;
        enough = subst (λ (k : ℕ). k < n) (ap₂ (turns_left c) e f) b;
        is = (λ i. path in_use job c limit n (e i) (f i) t) ∙ ap (path in_use job c limit n (machine_at m p.run) (state_at m p)) (same t g);
      };
    }
      where
        same : (t : Tally) → t.budget ≡ budget → t ≡ paid budget t
        same t e =
            let n : t.moves ≡ t.moves + (t.budget - budget) = omega arith in
            ap₂ (λ (b n : ℕ). tally b t.skip t.room t.rows n t.cut) e n

    -- a checkpoint is saved, or not
    pub reaches-kept : (m m' : List ℕ) (p : Point) (s r : Stack) (left : ℕ) → length m' ≡ length m → WalkedTo budget x y m p s left → Keeping c m m' p s r → WalkedTo budget x y m' p r left
    reaches-kept m m' p s r left len h k =
        let deep = h.stands.going.ready.deep in
        let e = kept-machine c m m' p deep s r k in
        let f = kept-state c m m' p deep s r k in
        record {
          stands = kept-stands c job m m' p s r len h.stands k;
          limited = kept-limit c m m' p deep s r k ∙ h.limited;
          rest = h.rest;
          so = λ t g n b.
              let u = h.so t g n b in
              record {
                turns = u.turns;
                enough = subst (λ (j : ℕ). j < u.turns) (ap₂ (turns_left c) (sym e) (sym f)) u.enough;
                is = u.is ∙ (λ i. path in_use job c limit u.turns (sym e i) (sym f i) (paid left t));
              };
        }

    -- one turn
    from-turn : (z : Next Start) (m : List ℕ) (p : Point) (u : Tally) → From z m p u → (w : Turn) → turn in_use job c (machine_at m p.run) (state_at m p) ≡ w
        → (k : ℕ) × ((turns_left c (machine_at m p.run) (state_at m p) < suc k) × (z ≡ then (charged w.move u) (after in_use job c limit k w.went)))
    from-turn z m p u f w e = by f.turns f.enough f.is
      where
        by : (n : ℕ) → turns_left c (machine_at m p.run) (state_at m p) < n → z ≡ path in_use job c limit n (machine_at m p.run) (state_at m p) u
            → (k : ℕ) × ((turns_left c (machine_at m p.run) (state_at m p) < suc k) × (z ≡ then (charged w.move u) (after in_use job c limit k w.went)))
        by zero l q = absurd (omega arith)
        by (suc k) l q = (k, (l, q ∙ path-turn in_use job c limit k (machine_at m p.run) (state_at m p) u w e))

    module _ (m m' : List ℕ) (p : Point) (s : Stack) (left : ℕ) (r : WalkedTo budget x y m p s left) where
      abbrev here : Turn
      here = turn in_use job c (machine_at m p.run) (state_at m p)

      starts-kept : (b : ℕ) → b ≤ 8 → Extends (starts_in m p.windows) (starts_in m' b) → ((k : ℕ) → k ≤ p.windows → starts_in m' k ≡ starts_in m k) × (p.windows ≤ b)
      starts-kept b l h = starts-stay m m' p.windows b r.stands.going.standing.tables.count l h

      -- the path goes on
      pub reaches-on : (q : Point) (o : Bool) (left' : ℕ) → Onward here m' p o q → Going m' q → Stays m m' p.run.nodes p.choices → length m' ≡ length m → left' ≤ budget
          → ((t : Tally) → t.budget ≡ budget → charged o (paid left t) ≡ go (paid left' t)) → WalkedTo budget x y m' q s left'
      reaches-on q o left' h g stays len l pay = record {
        stands = record {
          going = g;
          few = omega (arith, r.stands.few, h.fewer);
          comes = comes-on in_use job c s.limit (machine_at m p.run) (machine_at m' q.run) (state_at m p) (state_at m' q) r.stands.comes (ap (λ (t : Turn). t.went) h.is);
          stacked = record {
            checkpoints = checkpoints-stay c job s.limit s.cells m m' p.choices q.choices p.choices q.run.nodes q.choices q.windows (λ z a b. (a, a)) (alike-stays p.windows s.height len starts.0 stays) h.grows h.older starts.1 r.stands.stacked.checkpoints;
            room = room-same len r.stands.stacked.room;
            uses = r.stands.stacked.uses;
            cells = r.stands.stacked.cells;
          };
        };
        limited = r.limited;
        rest = l;
        so = λ t e n b.
            let f = from-turn (path in_use job c limit n x y t) m p (paid left t) (r.so t e n b) (record { move = o; went = on (machine_at m' q.run) (state_at m' q) }) h.is in
            let near = (nearer-of job c m m' p q o r.stands.going.ready h.is).nearer in
            record { turns = f.0; enough = omega (arith, f.1.0, near); is = f.1.1 ∙ ap (λ (z : Next Tally). then z (after in_use job c limit f.0 (on (machine_at m' q.run) (state_at m' q)))) (pay t e) };
      }
        where
          starts : ((k : ℕ) → k ≤ p.windows → starts_in m' k ≡ starts_in m k) × (p.windows ≤ q.windows)
          starts = starts-kept q.windows g.standing.tables.count (starts-on in_use job c (machine_at m p.run) (state_at m p) (machine_at m' q.run) (state_at m' q) (ap (λ (t : Turn). t.went) h.is))

      pub nearer : (q : Point) (o : Bool) → Onward here m' p o q → turns_left c (machine_at m' q.run) (state_at m' q) < turns_left c (machine_at m p.run) (state_at m p)
      nearer q o h = (nearer-of job c m m' p q o r.stands.going.ready h.is).nearer

      -- the budget is spent
      pub reaches-spent : (q : Point) (o : Bool) → Onward here m' p o q → o ≡ true → left ≡ 0 → Walks c job limit budget x y (λ t. over (closed spent (paid 0 t)))
      reaches-spent q o h e z = record {
        is = λ t f n b.
            let g = from-turn (path in_use job c limit n x y t) m p (paid left t) (r.so t f n b) (record { move = o; went = on (machine_at m' q.run) (state_at m' q) }) h.is in
            g.1.1 ∙ ap₂ (λ (o : Bool) (l : ℕ). then (charged o (paid l t)) (after in_use job c limit g.0 (on (machine_at m' q.run) (state_at m' q)))) e z
            ∙ ap (λ (v : Next Tally). then v (after in_use job c limit g.0 (on (machine_at m' q.run) (state_at m' q)))) (charge-none t.skip t.room t.rows (t.moves + (t.budget - 0)) t.cut);
      }

      -- the path has ended
      pub reaches_end : (e : End) → Stops here m' p e → Stays m m' p.run.nodes p.choices → length m' ≡ length m → Ends c job limit budget x y m' e p s left
      reaches_end e h stays len = record {
        walks = record { is = λ t f n b. (from-turn (path in_use job c limit n x y t) m p (paid left t) (r.so t f n b) (still (ended e (state_at m' p))) h.is).1.1 };
        standing = h.standing;
        few = omega (arith, r.stands.few, r.limited);
        rest = r.rest;
        stacked = record {
          checkpoints = checkpoints-stay c job s.limit s.cells m m' p.choices p.choices p.choices p.run.nodes p.choices p.windows (λ z a b. (a, a)) (alike-stays p.windows s.height len (starts-kept p.windows r.stands.going.standing.tables.count (starts-end in_use job c (machine_at m p.run) (state_at m p) e (state_at m' p) (ap (λ (t : Turn). t.went) h.is))).0 stays) (omega arith) (omega arith) (omega arith) r.stands.stacked.checkpoints;
          room = room-same len r.stands.stacked.room;
          uses = r.stands.stacked.uses;
          cells = r.stands.stacked.cells;
        };
        limited = r.limited;
      }

    -- turns on known values, for which the budget pays
    pub reaches-turns : (m : List ℕ) (p : Point) (m' : List ℕ) (q : Point) (s : Stack) (left : ℕ) → WalkedTo budget x y m p s left → Turns c m p m' q → moves p.forced (p.steps - q.steps) ≤ left
        → WalkedTo budget x y m' q s (left - moves p.forced (p.steps - q.steps))
    reaches-turns m p m' q s left r (none e f) l =
        let z : left ≡ left - moves p.forced (p.steps - q.steps) = omega (arith, moves-none p.forced p.steps q.steps (ap (λ (q : Point). q.steps) f)) in
        subst (WalkedTo budget x y m' q s) z (subst (λ (q : Point). WalkedTo budget x y m' q s left) (sym f) (subst (λ (m : List ℕ). WalkedTo budget x y m p s left) (sym e) r))
    reaches-turns m p m' q s left r (more m₁ p₁ ts h) l =
        let g = r.stands.going in
        let k : moves p.forced (p.steps - p₁.steps) ≤ left = omega (arith, l, moves-less p.forced p.steps q.steps p₁.steps (paced p₁ q h.move h.paces)) in
        reaches-on m₁ m' p₁ s (left - moves p.forced (p.steps - p₁.steps)) (reaches-turns m p m₁ p₁ s left r ts k) q h.move (left - moves p.forced (p.steps - q.steps)) (h.is job) h.going h.stays h.len
        (omega (arith, r.rest)) (pays-turn budget left p.forced p.steps p₁ q h.move (turns-forced c m p g m₁ p₁ ts) (turns-fewer c m p g m₁ p₁ ts) h.paces l r.rest)

    pub reaches-passed : (m m' : List ℕ) (p q : Point) (s : Stack) (left left' : ℕ) → WalkedTo budget x y m p s left → Passes c m m' p left q left' → WalkedTo budget x y m' q s left'
    reaches-passed m m' p q s left left' r h = subst (WalkedTo budget x y m' q s) (sym h.rest) (reaches-turns m p m' q s left r h.turns h.covers)
