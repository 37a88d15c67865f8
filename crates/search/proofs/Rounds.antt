-- One path and its end, as the loop over the paths takes them.
use Rattle.search.specs.declared.Next.{Next}
use Rattle.std.specs.Prelude.{Option, Result, Ok, Err}
use Prim.Native.Nat.{ℕ, ◌+◌, ◌-◌, ◌≤◌, ◌<◌}
use native.Mathlib.Omega.{arith}
use mathlib.Core.Path.{◌≡◌, refl, sym, ap, ◌∙◌, subst}
use mathlib.Core.Bool.{Bool}
use mathlib.Core.List.{List}
use lib.ListN.{length}
use lib.IntN.{ℤ}
use Rattle.semantics.specs.Program.{Window}
use Rattle.semantics.specs.Search.{known, work, spent}
use Rattle.simulation.specs.Code.{Code, Entry}
use Rattle.simulation.specs.Machine.{start}
use Rattle.simulation.specs.Path.{begins, End}
use Rattle.simulation.specs.Lister.{over, closed}
use Rattle.simulation.specs.Measure.{turns_left, most_turns}
use Rattle.simulation.proofs.Drive.{kept-start, turns-le}
use Rattle.simulation.specs.Cells.{Uses}
use Rattle.machine.specs.Layout.{frame_cells}
use Rattle.machine.specs.Memory.{outcomes_in}
use Rattle.machine.specs.Terms.{Room}
use Rattle.machine.proofs.Tables.{room-same}
use Rattle.settings.specs.declared.Tally.{Tally}
use Rattle.settings.specs.Tries.{tally_of, leaving, Counts, Fair}
use Rattle.settings.proofs.Counting.{rowed-none}
use Rattle.paths.specs.declared.Point.{Point}
use Rattle.paths.proofs.Table.{starts-same}
use Rattle.walks.specs.declared.Stack.{Stack}
use Rattle.walks.specs.declared.Ended.{Ended}
use Rattle.walks.specs.Checkpoints.{none, StackHolds}
use Rattle.walks.specs.Walk.{paid, Walks, Ends, FromMain, Begins}
use Rattle.walks.proofs.Checkpoints.{Alike, checkpoints-stay}
use Rattle.search.specs.Loop.{closes, BacktracksBy, Finished, Round, Resumes}
use Rattle.search.specs.declared.Ending.TheVariants as ending
use Rattle.search.specs.declared.Answered.{Answered}
use Rattle.search.proofs.Backs.{onward-more}

-- how the path went, by the kind of its end
pub walked_as : (c : Code) (job : Window) (limit budget : ℕ) (forced : List Bool) (m : List ℕ) (r w : Option Ended) → r ≡ w → FromMain c job limit budget forced m r → FromMain c job limit budget forced m w
walked_as c job limit budget forced m r w e h = subst (FromMain c job limit budget forced m) e h

paying-counts : (t : Tally) (left : ℕ) → left ≤ t.budget → Counts t (leaving t left)
paying-counts t left l = record { sum = omega (arith, l); places = refl; more = omega arith; spends = l }

pub paying-fair : (t u : Tally) (left size : ℕ) → u ≡ leaving t left → left ≤ t.budget → Fair size t → Fair size u
paying-fair t u left size e l f = subst (Fair size) (sym e) (record { sum = omega (arith, l, f.sum); place = f.place })

pub room-few : (m m' : List ℕ) (n limit : ℕ) → n ≤ limit → length m' ≡ length m → Room m (limit + 1) → Room m' n
room-few m m' n limit l e r = record { words = omega (arith, l, e, r.words); small = omega (arith, l, r.small) }

-- a path from the start of main has fewer turns than this
enough : (c : Code) (limit : ℕ) (fs : List Bool) → turns_left c (start known work c) (begins limit fs) < most_turns c limit
enough c limit fs = turns-le c limit (start known work c) (begins limit fs) (kept-start c limit fs)

-- the checkpoints before the next path, if there is one
abbrev Resuming : Code → Window → List ℕ → ℕ → Result (ℕ × Tally) Answered → Stack → Type 0
Resuming c job m' limit (Ok x) s = Begins c job m' x.0 s × (s.limit ≡ limit)
Resuming c job m' limit (Err a) s = Unit {0}

-- the checkpoints of a path that has ended are those before the next one
resumes : (c : Code) (job : Window) (limit : ℕ) (m₁ m₂ : List ℕ) (n choices u : ℕ) (s : Stack) (r : Result (ℕ × Tally) Answered) → StackHolds c job m₁ choices n choices u s → s.limit ≡ limit → length m₂ ≡ length m₁ → BacktracksBy m₁ m₂ choices r
    → Resuming c job m₂ limit r s
resumes c job limit m₁ m₂ n choices w s (Err a) h e len f = tt
resumes c job limit m₁ m₂ n choices w s (Ok (k, u)) h e len f = (
  record {
    nodes = n;
    choices = choices;
    windows = w;
    stacked = record {
      checkpoints = checkpoints-stay c job s.limit s.cells m₁ m₂ choices (k - 1) (k - 1) n choices w (λ x l g. (l, g)) alike (omega arith) (omega arith) (omega arith) h.checkpoints;
      room = room-same len h.room;
      uses = h.uses;
      cells = h.cells;
    };
    first = λ z. absurd (omega (arith, f.some));
  },
  e,
)
  where
    alike : Alike m₁ m₂ n (k - 1) w s.height
    alike = record {
      marks = λ i x l a b. f.other x (λ y z. omega arith) (λ q g. omega arith) (λ g. omega arith);
      nodes = λ x j l a b. f.other x (λ y z. omega arith) (λ q g. omega arith) (λ g. omega arith);
      tests = λ x j l a b. f.other x (λ y z. omega arith) (λ q g. omega arith) (λ g. omega (arith, f.some));
      starts = λ i l. starts-same m₁ m₂ i (λ x a b. f.other x (λ y z. omega arith) (λ q g. omega arith) (λ g. omega arith));
      len = len;
    }

module _ (c : Code) (job : Window) (limit : ℕ) (m m₁ m₂ : List ℕ) (rows rows' : List ℤ) (forced : ℕ) (t : Tally) where
  pub round-ended : (e : End) (p : Point) (s : Stack) (left : ℕ) → Ends c job limit t.budget (start known work c) (begins limit (outcomes_in m 0 forced)) m₁ e p s left → (u : Tally) → u ≡ leaving t left → (r : Result (ℕ × Tally) Answered)
      → length m₂ ≡ length m₁ → Finished m₁ m₂ rows rows' e p u r → Round c job limit m m₂ rows rows' forced t r × Resuming c job m₂ limit r s
  round-ended e p s left h u q r len f = (by (subst (λ (u : Tally). Finished m₁ m₂ rows rows' e p u r) q f), resumes c job limit m₁ m₂ p.run.nodes p.choices p.windows s r h.stacked h.limited len f.backtracks)
    where
      by : Finished m₁ m₂ rows rows' e p (leaving t left) r → Round c job limit m m₂ rows rows' forced t r
      by f = record {
        is = f.is ∙ sym (h.walks.is (tally_of rows t) refl (most_turns c limit) (enough c limit (outcomes_in m 0 forced)));
        onward = onward-more t (leaving t left) r (paying-counts t left h.rest) f.onward;
        rowed = f.rowed;
      }

pub round-spent : (c : Code) (job : Window) (limit : ℕ) (m m₁ : List ℕ) (rows : List ℤ) (forced : ℕ) (t : Tally)
    → Walks c job limit t.budget (start known work c) (begins limit (outcomes_in m 0 forced)) (λ t. over (closed spent (paid 0 t))) → (u : Tally) → u ≡ leaving t 0
    → (a : Answered) → a ≡ closes u ending.Spent → Round c job limit m m₁ rows rows forced t (Err a)
round-spent c job limit m m₁ rows forced t h u q a d = subst (λ (a : Answered). Round c job limit m m₁ rows rows forced t (Err a)) (sym (d ∙ ap (λ (u : Tally). closes u ending.Spent) q)) (record {
  is = sym (h.is (tally_of rows t) refl (most_turns c limit) (enough c limit (outcomes_in m 0 forced)));
  onward = record { more = omega arith; most = omega arith };
  rowed = rowed-none rows t.written;
})

-- ---- the first path has no checkpoint

-- a code uses the cells that its entries use, wherever its functions begin
pub uses-of : (c : Code) (es : List Entry) (cells : ℕ) → es ≡ c.entries → ((starts : List ℕ) → Uses (record { entries = es; starts = starts }) cells) × (cells ≤ frame_cells) → Uses c cells × (cells ≤ frame_cells)
uses-of c es cells e u = (record { each = (subst (λ (es : List Entry). Uses (record { entries = es; starts = c.starts }) cells) e (u.0 c.starts)).each }, u.1)

pub begins-first : (c : Code) (job : Window) (m : List ℕ) (limit cells : ℕ) → Room m (limit + 1) → Uses c cells × (cells ≤ frame_cells) → Begins c job m 0 (record { height = 0; limit = limit; cells = cells })
begins-first c job m limit cells r u = record { nodes = 0; choices = 0; windows = 0; stacked = record { checkpoints = none refl; room = r; uses = u.0; cells = u.1 }; first = λ e. refl }

-- the limit is that of the search
pub round-as : (c : Code) (job : Window) (l limit : ℕ) (m m' : List ℕ) (rows rows' : List ℤ) (forced : ℕ) (t : Tally) (r : Result (ℕ × Tally) Answered) → l ≡ limit → Round c job l m m' rows rows' forced t r → Round c job limit m m' rows rows' forced t r
round-as c job l limit m m' rows rows' forced t r e h = subst (λ (l : ℕ). Round c job l m m' rows rows' forced t r) e h

pub resumes-as : (c : Code) (job : Window) (m' : List ℕ) (l limit : ℕ) (r : Result Next Answered) (s : Next) → r ≡ Ok s → l ≡ limit → Resumes c job m' l r → Begins c job m' s.forced s.stack × (s.stack.limit ≡ limit)
resumes-as c job m' l limit r s e f h =
    let g : Begins c job m' s.forced s.stack × (s.stack.limit ≡ l) = subst (λ (r : Result Next Answered). Resumes c job m' l r) e h in
    (g.0, g.1 ∙ f)
