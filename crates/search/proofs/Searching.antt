-- Path after path: the answer to the whole search stays the same, and the budget falls.
use Rattle.std.specs.Prelude.{Result, Ok, Err}
use Prim.Native.Nat.{ℕ, ◌+◌, ◌*◌, ◌≤◌, ◌<◌}
use native.Mathlib.Omega.{arith}
use mathlib.Core.Path.{◌≡◌, refl, sym, ◌∙◌, subst}
use mathlib.Core.Bool.{false}
use mathlib.Core.List.{List}
use lib.ListN.{length}
use lib.IntN.{ℤ}
use Rattle.semantics.specs.Does.{does, Sure}
use Rattle.semantics.specs.Program.{Window}
use Rattle.semantics.specs.Run.{Job}
use Rattle.semantics.specs.Search.{known, work, in_use, listed}
use Rattle.simulation.specs.Code.{Code}
use Rattle.simulation.specs.Machine.{start}
use Rattle.simulation.specs.Path.{begins}
use Rattle.simulation.specs.Lister.{opening}
use Rattle.simulation.specs.Measure.{most_turns}
use Rattle.simulation.proofs.Drive.{kept-start, turns-le}
use Rattle.simulation.proofs.Listing.{tree_of, Opens, OpensNext, leads-start, path-ok, opens-start}
use Rattle.simulation.specs.Placed.{Placed}
use Rattle.simulation.proofs.Spending.{Fewer, path-fewer}
use Rattle.machine.specs.Memory.{outcomes_in}
use Rattle.settings.specs.declared.Tally.{Tally}
use Rattle.settings.specs.Rows.{rows_at}
use Rattle.settings.specs.Tries.{tally_of, Rowed, Fair}
use Rattle.settings.proofs.Counting.{rowed-none}
use Rattle.settings.proofs.Going.{rowed-more}
use Rattle.settings.proofs.Slice.{sheet-is}
use Rattle.search.specs.Loop.{start_of, then_of, Round, Lists}
use Rattle.search.specs.declared.Answered.{Answered}

-- what was counted at first
abbrev pub first : ℕ → ℕ → ℕ → Tally
first skip room budget = record { budget = budget; skip = skip; room = room; written = 0; moves = 0; cut = false }

-- between two paths: the answer to every job that the code is and that has no stuck run, the rows so far, and what was counted
pub record Between (c : Code) (window : Window) (limit skip room budget : ℕ) (m₀ : List ℕ) (rows₀ : List ℤ) (m : List ℕ) (rows : List ℤ) (forced : ℕ) (t : Tally) : Type 0 where
  pub opens : (j : Job) → Placed c j.program → Sure (does known work j.steps j.program) → j.window ≡ window → j.steps ≡ limit
      → Opens (listed in_use j skip room budget) (tree_of in_use window limit j.program) (start_of m rows forced t)
  pub rowed : Rowed rows₀ rows 0 t.written
  pub places : t.written + t.room ≡ room
  pub sum : t.moves + t.budget ≡ budget
  pub size : length m ≡ length m₀
  pub sheet : length rows ≡ length rows₀

module _ (c : Code) (window : Window) (limit skip room budget : ℕ) (m₀ : List ℕ) (rows₀ : List ℤ) where
  opens-first : (j : Job) → j.window ≡ window → j.steps ≡ limit → Opens (listed in_use j skip room budget) (tree_of in_use window limit j.program) (start_of m₀ rows₀ 0 (first skip room budget))
  unfolding outcomes_in rows_at
  opens-first j p q =
      subst (λ (w : Window). Opens (listed in_use j skip room budget) (tree_of in_use w limit j.program) (opening skip room budget)) p
      (subst (λ (n : ℕ). Opens (listed in_use j skip room budget) (tree_of in_use j.window n j.program) (opening skip room budget)) q (opens-start in_use j skip room budget))

  pub between_first : Between c window limit skip room budget m₀ rows₀ m₀ rows₀ 0 (first skip room budget)
  between_first = record {
    opens = λ j h u p q. opens-first j p q;
    rowed = rowed-none rows₀ 0;
    places = omega arith;
    sum = omega arith;
    size = refl;
    sheet = refl;
  }

  module _ (m : List ℕ) (rows : List ℤ) (forced : ℕ) (t : Tally) (b : Between c window limit skip room budget m₀ rows₀ m rows forced t) where
    pub between-fair : budget < 4294967296 → 10 * room ≤ length rows₀ → Fair (length rows) t
    between-fair l h = record { sum = omega (arith, b.sum, l); place = subst (λ (n : ℕ). 10 * n ≤ length rows) (sym b.places) (omega (arith, b.sheet, h)) }

    module _ (m' : List ℕ) (rows' : List ℤ) (r : Result (ℕ × Tally) Answered) (h : Round c window limit m m' rows rows' forced t r) where
      opens-next : (j : Job) → Placed c j.program → Sure (does known work j.steps j.program) → j.window ≡ window → j.steps ≡ limit
          → OpensNext (listed in_use j skip room budget) (tree_of in_use window limit j.program) (then_of m' rows' r)
      opens-next j placing sure p q =
          let a = listed in_use j skip room budget in
          let tree = tree_of in_use window limit j.program in
          let k = kept-start c limit (outcomes_in m 0 forced) in
          subst (OpensNext a tree) (sym h.is)
          (path-ok a tree in_use window c limit (most_turns c limit) (start known work c) (begins limit (outcomes_in m 0 forced)) (tally_of rows t)
          (leads-start a in_use window c limit j.program placing (subst (λ (n : ℕ). Sure (does known work n j.program)) q sure) (start_of m rows forced t) (b.opens j placing sure p q)) k
          (turns-le c limit (start known work c) (begins limit (outcomes_in m 0 forced)) k))

      fewer : Fewer t.budget (then_of m' rows' r)
      fewer = subst (Fewer t.budget) (sym h.is) (path-fewer in_use window c limit (most_turns c limit) (start known work c) (begins limit (outcomes_in m 0 forced)) (tally_of rows t))

    pub between-less : (m' : List ℕ) (rows' : List ℤ) (r : Result (ℕ × Tally) Answered) → Round c window limit m m' rows rows' forced t r → (k : ℕ) (u : Tally) → r ≡ Ok (k, u) → u.budget < t.budget
    between-less m' rows' r h k u e = subst (λ (r : Result (ℕ × Tally) Answered). Fewer t.budget (then_of m' rows' r)) e (fewer m' rows' r h)

    pub between_next : (m' : List ℕ) (rows' : List ℤ) (r : Result (ℕ × Tally) Answered) → Round c window limit m m' rows rows' forced t r → (k : ℕ) (u : Tally) → r ≡ Ok (k, u) → length m'
        ≡ length m → length rows' ≡ length rows
        → Between c window limit skip room budget m₀ rows₀ m' rows' k u
    between_next m' rows' r h k u e x y = by (subst (λ (r : Result (ℕ × Tally) Answered). Round c window limit m m' rows rows' forced t r) e h)
      where
        by : Round c window limit m m' rows rows' forced t (Ok (k, u)) → Between c window limit skip room budget m₀ rows₀ m' rows' k u
        by h = record {
          opens = opens-next m' rows' (Ok (k, u)) h;
          rowed = rowed-more rows₀ rows rows' 0 t.written u.written (omega arith) h.onward.more b.rowed h.rowed;
          places = h.onward.places ∙ b.places;
          sum = h.onward.sum ∙ b.sum;
          size = x ∙ b.size;
          sheet = y ∙ b.sheet;
        }

    pub between-over : 10 * room ≤ length rows₀ → (m' : List ℕ) (rows' : List ℤ) (r : Result (ℕ × Tally) Answered) → Round c window limit m m' rows rows' forced t r → (a : Answered) → r ≡ Err a → length rows'
        ≡ length rows → Lists c window limit skip room budget rows₀ rows' a
    between-over l m' rows' r h a e y = by (subst (λ (r : Result (ℕ × Tally) Answered). Round c window limit m m' rows rows' forced t r) e h)
      where
        by : Round c window limit m m' rows rows' forced t (Err a) → Lists c window limit skip room budget rows₀ rows' a
        by h = record {
          is = opens-next m' rows' (Err a) h;
          sheet = sheet-is rows₀ rows' a.written (y ∙ b.sheet) (omega (arith, l, h.onward.most, b.places))
              (rowed-more rows₀ rows rows' 0 t.written a.written (omega arith) h.onward.more b.rowed h.rowed);
          few = omega (arith, h.onward.most, b.places);
        }
