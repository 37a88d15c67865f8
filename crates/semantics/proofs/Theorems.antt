-- The theorems on runs, plan list and search, by name, in the words of specs/. What is said of the search holds with every sound solver; document 01's is one of them.
use Prim.Native.Nat.{ℕ}
use mathlib.Core.Path.{◌≡◌, sym, subst, ◌∙◌}
use mathlib.Core.Logic.{◌↔◌}
use mathlib.Core.List.{List, ◌∷◌, ◌++◌}
use lib.ListN.{get_or}
use lib.Dec.{T}
use Rattle.semantics.specs.Program.{Window, Stmts}
use Rattle.semantics.specs.Run.{Job, Choice, Row}
use Rattle.semantics.specs.Plans.{choices, plans}
use Rattle.semantics.specs.Search.{all32, Solver, search, rows_within, cut_in, Answer, listed}
use Rattle.semantics.specs.Demand.{◌∈◌, In32, InPairs, Belongs, RowOf, PlanList, SomeCut}
use Rattle.semantics.specs.Promise.{Promised}
use Rattle.semantics.proofs.Order.{le_z→}
use Rattle.semantics.proofs.Range.{Sub}
use Rattle.semantics.proofs.Sound.{Sound}
use Rattle.semantics.proofs.Complete.{Small, search-rows, search-cut}
use Rattle.semantics.proofs.Own.{Pairs, pairs-map}
use Rattle.semantics.proofs.Plans
use Rattle.semantics.proofs.Answer
-- the turns of a while never run out before the step limit
pub use Rattle.semantics.proofs.Fuel.{turns}
-- an int keeps the low 32 bits of the exact result; ranges are least and greatest; they decide exactly what holds of all their numbers; narrowing keeps exactly what it should, and empties no window; document 01's solver is sound
pub use Rattle.semantics.proofs.Exact.{wrap-exact, range-exact, decided-true, decided-false, clip-exact}
pub use Rattle.semantics.proofs.Filled.{range-filled, never-empty}
pub use Rattle.semantics.proofs.Idle.{decided-idle}
pub use Rattle.semantics.proofs.Sound.{by_ranges-sound, in_use-sound}
-- programs on which readings of the paper differ
pub use Rattle.semantics.proofs.Examples.{further-hold}

in-32 : (w : Window) → In32 w → Sub w all32
unfolding all32
in-32 w h = record { least = le_z→ _ w.low h.0; most = le_z→ w.high _ h.1 }

-- a job whose window and own pairs all lie in 32 bits, as those of every text do
pub record Job32 (j : Job) : Type 0 where
  pub window : In32 j.window
  pub pairs : Pairs In32 j.program

small : (j : Job) → Job32 j → Small j
small j h = record { window = in-32 j.window h.window; pairs = λ g. pairs-map in-32 (get_or j.program.bodies g Stmts.end) (h.pairs g) }

-- ---- the plan list, from the runs alone

-- the choices of a job are the lists of values, each in its own pair, whose run reaches as many free declarations as there are values; each is found once
pub belongs : (j : Job) (c : Choice) → (c ∈ choices j) ↔ Belongs j c
belongs = Plans.belongs

pub choices-once : (j : Job) (x y z : List Choice) (c : Choice) → choices j ≡ x ++ c ∷ (y ++ c ∷ z) → ⊥
choices-once = Plans.choices-once

-- each value of a row lies in the pair of its own declaration
pub inside-own : (j : Job) (r : Row) → r ∈ plans j → (c : Choice) × (RowOf j c r × InPairs j.window c.ran.starts r.values)
inside-own j r m = let p = Plans.row-choice j r m in (p.0, (p.1, subst (InPairs j.window p.0.ran.starts) p.1.values p.1.belongs.inside))

-- the plan list is what the demand says of it, and no other list is
pub plan-list : (j : Job) → Job32 j → PlanList j (plans j)
plan-list j h = Plans.plan-list j (small j h)

pub plan-list-unique : (j : Job) → Job32 j → (rows : List Row) → PlanList j rows → rows ≡ plans j
plan-list-unique j h = Plans.plan-list-unique j (small j h)

-- ---- the search, with any sound solver

module _ (v : Solver) (sound : Sound v) (j : Job) (fits : Job32 j) where
  -- the rows of the whole search are the plan list
  pub whole-rows : rows_within (search v j) ≡ plans j
  whole-rows = search-rows v sound j (small j fits)

  -- and a cut run is found exactly if some choice of the job is cut
  pub whole-cut : T (cut_in (search v j)) ↔ SomeCut j
  whole-cut =
      let e = search-cut v sound j (small j fits) in
      (λ t. (Plans.some-cut j).0 (subst T e t), λ s. subst T (sym e) ((Plans.some-cut j).1 s))

  -- what is written, the moves made and the ending, under every skip, room and budget
  pub promise : (skip room budget : ℕ) → Promised v j (plans j) skip room budget (listed v j skip room budget)
  promise = Answer.promise v sound j (small j fits)

  -- which leaves nothing open: an answer that keeps the promise is this one
  pub promise-unique : (skip room budget : ℕ) (a : Answer) → Promised v j (plans j) skip room budget a → a ≡ listed v j skip room budget
  promise-unique skip room budget a p = Answer.promise-settles v j skip room budget a (listed v j skip room budget) p (promise skip room budget)

-- two sound solvers find the same rows in the same order, and a cut run both or neither
module _ (u v : Solver) (sound₁ : Sound u) (sound₂ : Sound v) (j : Job) (fits : Job32 j) where
  pub solvers-agree : (rows_within (search u j) ≡ rows_within (search v j)) × (cut_in (search u j) ≡ cut_in (search v j))
  solvers-agree =
      let i = small j fits in
      (search-rows u sound₁ j i ∙ sym (search-rows v sound₂ j i), search-cut u sound₁ j i ∙ sym (search-cut v sound₂ j i))
