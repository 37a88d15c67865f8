-- The search is complete: over a whole search, the rows found are the plan list, and a cut run is found exactly where some choice is cut.
use mathlib.Core.Path.{◌≡◌, refl, sym, ap, ap₂, ◌∙◌}
use mathlib.Core.Bool.{Bool, true, false, ◌&&◌, ◌||◌}
use mathlib.Core.Option.{Option}
use mathlib.Core.List.{List, [], ◌∷◌, ◌++◌}
use native.Mathlib.Omega.{arith}
use lib.ListN.{length}
use lib.IntN.{ℤ}
use lib.Dec.{leb-zero}
use Rattle.semantics.specs.Int.{arith as work32}
use Rattle.semantics.specs.Does.{does}
use Rattle.semantics.specs.Run.{Ending, returns, fails, cuts, Ran, Choice, Row, Job, meaning}
use Rattle.semantics.specs.Plans.{before, insert, sorted, rows_with, rows_of, is_cut, choices, plans, some_cut}
use Rattle.semantics.specs.Search.{known, work, all32, Move, plain, found, probe, meets, paths, moves, probed_once, openly, Solver, search, rows_within, cut_in}
use Rattle.semantics.proofs.Order.{cond_cases}
use Rattle.semantics.proofs.Range.{Sub, sub_refl}
use Rattle.semantics.proofs.Keep.{keep_all, all_of}
use Rattle.semantics.proofs.Ends.{adding, belonging, ends, sorted-ends}
use Rattle.semantics.proofs.Natural.{natural}
use Rattle.semantics.proofs.Settings.{lists, fits, rising-lists}
use Rattle.semantics.proofs.Own.{Pairs, does-asks}
use Rattle.semantics.proofs.Walked.{walked}
use Rattle.semantics.proofs.Seen.{seen_in, seen_of, seen_end}
use Rattle.semantics.proofs.Trace.{search-good, in-32}
use Rattle.semantics.proofs.Sound.{Sound}

-- ---- what is seen, in the words of the definitions

rows_in : (ms : List Move) → (seen_in ms).rows ≡ rows_within ms
unfolding seen_in rows_within
rows_in [] = refl
rows_in (plain k ∷ ms) = rows_in ms
rows_in (found r ∷ ms) = ap (λ l. r ∷ l) (rows_in ms)
rows_in (probe o ∷ ms) = rows_in ms

cut-in : (ms : List Move) → (seen_in ms).cut ≡ cut_in ms
unfolding seen_in cut_in
cut-in [] = refl
cut-in (plain k ∷ ms) = cut-in ms
cut-in (found r ∷ ms) = cut-in ms
cut-in (probe o ∷ ms) = ap (λ b. o || b) (cut-in ms)

row_step : (e : Ending) (vs : List ℤ) (l : List Row) → (seen_end e vs).rows ++ l ≡ rows_with e vs l
row_step (returns z) vs l = refl
row_step fails vs l = refl
row_step cuts vs l = refl

rows-of : (cs : List Choice) → (seen_of cs).rows ≡ rows_of cs
unfolding seen_of rows_of
rows-of [] = refl
rows-of (c ∷ cs) = row_step c.ran.ending c.values (seen_of cs).rows ∙ ap (rows_with c.ran.ending c.values) (rows-of cs)

cut_step : (e : Ending) (vs : List ℤ) → (seen_end e vs).cut ≡ is_cut e
cut_step (returns z) vs = refl
cut_step fails vs = refl
cut_step cuts vs = refl

cut_of : (cs : List Choice) → (seen_of cs).cut ≡ some_cut cs
unfolding seen_of some_cut
cut_of [] = refl
cut_of (c ∷ cs) = ap₂ (λ a b. a || b) (cut_step c.ran.ending c.values) (cut_of cs)

-- ---- once a cut run is found, no further is looked for

rows_settled : (h : Bool) (ms : List Move) → rows_within (probed_once h ms) ≡ rows_within ms
unfolding probed_once rows_within
rows_settled h [] = refl
rows_settled h (plain k ∷ ms) = rows_settled h ms
rows_settled h (found r ∷ ms) = ap (λ l. r ∷ l) (rows_settled h ms)
rows_settled false (probe o ∷ ms) = rows_settled o ms
rows_settled true (probe o ∷ ms) = rows_settled true ms

cut-settled : (ms : List Move) → cut_in (probed_once false ms) ≡ cut_in ms
unfolding probed_once cut_in
cut-settled [] = refl
cut-settled (plain k ∷ ms) = cut-settled ms
cut-settled (found r ∷ ms) = cut-settled ms
cut-settled (probe false ∷ ms) = cut-settled ms
cut-settled (probe true ∷ ms) = refl

-- ---- sorting loses no choice that is cut

swap : (a b c : Bool) → (a || (b || c)) ≡ (b || (a || c))
swap true true c = refl
swap true false c = refl
swap false true c = refl
swap false false c = refl

cut-insert : (c : Choice) (cs : List Choice) → some_cut (insert c cs) ≡ some_cut (c ∷ cs)
unfolding some_cut insert
cut-insert c [] = refl
cut-insert c (d ∷ cs) = cond_cases (before c d) (λ l. some_cut l ≡ some_cut (c ∷ d ∷ cs)) (λ t. refl) (λ t. ap (λ b. is_cut d.ran.ending || b) (cut-insert c cs) ∙ swap (is_cut d.ran.ending) (is_cut c.ran.ending) (some_cut cs))

cut_sorted : (cs : List Choice) → some_cut (sorted cs) ≡ some_cut cs
unfolding some_cut sorted
cut_sorted [] = refl
cut_sorted (c ∷ cs) = cut-insert c (sorted cs) ∙ ap (λ b. is_cut c.ran.ending || b) (cut_sorted cs)

-- ---- the theorem

same-choices : (f g : List ℤ → Option Ran) → ((s : List ℤ) → f s ≡ g s) → (ss : List (List ℤ)) → belonging f ss ≡ belonging g ss
unfolding belonging
same-choices f g h [] = refl
same-choices f g h (s ∷ ss) = ap₂ (λ r l. adding r s l) (h s) (same-choices f g h ss)

-- what the theorems on a job ask: its window and every own pair lie in 32 bits
pub record Small (j : Job) : Type 0 where
  pub window : Sub j.window all32
  pub pairs : Pairs (λ w. Sub w all32) j.program

-- the choices of a job, in their order, are the leaves of what its program does over open values
pub sorted-choices : (j : Job) → Small j → sorted (choices j) ≡ ends j.window 0 (openly j) (lists 8 all32)
unfolding choices meaning openly
sorted-choices j h =
    ap sorted (walked j.window all32 h.window (does (λ z. z) work32 j.steps j.program) (does-asks _ (λ z. z) work32 j.steps j.program h.pairs) j.steps 8)
    ∙ ap sorted (same-choices _ _ (λ s. sym (natural j.window j.steps j.steps j.program s)) (lists 8 all32))
    ∙ sorted-ends j.window 0 (openly j) (lists 8 all32) (rising-lists all32 8)

module _ (solver : Solver) (sound : Sound solver) (j : Job) (small : Small j) where
  abbrev all-moves : List Move
  all-moves = moves (paths solver j.window (openly j) [] [])

  seen : seen_in all-moves ≡ seen_of (sorted (choices j))
  unfolding meets openly fits
  seen =
      (search-good solver sound j.window small.window (does known work j.steps j.program) (does-asks _ known work j.steps j.program small.pairs) j.steps 8).good [] [] [] (omega arith)
      (record { narrower = record { many = refl; each = λ i. sub_refl all32 }; within32 = λ i l. absurd (omega arith); keeps = λ s i l f m. in-32 s i })
      ∙ ap (λ l. seen_of (ends j.window 0 (openly j) l)) (keep_all _ (all_of (λ s. ap (λ b. (b && true) && true) (leb-zero (length s))) (lists 8 all32)))
      ∙ ap seen_of (sym (sorted-choices j small))

  pub search-rows : rows_within (search solver j) ≡ plans j
  unfolding search plans
  search-rows = rows_settled false all-moves ∙ sym (rows_in all-moves) ∙ ap (λ s. s.rows) seen ∙ rows-of (sorted (choices j))

  pub search-cut : cut_in (search solver j) ≡ some_cut (choices j)
  unfolding search
  search-cut = cut-settled all-moves ∙ sym (cut-in all-moves) ∙ ap (λ s. s.cut) seen ∙ cut_of (sorted (choices j)) ∙ cut_sorted (choices j)
