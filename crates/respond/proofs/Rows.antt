-- The rows that stand in the slice are the rows found: each with at most eight values, and read back as they were written.
use Prim.Native.Nat.{ℕ, zero, suc, ◌-◌, ◌≤◌}
use native.Mathlib.Omega.{arith}
use mathlib.Core.Path.{◌≡◌, refl, sym, ap, ap₂, ◌∙◌, subst}
use mathlib.Core.List.{List, [], ◌∷◌, ◌++◌, append_assoc}
use lib.ListN.{length, take, drop, replicate}
use lib.Seq.{drop-append_seam}
use lib.IntN.{ℤ, pos}
use Rattle.semantics.specs.Does.{frame}
use Rattle.semantics.specs.Run.{Row, Job, Choice, meaning, each}
use Rattle.semantics.specs.Search.{Solver, Answer}
use Rattle.semantics.specs.Demand.{RowOf, PlanList}
use Rattle.semantics.specs.Promise.{Promised, at_whole, at_cut, at_full, at_spent}
use Rattle.semantics.proofs.Frames.{length-frame}
use Rattle.semantics.proofs.Keep.{All, anil, acons}
use Rattle.semantics.proofs.Members.{member-all, run_length}
use Rattle.settings.specs.Rows.{words_of}
use Rattle.lines.specs.Written.{row_from, rows_from}
use Rattle.lines.proofs.Kept as K
use Rattle.lines.proofs.Kept.{read_back}

-- ---- at most eight values

abbrev pub Few : Row → Type 0
Few r = length r.values ≤ 8

few-values : (j : Job) (c : Choice) (r : Row) → RowOf j c r → Few r
unfolding meaning
few-values j c r p = omega (arith, run_length _ j.steps 8 c.values c.ran p.belongs.runs, ap length p.values)

few-plans : (j : Job) (plans : List Row) → PlanList j plans → All Few plans
few-plans j plans p = member-all plans (λ r m. let q = p.only r m in few-values j q.0 r q.1)

module _ {A : Type 0} {P : A → Type 0} where
  all_drop : (n : ℕ) {l : List A} → All P l → All P (drop n l)
  all_drop zero h = h
  all_drop (suc n) anil = anil
  all_drop (suc n) (acons p h) = all_drop n h

  all_take : (n : ℕ) {l : List A} → All P l → All P (take n l)
  all_take zero h = anil
  all_take (suc n) anil = anil
  all_take (suc n) (acons p h) = acons p (all_take n h)

  all-front : (k l : List A) → All P (k ++ l) → All P k
  all-front [] l h = anil
  all-front (x ∷ k) l (acons p h) = acons p (all-front k l h)

few-rest : (j : Job) (skip : ℕ) (plans : List Row) → PlanList j plans → All Few (drop skip plans)
few-rest j skip plans p = all_drop skip (few-plans j plans p)

-- what is written of a plan list
pub few-written : {v : Solver} {j : Job} {skip room budget : ℕ} {plans : List Row} {a : Answer} → PlanList j plans → Promised v j plans skip room budget a → All Few a.rows
few-written {j = j} {skip} {plans = plans} p (at_whole e h n) = subst (All Few) (sym h.written) (few-rest j skip plans p)
few-written {j = j} {skip} {plans = plans} p (at_cut e h s) = subst (All Few) (sym h.written) (few-rest j skip plans p)
few-written {j = j} {skip} {room} {plans = plans} p (at_full e h) = subst (All Few) (sym h.written) (all_take room (few-rest j skip plans p))
few-written {j = j} {skip} {plans = plans} {a} p (at_spent e h) = all-front a.rows h.rest (subst (All Few) h.front (few-rest j skip plans p))

-- ---- read back

frame-zeros : (n : ℕ) (vs : List ℤ) → length vs ≤ n → frame (pos 0) n vs ≡ vs ++ replicate (n - length vs) (pos 0)
unfolding frame
frame-zeros zero [] h = refl
frame-zeros zero (v ∷ vs) h = absurd (omega arith)
frame-zeros (suc n) [] h = ap (λ (l : List ℤ). pos 0 ∷ l) (frame-zeros n [] (omega arith) ∙ ap (λ (k : ℕ). replicate k (pos 0)) {x = n - 0} {y = n} (omega arith)) ∙ ap (λ (k : ℕ). replicate k (pos 0)) {x = suc n} {y = suc n - 0} (omega arith)
frame-zeros (suc n) (v ∷ vs) h = ap (λ (l : List ℤ). v ∷ l) (frame-zeros n vs (omega arith) ∙ ap (λ (k : ℕ). vs ++ replicate k (pos 0)) {x = n - length vs} {y = suc n - suc (length vs)} (omega arith))

words_same : (r : Row) → Few r → words_of r ≡ K.words_of r
words_same r h = ap (λ (l : List ℤ). r.result ∷ pos (length r.values) ∷ l) (frame-zeros 8 r.values h)

ten-words : (r : Row) (rest : List ℤ) → drop 10 (words_of r ++ rest) ≡ rest
ten-words r rest = ap (λ (n : ℕ). drop n (words_of r ++ rest)) (sym (ap (λ (n : ℕ). suc (suc n)) (length-frame (pos 0) 8 r.values))) ∙ drop-append_seam (words_of r) rest

pub rows_back : {rs : List Row} → All Few rs → (rest : List ℤ) → rows_from (length rs) (each words_of rs ++ rest) ≡ rs
unfolding rows_from each
rows_back anil rest = refl
rows_back (acons {x = r} {xs = rs} h hs) rest =
    let e : (words_of r ++ each words_of rs) ++ rest ≡ words_of r ++ (each words_of rs ++ rest) = append_assoc (words_of r) (each words_of rs) rest in
    ap₂ (λ (x : Row) (l : List Row). x ∷ l)
    (ap row_from (e ∙ ap (λ (w : List ℤ). w ++ (each words_of rs ++ rest)) (words_same r h)) ∙ read_back r (each words_of rs ++ rest) h)
    (ap (λ (w : List ℤ). rows_from (length rs) (drop 10 w)) e ∙ ap (rows_from (length rs)) (ten-words r (each words_of rs ++ rest)) ∙ rows_back hs rest)
