-- What list answers, from the moves of the whole search: rows, moves made and ending under every skip, room and budget.
use Prim.Native.Nat.{ℕ, zero, suc, ◌+◌, ◌≤◌, ◌<◌, suc-le-suc}
use mathlib.Core.Path.{◌≡◌, refl, sym, ap, ◌∙◌, subst}
use mathlib.Core.Bool.{Bool, true, false, cond}
use mathlib.Core.List.{List, [], ◌∷◌, ◌++◌}
use native.Mathlib.Omega.{arith}
use lib.ListN.{length, take, drop, length-append, take-append-drop}
use lib.Dec.{T}
use lib.Seq.{drop-nil}
use Rattle.semantics.specs.Run.{Row, Job}
use Rattle.semantics.specs.Plans.{choices, plans, some_cut}
use Rattle.semantics.specs.Search.{Move, plain, found, probe, rows_within, cut_in, Solver, search, Close, whole, cuts, full, spent, Answer, answer, listed}
use Rattle.semantics.specs.Promise.{Ended, Full, Spent, Promised, at_whole, at_cut, at_full, at_spent}
use Rattle.semantics.proofs.Sound.{Sound}
use Rattle.semantics.proofs.Complete.{Small, search-rows, search-cut}
use Rattle.semantics.proofs.Plans.{some-cut}
use Rattle.semantics.proofs.Trace.{by_less}

-- ---- the answer over any list of moves

-- `c` is how an end without a cut run closes
data Outcome (c : Close) (ms : List Move) (skip room budget : ℕ) (a : Answer) : Type 0 where
  ended : a.close ≡ cond (cut_in ms) cuts c → a.moves ≡ length ms → a.rows ≡ drop skip (rows_within ms) → length ms ≤ budget → length (rows_within ms) ≤ skip + room → Outcome c ms skip room budget a
  filled : (last : ℕ) → a.close ≡ full → a.moves ≡ suc last → a.rows ≡ take room (drop skip (rows_within ms)) → suc last ≤ budget → length (rows_within (take last ms)) ≡ skip + room
      → length (rows_within (take (suc last) ms)) ≡ suc (skip + room) → Outcome c ms skip room budget a
  stopped : a.close ≡ spent → a.moves ≡ budget → a.rows ≡ drop skip (rows_within (take budget ms)) → budget < length ms → length (rows_within (take budget ms)) ≤ skip + room → Outcome c ms skip room budget a

abbrev after : Answer → List Row → Answer
after a rs = record { rows = rs; moves = suc a.moves; close = a.close }

-- a move that finds no row
module _ (c c' : Close) (m : Move) (ms : List Move) (quiet : (l : List Move) → rows_within (m ∷ l) ≡ rows_within l) (close : cond (cut_in ms) cuts c' ≡ cond (cut_in (m ∷ ms)) cuts c) where
  moved_ok : (skip room n : ℕ) (a : Answer) → Outcome c' ms skip room n a → Outcome c (m ∷ ms) skip room (suc n) (after a a.rows)
  moved_ok skip room n a (ended p q r s t) = ended (p ∙ close) (ap suc q) (r ∙ ap (drop skip) (sym (quiet ms))) (suc-le-suc s) (rw (quiet ms) t)
  moved_ok skip room n a (filled l p q r s t u) =
      filled (suc l) p (ap suc q) (r ∙ ap (λ l. take room (drop skip l)) (sym (quiet ms))) (suc-le-suc s) (ap length (quiet (take l ms)) ∙ t) (ap length (quiet (take (suc l) ms)) ∙ u)
  moved_ok skip room n a (stopped p q r s t) = stopped p (ap suc q) (r ∙ ap (drop skip) (sym (quiet (take n ms)))) (suc-le-suc s) (rw (quiet (take n ms)) t)

-- a row that is skipped, and one that is written
module _ (c : Close) (r : Row) (ms : List Move) where
  skipped-ok : (skip room n : ℕ) (a : Answer) → Outcome c ms skip room n a → Outcome c (found r ∷ ms) (suc skip) room (suc n) (after a a.rows)
  unfolding rows_within cut_in
  skipped-ok skip room n a (ended p q w s t) = ended p (ap suc q) w (suc-le-suc s) (omega arith)
  skipped-ok skip room n a (filled l p q w s t u) = filled (suc l) p (ap suc q) w (suc-le-suc s) (omega (arith, t)) (omega (arith, u))
  skipped-ok skip room n a (stopped p q w s t) = stopped p (ap suc q) w (suc-le-suc s) (omega arith)

  wrote-ok : (room n : ℕ) (a : Answer) → Outcome c ms zero room n a → Outcome c (found r ∷ ms) zero (suc room) (suc n) (after a (r ∷ a.rows))
  unfolding rows_within cut_in
  wrote-ok room n a (ended p q w s t) = ended p (ap suc q) (ap (λ l. r ∷ l) w) (suc-le-suc s) (omega arith)
  wrote-ok room n a (filled l p q w s t u) = filled (suc l) p (ap suc q) (ap (λ l. r ∷ l) w) (suc-le-suc s) (omega (arith, t)) (omega (arith, u))
  wrote-ok room n a (stopped p q w s t) = stopped p (ap suc q) (ap (λ l. r ∷ l) w) (suc-le-suc s) (omega arith)

same-cuts : (b : Bool) → cond b cuts cuts ≡ cuts
same-cuts true = refl
same-cuts false = refl

outcome : (c : Close) (ms : List Move) (skip room budget : ℕ) → Outcome c ms skip room budget (answer c ms skip room budget)
unfolding answer rows_within cut_in
outcome c [] skip room budget = ended refl refl (sym (drop-nil skip)) (omega arith) (omega arith)
outcome c (m ∷ ms) skip room zero = stopped refl refl (sym (drop-nil skip)) (omega arith) (omega arith)
outcome c (plain k ∷ ms) skip room (suc n) = moved_ok c c (plain k) ms (λ l. refl) refl skip room n _ (outcome c ms skip room n)
outcome c (probe false ∷ ms) skip room (suc n) = moved_ok c c (probe false) ms (λ l. refl) refl skip room n _ (outcome c ms skip room n)
outcome c (probe true ∷ ms) skip room (suc n) = moved_ok c cuts (probe true) ms (λ l. refl) (same-cuts (cut_in ms)) skip room n _ (outcome cuts ms skip room n)
outcome c (found r ∷ ms) (suc k) room (suc n) = skipped-ok c r ms k room n _ (outcome c ms k room n)
outcome c (found r ∷ ms) zero zero (suc n) = filled zero refl refl refl (omega arith) refl refl
outcome c (found r ∷ ms) zero (suc k) (suc n) = wrote-ok c r ms k n _ (outcome c ms zero k n)

-- ---- front parts

rows_append : (l m : List Move) → rows_within (l ++ m) ≡ rows_within l ++ rows_within m
unfolding rows_within
rows_append [] m = refl
rows_append (plain k ∷ l) m = rows_append l m
rows_append (found r ∷ l) m = ap (λ l. r ∷ l) (rows_append l m)
rows_append (probe o ∷ l) m = rows_append l m

-- the rows that the first moves find are a front part of all rows
front : (ms : List Move) (n : ℕ) → rows_within ms ≡ rows_within (take n ms) ++ rows_within (drop n ms)
front ms n = ap rows_within (sym (take-append-drop n ms)) ∙ rows_append (take n ms) (drop n ms)

drop-front : (n : ℕ) (x y : List Row) → (rest : List Row) × (drop n (x ++ y) ≡ drop n x ++ rest)
drop-front zero x y = (y, refl)
drop-front (suc n) [] y = (drop (suc n) y, refl)
drop-front (suc n) (r ∷ x) y = drop-front n x y

-- ---- the promise

module _ (v : Solver) (sound : Sound v) (j : Job) (small : Small j) (skip room budget : ℕ) where
  promised : (a : Answer) → Outcome whole (search v j) skip room budget a → Promised v j (plans j) skip room budget a
  promised a (filled l p q w s t u) = at_full p (record {
    last = l;
    time = s;
    place = t;
    over = u;
    made = q;
    written = w ∙ ap (λ l. take room (drop skip l)) (search-rows v sound j small);
    more = omega (arith, u, ap length (sym (search-rows v sound j small) ∙ front (search v j) (suc l)), length-append (rows_within (take (suc l) (search v j))) (rows_within (drop (suc l) (search v j))));
  })
  promised a (stopped p q w s t) =
      let e = drop-front skip (rows_within (take budget (search v j))) (rows_within (drop budget (search v j))) in
      at_spent p (record { time = s; place = t; made = q; written = w; rest = e.0; front = ap (drop skip) (sym (search-rows v sound j small) ∙ front (search v j) budget) ∙ e.1 ∙ ap (λ l. l ++ e.0) (sym w) })
  promised a (ended p q w s t) = go (some_cut (choices j)) refl
    where
      all : Ended v j (plans j) skip room budget a
      all = record { time = s; place = omega (arith, t, ap length (search-rows v sound j small)); made = q; written = w ∙ ap (drop skip) (search-rows v sound j small) }

      closes : (b : Bool) → some_cut (choices j) ≡ b → a.close ≡ cond b cuts whole
      closes b e = p ∙ ap (λ b. cond b cuts whole) (search-cut v sound j small ∙ e)

      go : (b : Bool) → some_cut (choices j) ≡ b → Promised v j (plans j) skip room budget a
      go true e = at_cut (closes true e) all ((some-cut j).0 (subst T (sym e) tt))
      go false e = at_whole (closes false e) all (λ c. subst T e ((some-cut j).1 c))

  pub promise : Promised v j (plans j) skip room budget (listed v j skip room budget)
  unfolding listed
  promise = promised (answer whole (search v j) skip room budget) (outcome whole (search v j) skip room budget)

-- ---- each row written has a place, and was a move

pub few-rows : (c : Close) (ms : List Move) (skip room budget : ℕ) → (length (answer c ms skip room budget).rows ≤ room) × (length (answer c ms skip room budget).rows ≤ budget)
unfolding answer
few-rows c [] skip room budget = (omega arith, omega arith)
few-rows c (m ∷ ms) skip room zero = (omega arith, omega arith)
few-rows c (plain k ∷ ms) skip room (suc n) = let h = few-rows c ms skip room n in (h.0, omega (arith, h.1))
few-rows c (probe false ∷ ms) skip room (suc n) = let h = few-rows c ms skip room n in (h.0, omega (arith, h.1))
few-rows c (probe true ∷ ms) skip room (suc n) = let h = few-rows cuts ms skip room n in (h.0, omega (arith, h.1))
few-rows c (found r ∷ ms) (suc k) room (suc n) = let h = few-rows c ms k room n in (h.0, omega (arith, h.1))
few-rows c (found r ∷ ms) zero zero (suc n) = (omega arith, omega arith)
few-rows c (found r ∷ ms) zero (suc k) (suc n) = let h = few-rows c ms zero k n in (omega (arith, h.0), omega (arith, h.1))

-- ---- the promise leaves nothing open: an answer that keeps it is list's

rows-mono : (ms : List Move) (m n : ℕ) → m ≤ n → length (rows_within (take m ms)) ≤ length (rows_within (take n ms))
unfolding rows_within
rows-mono ms zero n h = omega arith
rows-mono ms (suc m) zero h = absurd (omega arith)
rows-mono [] (suc m) (suc n) h = omega arith
rows-mono (plain k ∷ ms) (suc m) (suc n) h = rows-mono ms m n (omega arith)
rows-mono (found r ∷ ms) (suc m) (suc n) h = suc-le-suc (rows-mono ms m n (omega arith))
rows-mono (probe o ∷ ms) (suc m) (suc n) h = rows-mono ms m n (omega arith)

-- two counts of moves, each the last before the same row
same-last : (ms : List Move) (m n k : ℕ) → length (rows_within (take m ms)) ≡ k → length (rows_within (take (suc m) ms)) ≡ suc k → length (rows_within (take n ms)) ≡ k → length (rows_within (take (suc n) ms)) ≡ suc k → m ≡ n
same-last ms m n k a b c d = let x = at_most m n a d in let y = at_most n m c b in omega arith
  where
    at_most : (m n : ℕ) → length (rows_within (take m ms)) ≡ k → length (rows_within (take (suc n) ms)) ≡ suc k → m ≤ n
    at_most m n a d = by_less n m (λ l. absurd (omega (arith, a, d, rows-mono ms (suc n) m l))) (λ l. l)

answer-path : {a b : Answer} → a.rows ≡ b.rows → a.moves ≡ b.moves → a.close ≡ b.close → a ≡ b
answer-path p q r = λ i. record { rows = p i; moves = q i; close = r i }

module _ (v : Solver) (j : Job) (skip room budget : ℕ) (a b : Answer) where
  one_ended : (c : Close) → a.close ≡ c → b.close ≡ c → Ended v j (plans j) skip room budget a → Ended v j (plans j) skip room budget b → a ≡ b
  one_ended c e f p q = answer-path (p.written ∙ sym q.written) (p.made ∙ sym q.made) (e ∙ sym f)

  one-full : a.close ≡ full → b.close ≡ full → Full v j (plans j) skip room budget a → Full v j (plans j) skip room budget b → a ≡ b
  one-full e f p q = answer-path (p.written ∙ sym q.written) (p.made ∙ ap suc (same-last (search v j) p.last q.last (skip + room) p.place p.over q.place q.over) ∙ sym q.made) (e ∙ sym f)

  one-spent : a.close ≡ spent → b.close ≡ spent → Spent v j (plans j) skip room budget a → Spent v j (plans j) skip room budget b → a ≡ b
  one-spent e f p q = answer-path (p.written ∙ sym q.written) (p.made ∙ sym q.made) (e ∙ sym f)

module _ (v : Solver) (j : Job) (skip room budget : ℕ) where
  ended-full : (a b : Answer) → Ended v j (plans j) skip room budget a → Full v j (plans j) skip room budget b → ⊥
  ended-full a b p q = omega (arith, p.place, q.more)

  ended-spent : (a b : Answer) → Ended v j (plans j) skip room budget a → Spent v j (plans j) skip room budget b → ⊥
  ended-spent a b p q = omega (arith, p.time, q.time)

  full-spent : (a b : Answer) → Full v j (plans j) skip room budget a → Spent v j (plans j) skip room budget b → ⊥
  full-spent a b p q = omega (arith, p.over, q.place, rows-mono (search v j) (suc p.last) budget p.time)

  pub promise-settles : (a b : Answer) → Promised v j (plans j) skip room budget a → Promised v j (plans j) skip room budget b → a ≡ b
  promise-settles a b (at_whole e p c) (at_whole f q d) = one_ended v j skip room budget a b whole e f p q
  promise-settles a b (at_whole e p c) (at_cut f q d) = absurd (c d)
  promise-settles a b (at_whole e p c) (at_full f q) = absurd (ended-full a b p q)
  promise-settles a b (at_whole e p c) (at_spent f q) = absurd (ended-spent a b p q)
  promise-settles a b (at_cut e p c) (at_whole f q d) = absurd (d c)
  promise-settles a b (at_cut e p c) (at_cut f q d) = one_ended v j skip room budget a b cuts e f p q
  promise-settles a b (at_cut e p c) (at_full f q) = absurd (ended-full a b p q)
  promise-settles a b (at_cut e p c) (at_spent f q) = absurd (ended-spent a b p q)
  promise-settles a b (at_full e p) (at_whole f q d) = absurd (ended-full b a q p)
  promise-settles a b (at_full e p) (at_cut f q d) = absurd (ended-full b a q p)
  promise-settles a b (at_full e p) (at_full f q) = one-full v j skip room budget a b e f p q
  promise-settles a b (at_full e p) (at_spent f q) = absurd (full-spent a b p q)
  promise-settles a b (at_spent e p) (at_whole f q d) = absurd (ended-spent b a q p)
  promise-settles a b (at_spent e p) (at_cut f q d) = absurd (ended-spent b a q p)
  promise-settles a b (at_spent e p) (at_full f q) = absurd (full-spent b a q p)
  promise-settles a b (at_spent e p) (at_spent f q) = one-spent v j skip room budget a b e f p q
