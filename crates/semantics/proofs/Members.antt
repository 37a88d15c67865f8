-- What is in the lists of a job: the integers of a window, the choices, the rows.
use Prim.Native.Nat.{ℕ, zero, suc, ◌≤◌, ◌<◌, suc-le-suc}
use mathlib.Core.Path.{◌≡◌, refl, sym, ap, ◌∙◌, subst}
use mathlib.Core.Bool.{Bool, true, false, cond, ◌||◌}
use mathlib.Core.Option
use mathlib.Core.Option.{Option, none, some}
use mathlib.Core.Logic.{◌⊎◌, inl, inr}
use mathlib.Core.List.Memᴰ
use mathlib.Core.List.Memᴰ.{cases_cons as cases}
use mathlib.Core.List.Memᴰ.{head as here}
use mathlib.Core.List.Memᴰ.{not-nil as nowhere}
use mathlib.Core.List.Memᴰ.{tail as there}
use mathlib.Core.List.{List, [], ◌∷◌, ◌++◌, map}
use native.Mathlib.Omega.{arith}
use lib.ListN.{length}
use lib.IntN.{ℤ, suc_ℤ, ◌-ℤ◌}
use lib.Dec.{T}
use Rattle.semantics.specs.Int.{holds}
use Rattle.semantics.specs.Does.{Does, returned, failed, cut, stuck, step, free, test, within}
use Rattle.semantics.specs.Program.{Window}
use Rattle.semantics.specs.Run.{counting, clamp, numbers, each, Ending, returns, fails, cuts, Ran, noting, starting, exactly, run, pair_of, Choice, Row}
use Rattle.semantics.specs.Plans.{ended, chosen, noted, choices_of, before, insert, sorted, rows_with, rows_of, is_cut, some_cut}
use Rattle.semantics.specs.Demand.{◌∈◌, InWindow, InPairs, more}
use Rattle.semantics.proofs.Order.{◌≼◌, le_z→, →leZ, cond_cases, antisym, of-suc}
use Rattle.semantics.proofs.Range.{In}
use Rattle.semantics.proofs.Keep.{All, anil, acons}
use Rattle.semantics.proofs.Settings.{gap, clamp-gap, by_order, numbers-in}

-- ---- lists

module _ {A : Type 0} where
  pub all-member : {P : A → Type 0} {xs : List A} → All P xs → (x : A) → x ∈ xs → P x
  all-member anil x m = absurd (nowhere m)
  all-member {P} (acons h t) x (here e) = subst P (sym e) h
  all-member (acons h t) x (there m) = all-member t x m

  pub member-all : {P : A → Type 0} (xs : List A) → ((x : A) → x ∈ xs → P x) → All P xs
  member-all [] f = anil
  member-all (x ∷ xs) f = acons (f x (here refl)) (member-all xs (λ y m. f y (there m)))

  -- where an element stands
  pub record Split (x : A) (xs : List A) : Type 0 where
    pub front : List A
    pub rest : List A
    pub split : xs ≡ front ++ x ∷ rest

  pub member-split : (x : A) (xs : List A) → x ∈ xs → Split x xs
  member-split x [] m = absurd (nowhere m)
  member-split x (y ∷ xs) (here e) = record { front = []; rest = xs; split = ap (λ z. z ∷ xs) (sym e) }
  member-split x (y ∷ xs) (there m) = let p = member-split x xs m in record { front = y ∷ p.front; rest = p.rest; split = ap (λ l. y ∷ l) p.split }

  pub split-member : (x : A) (front rest : List A) → x ∈ front ++ x ∷ rest
  split-member x [] rest = here refl
  split-member x (y ∷ front) rest = there (split-member x front rest)

module _ {A B : Type 0} where
  map-member : (f : A → B) (x : A) (xs : List A) → x ∈ xs → f x ∈ map f xs
  map-member f x [] m = absurd (nowhere m)
  map-member f x (y ∷ xs) (here e) = here (ap f e)
  map-member f x (y ∷ xs) (there m) = there (map-member f x xs m)

  each_member : (f : A → List B) (x : A) (xs : List A) (y : B) → x ∈ xs → y ∈ f x → y ∈ each f xs
  unfolding each
  each_member f x [] y m n = absurd (nowhere m)
  each_member f x (z ∷ xs) y (here e) n = Memᴰ.append_left (each f xs) (subst (λ z. y ∈ f z) e n)
  each_member f x (z ∷ xs) y (there m) n = Memᴰ.append_right (f z) (each_member f x xs y m n)

  map-split : (f : A → B) (xs : List A) (y : B) → y ∈ map f xs → (x : A) × ((x ∈ xs) × (f x ≡ y))
  map-split f [] y m = absurd (nowhere m)
  map-split f (x ∷ xs) y (here e) = (x, (here refl, sym e))
  map-split f (x ∷ xs) y (there m) = let p = map-split f xs y m in (p.0, (there p.1.0, p.1.1))

  each-split : (f : A → List B) (xs : List A) (y : B) → y ∈ each f xs → (x : A) × ((x ∈ xs) × (y ∈ f x))
  unfolding each
  each-split f [] y m = absurd (nowhere m)
  each-split f (x ∷ xs) y m = go (each-split f xs y) (Memᴰ.append_cases (f x) m)
    where
      go : (y ∈ each f xs → (z : A) × ((z ∈ xs) × (y ∈ f z))) → (y ∈ f x) ⊎ (y ∈ each f xs) → (z : A) × ((z ∈ x ∷ xs) × (y ∈ f z))
      go k (inl n) = (x, (here refl, n))
      go k (inr n) = let p = k n in (p.0, (there p.1.0, p.1.1))

-- ---- the integers of a window

counting-has : (x v : ℤ) (n : ℕ) → x ≼ v → gap x v < n → v ∈ counting x n
unfolding counting
counting-has x v zero h k = absurd (omega arith)
counting-has x v (suc n) h k = by_order v x
    (λ l. here (antisym v x l h))
    (λ l. there (counting-has (suc_ℤ x) v n (omega (arith, of-suc x)) (omega (arith, of-suc x))))

numbers-has : (w : Window) (v : ℤ) → In w v → v ∈ numbers w
unfolding numbers
numbers-has w v h = counting-has w.low v (clamp (suc_ℤ w.high -ℤ w.low)) h.least (omega (arith, h.least, h.most, clamp-gap w.low (suc_ℤ w.high), of-suc w.high))

numbers-only : (w : Window) (v : ℤ) → v ∈ numbers w → In w v
numbers-only w v m = all-member (numbers-in w) v m

-- ---- runs that answer

no_run : (r : Ran) → ◌≡◌ {A = Option Ran} none (some r) → ⊥
no_run r e = let z : ◌≡◌ {A = ℕ} 0 1 = cc in omega arith

in_window : (w : Window) (v : ℤ) → In w v → InWindow w v
in_window w v h = (→leZ w.low v h.least, →leZ v w.high h.most)

window-in : (w : Window) (v : ℤ) → InWindow w v → In w v
window-in w v h = record { least = le_z→ w.low v h.0; most = le_z→ v w.high h.1 }

-- what is mapped over a run that answers
record Mapped (f : Ran → Ran) (x : Option Ran) (r : Ran) : Type 0 where
  ran : Ran
  runs : x ≡ some ran
  same : f ran ≡ r

mapped : (f : Ran → Ran) (x : Option Ran) (r : Ran) → Option.map f x ≡ some r → Mapped f x r
mapped f none r e = absurd (no_run r e)
mapped f (some q) r e = record { ran = q; runs = refl; same = cc }

-- ---- a run within m free declarations has no more values

exactly-none : (e : Ending) (vs : List ℤ) (r : Ran) → exactly e vs ≡ some r → length vs ≡ 0
unfolding exactly
exactly-none e [] r h = refl
exactly-none e (v ∷ vs) r h = absurd (no_run r h)

pub run_length : (t : Does ℤ) (n m : ℕ) (vs : List ℤ) (r : Ran) → run (within n m t) vs ≡ some r → length vs ≤ m
unfolding run within
run_length (returned z) n m vs r e = omega (arith, exactly-none (returns z) vs r e)
run_length failed n m vs r e = omega (arith, exactly-none fails vs r e)
run_length cut n m vs r e = omega (arith, exactly-none cuts vs r e)
run_length stuck n m vs r e = absurd (no_run r e)
run_length (step t) zero m vs r e = omega (arith, exactly-none cuts vs r e)
run_length (step t) (suc n) m vs r e = run_length t n m vs r e
run_length (free o k) zero m vs r e = omega (arith, exactly-none cuts vs r e)
run_length (free o k) (suc n) zero vs r e = omega (arith, exactly-none cuts vs r e)
run_length (free o k) (suc n) (suc m) [] r e = omega arith
run_length (free o k) (suc n) (suc m) (v ∷ vs) r e = let p = mapped (starting o) (run (within n m (k v)) vs) r e in suc-le-suc (run_length (k v) n m vs p.ran p.runs)
run_length (test c a b k) n m vs r e = let p = mapped (noting (holds c a b)) (run (within n m (k (holds c a b))) vs) r e in run_length (k (holds c a b)) n m vs p.ran p.runs

-- ---- choices: those that a walk finds are those whose run answers, with each value in its own pair

module _ (job : Window) where
  -- a run that answers, each of whose values lies in its own pair
  pub record Goes (t : Does ℤ) (c : Choice) : Type 0 where
    pub inside : InPairs job c.ran.starts c.values
    pub runs : run t c.values ≡ some c.ran

  ended-has : (e : Ending) (c : Choice) → exactly e c.values ≡ some c.ran → c ∈ ended e
  unfolding exactly
  ended-has e c h = go c.values c.ran h
    where
      go : (vs : List ℤ) (r : Ran) → exactly e vs ≡ some r → record { ran = r; values = vs } ∈ ended e
      go [] r h = let q : r ≡ record { tests = []; starts = []; ending = e } = cc in here (λ i. record { ran = q i; values = [] })
      go (v ∷ vs) r h = absurd (no_run r h)

  pub choices-has : (t : Does ℤ) (c : Choice) → Goes t c → c ∈ choices_of job t
  unfolding choices_of run
  choices-has (returned z) c g = ended-has (returns z) c g.runs
  choices-has failed c g = ended-has fails c g.runs
  choices-has cut c g = ended-has cuts c g.runs
  choices-has stuck c g = absurd (no_run c.ran g.runs)
  choices-has (step t) c g = choices-has t c (record { inside = g.inside; runs = g.runs })
  choices-has (free o k) c g = at-free (λ v d. choices-has (k v) d) c.values c.ran g.runs g.inside
    where
      first : (v : ℤ) (vs : List ℤ) (q : Ran) → ((d : Choice) → Goes (k v) d → d ∈ choices_of job (k v)) → run (k v) vs ≡ some q → InPairs job (o ∷ q.starts) (v ∷ vs)
          → chosen o v (record { ran = q; values = vs }) ∈ each (λ v. map (chosen o v) (choices_of job (k v))) (numbers (pair_of job o))
      first v vs q h e (more w i) =
          each_member (λ v. map (chosen o v) (choices_of job (k v))) v (numbers (pair_of job o)) _ (numbers-has (pair_of job o) v (window-in (pair_of job o) v w))
          (map-member (chosen o v) (record { ran = q; values = vs }) (choices_of job (k v)) (h (record { ran = q; values = vs }) (record { inside = i; runs = e })))

      at-free : ((v : ℤ) (d : Choice) → Goes (k v) d → d ∈ choices_of job (k v)) → (vs : List ℤ) (r : Ran) → run (free o k) vs ≡ some r → InPairs job r.starts vs
          → record { ran = r; values = vs } ∈ each (λ v. map (chosen o v) (choices_of job (k v))) (numbers (pair_of job o))
      at-free h [] r e i = absurd (no_run r e)
      at-free h (v ∷ vs) r e i =
          let m = mapped (starting o) (run (k v) vs) r e in
          subst (λ r. record { ran = r; values = v ∷ vs } ∈ each (λ v. map (chosen o v) (choices_of job (k v))) (numbers (pair_of job o))) m.same
          (first v vs m.ran (h v) m.runs (subst (λ r. InPairs job r.starts (v ∷ vs)) (sym m.same) i))
  choices-has (test q a b k) c g =
      let m = mapped (noting (holds q a b)) (run (k (holds q a b)) c.values) c.ran g.runs in
      subst (λ r. record { ran = r; values = c.values } ∈ map (noted (holds q a b)) (choices_of job (k (holds q a b)))) m.same
      (map-member (noted (holds q a b)) (record { ran = m.ran; values = c.values }) (choices_of job (k (holds q a b)))
      (choices-has (k (holds q a b)) (record { ran = m.ran; values = c.values }) (record { inside = subst (λ r. InPairs job r.starts c.values) (sym m.same) g.inside; runs = m.runs })))

  ended-only : (t : Does ℤ) (e : Ending) (c : Choice) → ((vs : List ℤ) → run t vs ≡ exactly e vs) → c ∈ ended e → Goes t c
  unfolding exactly
  ended-only t e c h (here p) = subst (Goes t) (sym p) (record { inside = InPairs.none; runs = h [] })
  ended-only t e c h (there m) = absurd (nowhere m)

  pub choices-only : (t : Does ℤ) (c : Choice) → c ∈ choices_of job t → Goes t c
  unfolding choices_of run
  choices-only (returned z) c m = ended-only (returned z) (returns z) c (λ vs. refl) m
  choices-only failed c m = ended-only failed fails c (λ vs. refl) m
  choices-only cut c m = ended-only cut cuts c (λ vs. refl) m
  choices-only stuck c m = absurd (nowhere m)
  choices-only (step t) c m = let g = choices-only t c m in record { inside = g.inside; runs = g.runs }
  choices-only (free o k) c m = at-free (λ v d. choices-only (k v) d) (each-split (λ v. map (chosen o v) (choices_of job (k v))) (numbers (pair_of job o)) c m)
    where
      at-free : ((v : ℤ) (d : Choice) → d ∈ choices_of job (k v) → Goes (k v) d) → (v : ℤ) × ((v ∈ numbers (pair_of job o)) × (c ∈ map (chosen o v) (choices_of job (k v)))) → Goes (free o k) c
      at-free h (v, (n, m)) =
          let p = map-split (chosen o v) (choices_of job (k v)) c m in
          let d = p.0 in
          let g = h v d p.1.0 in
          subst (Goes (free o k)) p.1.1 (record { inside = InPairs.more (in_window (pair_of job o) v (numbers-only (pair_of job o) v n)) g.inside; runs = ap (Option.map (starting o)) g.runs })
  choices-only (test q a b k) c m =
      let p = map-split (noted (holds q a b)) (choices_of job (k (holds q a b))) c m in
      let g = choices-only (k (holds q a b)) p.0 p.1.0 in
      subst (Goes (test q a b k)) p.1.1 (record { inside = g.inside; runs = ap (Option.map (noting (holds q a b))) g.runs })

-- ---- sorting

insert-first : (a b : Choice) (bs : List Choice) → a ≡ b → a ∈ insert b bs
unfolding insert
insert-first a b [] e = here e
insert-first a b (c ∷ bs) e = cond_cases (before b c) (λ l. a ∈ l) (λ t. here e) (λ t. there (insert-first a b bs e))

insert-later : (a b : Choice) (bs : List Choice) → a ∈ bs → a ∈ insert b bs
unfolding insert
insert-later a b [] m = absurd (nowhere m)
insert-later a b (c ∷ bs) (here e) = cond_cases (before b c) (λ l. a ∈ l) (λ t. there (here e)) (λ t. here e)
insert-later a b (c ∷ bs) (there m) = cond_cases (before b c) (λ l. a ∈ l) (λ t. there (there m)) (λ t. there (insert-later a b bs m))

insert-only : (a b : Choice) (bs : List Choice) → a ∈ insert b bs → (a ≡ b) ⊎ (a ∈ bs)
unfolding insert
insert-only a b [] m = cases m
insert-only a b (c ∷ bs) m = go (before b c) m (λ n. insert-only a b bs n)
  where
    later : (a ≡ b) ⊎ (a ∈ bs) → (a ≡ b) ⊎ (a ∈ c ∷ bs)
    later (inl e) = inl e
    later (inr n) = inr (there n)

    go : (t : Bool) → a ∈ cond t (b ∷ c ∷ bs) (c ∷ insert b bs) → (a ∈ insert b bs → (a ≡ b) ⊎ (a ∈ bs)) → (a ≡ b) ⊎ (a ∈ c ∷ bs)
    go true m k = cases m
    go false (here e) k = inr (here e)
    go false (there m) k = later (k m)

pub sorted-has : (a : Choice) (l : List Choice) → a ∈ l → a ∈ sorted l
unfolding sorted
sorted-has a [] m = absurd (nowhere m)
sorted-has a (b ∷ l) (here e) = insert-first a b (sorted l) e
sorted-has a (b ∷ l) (there m) = insert-later a b (sorted l) (sorted-has a l m)

pub sorted-only : (a : Choice) (l : List Choice) → a ∈ sorted l → a ∈ l
unfolding sorted
sorted-only a [] m = m
sorted-only a (b ∷ l) m = go (insert-only a b (sorted l) m) (λ n. sorted-only a l n)
  where
    go : (a ≡ b) ⊎ (a ∈ sorted l) → (a ∈ sorted l → a ∈ l) → a ∈ b ∷ l
    go (inl e) k = here e
    go (inr n) k = there (k n)

-- ---- rows

pub rows-has : (cs : List Choice) (c : Choice) (r : Row) → c ∈ cs → c.values ≡ r.values → c.ran.ending ≡ returns r.result → r ∈ rows_of cs
unfolding rows_of
rows-has [] c r m v e = absurd (nowhere m)
rows-has (d ∷ cs) c r (here p) v e = subst (λ x. r ∈ rows_with x d.values (rows_of cs)) (sym e ∙ ap (λ c. c.ran.ending) p) (here (λ i. record { result = r.result; values = (sym v ∙ ap (λ c. c.values) p) i }))
rows-has (d ∷ cs) c r (there m) v e = later d.ran.ending (rows-has cs c r m v e)
  where
    later : (x : Ending) → r ∈ rows_of cs → r ∈ rows_with x d.values (rows_of cs)
    later (returns z) n = there n
    later fails n = n
    later cuts n = n

-- the choice behind a row
pub record Behind (cs : List Choice) (r : Row) : Type 0 where
  pub choice : Choice
  pub member : choice ∈ cs
  pub same : choice.values ≡ r.values
  pub result : choice.ran.ending ≡ returns r.result

pub rows-only : (cs : List Choice) (r : Row) → r ∈ rows_of cs → Behind cs r
unfolding rows_of
rows-only [] r m = absurd (nowhere m)
rows-only (d ∷ cs) r m = go d.ran.ending refl m (λ n. rows-only cs r n)
  where
    later : Behind cs r → Behind (d ∷ cs) r
    later b = record { choice = b.choice; member = there b.member; same = b.same; result = b.result }

    go : (x : Ending) → d.ran.ending ≡ x → r ∈ rows_with x d.values (rows_of cs) → (r ∈ rows_of cs → Behind cs r) → Behind (d ∷ cs) r
    go fails e n k = later (k n)
    go cuts e n k = later (k n)
    go (returns z) e (here p) k = record { choice = d; member = here refl; same = ap (λ r. r.values) (sym p); result = e ∙ ap (λ r. returns r.result) (sym p) }
    go (returns z) e (there n) k = later (k n)

-- ---- whether some choice is cut

pub cut_has : (cs : List Choice) (c : Choice) → c ∈ cs → c.ran.ending ≡ cuts → T (some_cut cs)
unfolding some_cut
cut_has [] c m e = absurd (nowhere m)
cut_has (d ∷ cs) c (here p) e = subst (λ x. T (is_cut x || some_cut cs)) (sym e ∙ ap (λ c. c.ran.ending) p) tt
cut_has (d ∷ cs) c (there m) e = or_right (is_cut d.ran.ending) (some_cut cs) (cut_has cs c m e)
  where
    or_right : (b p : Bool) → T p → T (b || p)
    or_right true p t = tt
    or_right false p t = t

pub cut-only : (cs : List Choice) → T (some_cut cs) → (c : Choice) × ((c ∈ cs) × (c.ran.ending ≡ cuts))
unfolding some_cut
cut-only [] t = absurd t
cut-only (d ∷ cs) t = go d.ran.ending refl t (λ t. cut-only cs t)
  where
    later : (c : Choice) × ((c ∈ cs) × (c.ran.ending ≡ cuts)) → (c : Choice) × ((c ∈ d ∷ cs) × (c.ran.ending ≡ cuts))
    later p = (p.0, (there p.1.0, p.1.1))

    go : (x : Ending) → d.ran.ending ≡ x → T (is_cut x || some_cut cs) → (T (some_cut cs) → (c : Choice) × ((c ∈ cs) × (c.ran.ending ≡ cuts))) → (c : Choice) × ((c ∈ d ∷ cs) × (c.ran.ending ≡ cuts))
    go (returns z) e t k = later (k t)
    go fails e t k = later (k t)
    go cuts e t k = (d, (here refl, e))
