-- The choices of a job, sorted, are the leaves of what its program does over open values, from left to right: at each test, first the choices for which it holds.
use Prim.Native.Nat.{ℕ, suc}
use mathlib.Core.Path.{◌≡◌, refl, ap, ap₂, ◌∙◌}
use mathlib.Core.Bool.{Bool, true, false, not, cond, ◌&&◌}
use mathlib.Core.Option
use mathlib.Core.Option.{Option, none, some}
use mathlib.Core.List.{List, [], ◌∷◌, ◌++◌, map}
use lib.ListN.{length, get_or}
use lib.IntN.{ℤ, pos}
use lib.Dec.{T, eqb, ltb, T_not}
use lib.Signed.{lt_z, le_z}
use Rattle.semantics.specs.Int.{Cmp}
use Rattle.semantics.specs.Does.{Does, returned, failed, cut, stuck, step, free, test}
use Rattle.semantics.specs.Program.{Window}
use Rattle.semantics.specs.Run.{Ending, returns, fails, cuts, Ran, noting, starting, pair_of, Choice}
use Rattle.semantics.specs.Plans.{noted, smaller, sooner, before, insert, sorted}
use Rattle.semantics.specs.Search.{Value, unknown, under}
use Rattle.semantics.proofs.Order.{◌≺◌, cond_cases, →ltZ}
use Rattle.semantics.proofs.Keep.{All, anil, acons, all_map, keep, Ordered, onil, ocons, ordered-keep}
use Rattle.semantics.proofs.Sound.{passes}

abbrev pub leaf : (List ℤ → Ending) → List ℤ → Choice
leaf e s = record { ran = record { tests = []; starts = []; ending = e s }; values = s }

-- a choice with one free declaration before the others, whose value it has already
abbrev pub started : Option Window → Choice → Choice
started o c = record { ran = starting o c.ran; values = c.values }

abbrev pub sized : ℕ → List ℤ → Bool
sized n s = eqb (length s) n

abbrev pub longer : ℕ → List ℤ → Bool
longer n s = ltb n (length s)

abbrev pub inside : Window → ℤ → Bool
inside w x = le_z w.low x && le_z x w.high

-- value n is there, and lies in the window
abbrev pub opens : Window → ℕ → List ℤ → Bool
opens w n s = longer n s && inside w (get_or s n (pos 0))

-- those of the lists that have a run, each with its run
abbrev pub adding : Option Ran → List ℤ → List Choice → List Choice
adding none vs cs = cs
adding (some r) vs cs = record { ran = r; values = vs } ∷ cs

unfoldable pub belonging : (List ℤ → Option Ran) → List (List ℤ) → List Choice
belonging f [] = []
belonging f (vs ∷ l) = adding (f vs) vs (belonging f l)

module _ (job : Window) where
  -- the run of a tree over open values under a whole setting, n of whose values were reached; none where one does not lie in the pair of its declaration
  unfoldable pub runs : ℕ → Does Value → List ℤ → Option Ran
  runs n (returned v) s = cond (sized n s) (some (record { tests = []; starts = []; ending = returns (under s v) })) none
  runs n failed s = cond (sized n s) (some (record { tests = []; starts = []; ending = fails })) none
  runs n cut s = cond (sized n s) (some (record { tests = []; starts = []; ending = cuts })) none
  runs n stuck s = none
  runs n (step t) s = runs n t s
  runs n (free o k) s = cond (opens (pair_of job o) n s) (Option.map (starting o) (runs (suc n) (k (unknown n)) s)) none
  runs n (test c a b k) s = Option.map (noting (passes c a b s)) (runs n (k (passes c a b s)) s)

  -- the leaves, for the settings of a list
  unfoldable pub ends : ℕ → Does Value → List (List ℤ) → List Choice
  ends n (returned v) ss = map (leaf (λ s. returns (under s v))) (keep (sized n) ss)
  ends n failed ss = map (leaf (λ s. fails)) (keep (sized n) ss)
  ends n cut ss = map (leaf (λ s. cuts)) (keep (sized n) ss)
  ends n stuck ss = []
  ends n (step t) ss = ends n t ss
  ends n (free o k) ss = map (started o) (ends (suc n) (k (unknown n)) (keep (opens (pair_of job o) n) ss))
  ends n (test c a b k) ss = map (noted true) (ends n (k true) (keep (passes c a b) ss)) ++ map (noted false) (ends n (k false) (keep (λ s. not (passes c a b s)) ss))

-- ---- a list of settings in their order

-- s stands before u: it is a front part of u, or has the smaller value at the first difference
pub data Less : List ℤ → List ℤ → Type 0 where
  shorter : {w : ℤ} {u : List ℤ} → Less [] (w ∷ u)
  lower : {v w : ℤ} {s u : List ℤ} → v ≺ w → Less (v ∷ s) (w ∷ u)
  alike : {v : ℤ} {s u : List ℤ} → Less s u → Less (v ∷ s) (v ∷ u)

abbrev pub Rising : List (List ℤ) → Type 0
Rising = Ordered Less

less-smaller : {s u : List ℤ} → Less s u → T (smaller s u)
unfolding smaller
less-smaller shorter = tt
less-smaller (lower {v} {w} h) = cond_cases (lt_z v w) T (λ t. tt) (λ t. absurd (T_not (lt_z v w) t (→ltZ v w h)))
less-smaller (alike {v} h) = cond_cases (lt_z v v) T (λ t. tt) (λ t. cond_cases (lt_z v v) T (λ u. absurd (T_not (lt_z v v) t u)) (λ u. less-smaller h))

-- ---- sorting

-- settings in their order, all with the same tests, are sorted
insert-first : (e : List ℤ → Ending) (s : List ℤ) {ss : List (List ℤ)} → All (λ u. T (smaller s u)) ss → insert (leaf e s) (map (leaf e) ss) ≡ leaf e s ∷ map (leaf e) ss
unfolding insert before sooner
insert-first e s anil = refl
insert-first e s (acons {x} {xs} h t) = go (smaller s x) h
  where
    go : (b : Bool) → T b → cond b (leaf e s ∷ leaf e x ∷ map (leaf e) xs) (leaf e x ∷ insert (leaf e s) (map (leaf e) xs)) ≡ leaf e s ∷ leaf e x ∷ map (leaf e) xs
    go true h = refl
    go false h = elim h [ ]

sorted-leaves : (e : List ℤ → Ending) {ss : List (List ℤ)} → Rising ss → sorted (map (leaf e) ss) ≡ map (leaf e) ss
unfolding sorted
sorted-leaves e onil = refl
sorted-leaves e (ocons {x = s} h r) = ap (insert (leaf e s)) (sorted-leaves e r) ∙ insert-first e s (all_map (λ u k. less-smaller k) h)

-- a choice for which the test held goes among those for which it held
insert-true : (c : Choice) (l m : List Choice) → insert (noted true c) (map (noted true) l ++ map (noted false) m) ≡ map (noted true) (insert c l) ++ map (noted false) m
unfolding insert before sooner
insert-true c [] [] = refl
insert-true c [] (x ∷ m) = refl
insert-true c (x ∷ l) m = go (before c x) (insert-true c l m)
  where
    go : (b : Bool) → insert (noted true c) (map (noted true) l ++ map (noted false) m) ≡ map (noted true) (insert c l) ++ map (noted false) m
        → cond b (noted true c ∷ noted true x ∷ (map (noted true) l ++ map (noted false) m)) (noted true x ∷ insert (noted true c) (map (noted true) l ++ map (noted false) m)) ≡ map (noted true) (cond b (c ∷ x ∷ l) (x ∷ insert c l)) ++ map (noted false) m
    go true h = refl
    go false h = ap (λ r. noted true x ∷ r) h

insert-false : (c : Choice) (l m : List Choice) → insert (noted false c) (map (noted true) l ++ map (noted false) m) ≡ map (noted true) l ++ map (noted false) (insert c m)
unfolding insert before sooner
insert-false c [] [] = refl
insert-false c [] (x ∷ m) = go (before c x) (insert-false c [] m)
  where
    go : (b : Bool) → insert (noted false c) (map (noted false) m) ≡ map (noted false) (insert c m)
        → cond b (noted false c ∷ noted false x ∷ map (noted false) m) (noted false x ∷ insert (noted false c) (map (noted false) m)) ≡ map (noted false) (cond b (c ∷ x ∷ m) (x ∷ insert c m))
    go true h = refl
    go false h = ap (λ r. noted false x ∷ r) h
insert-false c (x ∷ l) m = ap (λ r. noted true x ∷ r) (insert-false c l m)

-- a choice with one free declaration more goes where it went without
insert-started : (o : Option Window) (c : Choice) (l : List Choice) → insert (started o c) (map (started o) l) ≡ map (started o) (insert c l)
unfolding insert before
insert-started o c [] = refl
insert-started o c (x ∷ l) = go (before c x) (insert-started o c l)
  where
    go : (b : Bool) → insert (started o c) (map (started o) l) ≡ map (started o) (insert c l)
        → cond b (started o c ∷ started o x ∷ map (started o) l) (started o x ∷ insert (started o c) (map (started o) l)) ≡ map (started o) (cond b (c ∷ x ∷ l) (x ∷ insert c l))
    go true h = refl
    go false h = ap (λ r. started o x ∷ r) h

sorted-started : (o : Option Window) (l : List Choice) → sorted (map (started o) l) ≡ map (started o) (sorted l)
unfolding sorted
sorted-started o [] = refl
sorted-started o (c ∷ l) = ap (insert (started o c)) (sorted-started o l) ∙ insert-started o c (sorted l)

-- ---- the choices of a tree, sorted, are its leaves

module _ (job : Window) where
  abbrev among : ℕ → Does Value → List (List ℤ) → List Choice
  among n t ss = belonging (runs job n t) ss

  among-leaf : (n : ℕ) (e : List ℤ → Ending) (ss : List (List ℤ)) → belonging (λ s. cond (sized n s) (some (record { tests = []; starts = []; ending = e s })) none) ss ≡ map (leaf e) (keep (sized n) ss)
  unfolding belonging keep
  among-leaf n e [] = refl
  among-leaf n e (s ∷ ss) = go (sized n s) (keep (sized n) ss) (among-leaf n e ss)
    where
      go : (b : Bool) {l : List Choice} (m : List (List ℤ)) → l ≡ map (leaf e) m → adding (cond b (some (record { tests = []; starts = []; ending = e s })) none) s l ≡ map (leaf e) (cond b (s ∷ m) m)
      go true m h = ap (λ r. leaf e s ∷ r) h
      go false m h = h

  among-stuck : (n : ℕ) (ss : List (List ℤ)) → among n stuck ss ≡ []
  unfolding belonging runs
  among-stuck n [] = refl
  among-stuck n (s ∷ ss) = among-stuck n ss

  among-free : (n : ℕ) (o : Option Window) (k : Value → Does Value) (ss : List (List ℤ)) → among n (free o k) ss ≡ map (started o) (among (suc n) (k (unknown n)) (keep (opens (pair_of job o) n) ss))
  unfolding belonging keep runs
  among-free n o k [] = refl
  among-free n o k (s ∷ ss) = go (opens (pair_of job o) n s) (runs job (suc n) (k (unknown n)) s) refl (keep (opens (pair_of job o) n) ss) (among-free n o k ss)
    where
      go : (b : Bool) (r : Option Ran) → runs job (suc n) (k (unknown n)) s ≡ r → {l : List Choice} (m : List (List ℤ)) → l ≡ map (started o) (among (suc n) (k (unknown n)) m)
          → adding (cond b (Option.map (starting o) r) none) s l ≡ map (started o) (among (suc n) (k (unknown n)) (cond b (s ∷ m) m))
      go true none e m h = rw e h
      go true (some r) e m h = rw e (ap (λ l. started o (record { ran = r; values = s }) ∷ l) h)
      go false r e m h = h

  among-test : (n : ℕ) (c : Cmp) (a b : Value) (k : Bool → Does Value) (ss : List (List ℤ))
      → sorted (among n (test c a b k) ss) ≡ map (noted true) (sorted (among n (k true) (keep (passes c a b) ss))) ++ map (noted false) (sorted (among n (k false) (keep (λ s. not (passes c a b s)) ss)))
  unfolding belonging keep runs sorted
  among-test n c a b k [] = refl
  among-test n c a b k (s ∷ ss) = go (passes c a b s) (among n (test c a b k) ss) (keep (passes c a b) ss) (keep (λ s. not (passes c a b s)) ss) (among-test n c a b k ss)
    where
      held : (o : Option Ran) (l m p : List Choice) → sorted l ≡ map (noted true) (sorted m) ++ map (noted false) (sorted p)
          → sorted (adding (Option.map (noting true) o) s l) ≡ map (noted true) (sorted (adding o s m)) ++ map (noted false) (sorted p)
      held none l m p h = h
      held (some r) l m p h = ap (insert (noted true (record { ran = r; values = s }))) h ∙ insert-true (record { ran = r; values = s }) (sorted m) (sorted p)

      failed' : (o : Option Ran) (l m p : List Choice) → sorted l ≡ map (noted true) (sorted m) ++ map (noted false) (sorted p)
          → sorted (adding (Option.map (noting false) o) s l) ≡ map (noted true) (sorted m) ++ map (noted false) (sorted (adding o s p))
      failed' none l m p h = h
      failed' (some r) l m p h = ap (insert (noted false (record { ran = r; values = s }))) h ∙ insert-false (record { ran = r; values = s }) (sorted m) (sorted p)

      go : (h : Bool) (l : List Choice) (m p : List (List ℤ)) → sorted l ≡ map (noted true) (sorted (among n (k true) m)) ++ map (noted false) (sorted (among n (k false) p))
          → sorted (adding (Option.map (noting h) (runs job n (k h) s)) s l) ≡ map (noted true) (sorted (among n (k true) (cond h (s ∷ m) m))) ++ map (noted false) (sorted (among n (k false) (cond (not h) (s ∷ p) p)))
      go true l m p h = held (runs job n (k true) s) l (among n (k true) m) (among n (k false) p) h
      go false l m p h = failed' (runs job n (k false) s) l (among n (k true) m) (among n (k false) p) h

  pub sorted-ends : (n : ℕ) (t : Does Value) (ss : List (List ℤ)) → Rising ss → sorted (among n t ss) ≡ ends job n t ss
  unfolding ends runs sorted
  sorted-ends n (returned v) ss r = ap sorted (among-leaf n (λ s. returns (under s v)) ss) ∙ sorted-leaves (λ s. returns (under s v)) (ordered-keep (sized n) r)
  sorted-ends n failed ss r = ap sorted (among-leaf n (λ s. fails) ss) ∙ sorted-leaves (λ s. fails) (ordered-keep (sized n) r)
  sorted-ends n cut ss r = ap sorted (among-leaf n (λ s. cuts) ss) ∙ sorted-leaves (λ s. cuts) (ordered-keep (sized n) r)
  sorted-ends n stuck ss r = ap sorted (among-stuck n ss)
  sorted-ends n (step t) ss r = sorted-ends n t ss r
  sorted-ends n (free o k) ss r =
      let p = opens (pair_of job o) n in
      ap sorted (among-free n o k ss)
      ∙ sorted-started o (among (suc n) (k (unknown n)) (keep p ss))
      ∙ ap (map (started o)) (sorted-ends (suc n) (k (unknown n)) (keep p ss) (ordered-keep p r))
  sorted-ends n (test c a b k) ss r =
      among-test n c a b k ss
      ∙ ap₂ (λ l m. map (noted true) l ++ map (noted false) m)
      (sorted-ends n (k true) (keep (passes c a b) ss) (ordered-keep (passes c a b) r))
      (sorted-ends n (k false) (keep (λ s. not (passes c a b s)) ss) (ordered-keep (λ s. not (passes c a b s)) r))
