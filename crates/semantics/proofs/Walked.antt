-- The choices of a job, found by walking what its program does, are those of all lists of at most so many numbers of a window that has every pair.
use Prim.Native.Nat.{ℕ, zero, suc}
use mathlib.Core.Path.{◌≡◌, refl, sym, ap, ◌∙◌}
use mathlib.Core.Bool.{Bool, true, false, cond}
use mathlib.Core.Option
use mathlib.Core.Option.{Option, none, some}
use mathlib.Core.List.{List, [], ◌∷◌, ◌++◌, map}
use native.Mathlib.Omega.{arith}
use lib.IntN.{ℤ, suc_ℤ}
use Rattle.semantics.specs.Int.{holds}
use Rattle.semantics.specs.Does.{Does, returned, failed, cut, stuck, step, free, test, within}
use Rattle.semantics.specs.Program.{Window}
use Rattle.semantics.specs.Run.{Ending, returns, fails, cuts, Ran, noting, starting, exactly, pair_of, counting, numbers, each, Choice}
use Rattle.semantics.specs.Plans.{ended, chosen, noted, choices_of}
use Rattle.semantics.proofs.Range.{Sub}
use Rattle.semantics.proofs.Keep.{All, anil, acons, each_same, all_of, all_map, all-mapped, all-each, Ordered, onil, ocons, ordered-append, ordered-map}
use Rattle.semantics.proofs.Order.{of-suc}
use Rattle.semantics.proofs.Ends.{inside, adding, belonging, Less, lower, alike}
use Rattle.semantics.proofs.Settings.{lists, each_keep, numbers-sub, counting-above}
use Rattle.semantics.proofs.Natural.{own_run}
use Rattle.semantics.proofs.Own.{pair-given, Asks}

adding-append : (r : Option Ran) (s : List ℤ) (l m : List Choice) → adding r s (l ++ m) ≡ adding r s l ++ m
adding-append none s l m = refl
adding-append (some r) s l m = refl

belonging-append : (f : List ℤ → Option Ran) (l m : List (List ℤ)) → belonging f (l ++ m) ≡ belonging f l ++ belonging f m
unfolding belonging
belonging-append f [] m = refl
belonging-append f (s ∷ l) m = ap (adding (f s) s) (belonging-append f l m) ∙ adding-append (f s) s (belonging f l) (belonging f m)

belonging-each : {A : Type 0} (f : List ℤ → Option Ran) (g : A → List (List ℤ)) (xs : List A) → belonging f (each g xs) ≡ each (λ x. belonging f (g x)) xs
unfolding belonging each
belonging-each f g [] = refl
belonging-each f g (x ∷ xs) = belonging-append f (g x) (each g xs) ∙ ap (λ l. belonging f (g x) ++ l) (belonging-each f g xs)

belonging-none : (f : List ℤ → Option Ran) {l : List (List ℤ)} → All (λ s. f s ≡ none) l → belonging f l ≡ []
unfolding belonging
belonging-none f anil = refl
belonging-none f (acons h t) = rw h (belonging-none f t)

belonging-noted : (o : Bool) (f : List ℤ → Option Ran) (l : List (List ℤ)) → belonging (λ s. Option.map (noting o) (f s)) l ≡ map (noted o) (belonging f l)
unfolding belonging
belonging-noted o f [] = refl
belonging-noted o f (s ∷ l) = go (f s) (belonging f l) (belonging-noted o f l)
  where
    go : (r : Option Ran) {l : List Choice} (m : List Choice) → l ≡ map (noted o) m → adding (Option.map (noting o) r) s l ≡ map (noted o) (adding r s m)
    go none m h = h
    go (some r) m h = ap (λ l. noted o (record { ran = r; values = s }) ∷ l) h

-- a leaf: only the empty list
leaf_walked : (e : Ending) (n : ℕ) (u : Window) → ended e ≡ belonging (exactly e) (lists n u)
unfolding belonging lists exactly
leaf_walked e zero u = refl
leaf_walked e (suc n) u = ap (λ l. record { ran = record { tests = []; starts = []; ending = e }; values = [] } ∷ l)
    (sym (belonging-none (exactly e) (all-each (λ v. map (λ vs. v ∷ vs) (lists n u)) (all_of (λ v. all-mapped (λ vs. v ∷ vs) (all_of (λ vs. refl) (lists n u))) (numbers u)))))

-- the lists that begin with v
first-walked : (job : Window) (o : Option Window) (k : ℤ → Does ℤ) (v : ℤ) (b : Bool) → inside (pair_of job o) v ≡ b → (l : List (List ℤ))
    → belonging (own_run job (free o k)) (map (λ vs. v ∷ vs) l) ≡ cond b (map (chosen o v) (belonging (own_run job (k v)) l)) []
unfolding belonging own_run
first-walked job o k v true e [] = refl
first-walked job o k v true e (s ∷ l) = rw e (go (own_run job (k v) s) (belonging (own_run job (k v)) l) (first-walked job o k v true e l))
  where
    go : (r : Option Ran) {l : List Choice} (m : List Choice) → l ≡ map (chosen o v) m → adding (Option.map (starting o) r) (v ∷ s) l ≡ map (chosen o v) (adding r s m)
    go none m h = h
    go (some r) m h = ap (λ l. chosen o v (record { ran = r; values = s }) ∷ l) h
first-walked job o k v false e [] = refl
first-walked job o k v false e (s ∷ l) = rw e (first-walked job o k v false e l)

module _ (job u : Window) (wide : Sub job u) where
  pub walked : (t : Does ℤ) → Asks (λ w. Sub w u) t → (l n : ℕ) → choices_of job (within l n t) ≡ belonging (own_run job (within l n t)) (lists n u)
  unfolding choices_of within own_run Asks lists belonging
  walked (returned z) a l n = leaf_walked (returns z) n u
  walked failed a l n = leaf_walked fails n u
  walked cut a l n = leaf_walked cuts n u
  walked stuck a l n = sym (belonging-none (λ s. none) (all_of (λ s. refl) (lists n u)))
  walked (step t) a zero n = leaf_walked cuts n u
  walked (step t) a (suc l) n = walked t a l n
  walked (free o k) a zero n = leaf_walked cuts n u
  walked (free o k) a (suc l) zero = leaf_walked cuts zero u
  walked (free o k) a (suc l) (suc n) = at-free (λ v. walked (k v) (a.1 v) l n)
    where
      w : Window
      w = pair_of job o

      m : ℤ → Does ℤ
      m v = within l n (k v)

      at-free : ((v : ℤ) → choices_of job (m v) ≡ belonging (own_run job (m v)) (lists n u)) → each (λ v. map (chosen o v) (choices_of job (m v))) (numbers w) ≡ belonging (own_run job (free o m)) (lists (suc n) u)
      at-free h =
          each_same _ _ (all_of (λ v. ap (map (chosen o v)) (h v)) (numbers w))
          ∙ ap (each _) (sym (numbers-sub w u (pair-given (λ w. Sub w u) job wide o a.0)))
          ∙ sym (each_keep (inside w) (λ v. map (chosen o v) (belonging (own_run job (m v)) (lists n u))) (numbers u))
          ∙ each_same _ _ (all_of (λ v. sym (first-walked job o m v (inside w v) refl (lists n u))) (numbers u))
          ∙ sym (belonging-each (own_run job (free o m)) (λ v. map (λ vs. v ∷ vs) (lists n u)) (numbers u))
  walked (test c a b k) h l n =
      ap (map (noted (holds c a b))) (walked (k (holds c a b)) (h (holds c a b)) l n)
      ∙ sym (belonging-noted (holds c a b) (own_run job (within l n (k (holds c a b)))) (lists n u))

-- ---- each choice is found once: their values rise

abbrev pub Rises : Choice → Choice → Type 0
Rises a b = Less a.values b.values

rising-free : (o : Option Window) (f : ℤ → List Choice) → ((v : ℤ) → Ordered Rises (f v)) → (x : ℤ) (n : ℕ) → Ordered Rises (each (λ v. map (chosen o v) (f v)) (counting x n))
unfolding each counting
rising-free o f h x zero = onil
rising-free o f h x (suc n) = ordered-append
    (ordered-map {P = λ c. Unit {0}} (chosen o x) (λ a b p q r. alike r) (all_of (λ c. tt) (f x)) (h x))
    (rising-free o f h (suc_ℤ x) n)
    (all-mapped (chosen o x) (all_of (λ c. all-each (λ v. map (chosen o v) (f v)) (all_map (λ v l. all-mapped (chosen o v) (all_of (λ d. lower l) (f v))) (counting-above x (suc_ℤ x) n (omega (arith, of-suc x))))) (f x)))

pub rising-choices : (job : Window) (t : Does ℤ) → Ordered Rises (choices_of job t)
unfolding choices_of numbers
rising-choices job (returned z) = ocons anil onil
rising-choices job failed = ocons anil onil
rising-choices job cut = ocons anil onil
rising-choices job stuck = onil
rising-choices job (step t) = rising-choices job t
rising-choices job (free o k) = rising-free o (λ v. choices_of job (k v)) (λ v. rising-choices job (k v)) (pair_of job o).low _
rising-choices job (test c a b k) = ordered-map {P = λ c. Unit {0}} (noted (holds c a b)) (λ x y p q r. r) (all_of (λ c. tt) _) (rising-choices job (k (holds c a b)))
