-- All lists of at most so many numbers of one window, in their order. The settings in the windows of a path, if each lies in that window, are those of the lists that have as many values and lie in the windows.
use Prim.Native.Nat.{ℕ, zero, suc, ◌+◌, ◌-◌, ◌≤◌, ◌<◌}
use mathlib.Core.Path.{◌≡◌, refl, sym, ap, ap₂, ◌∙◌, subst}
use mathlib.Core.Bool.{Bool, true, false, not, cond, ◌&&◌}
use mathlib.Core.List.{List, [], ◌∷◌, ◌++◌, map}
use native.Mathlib.Omega.{arith}
use native.Mathlib.Nat.{le_of_suc-le-suc}
use Prim.Native.Nat.{suc-le-suc}
use lib.ListN.{length, get_or}
use lib.IntN.{ℤ, pos, negsuc, suc_ℤ, ◌-ℤ◌}
use lib.Dec.{T, eqb-zero-suc, eqb-suc-zero, eqb-suc-suc}
use lib.Signed.{le_z}
use Rattle.semantics.specs.Program.{Window}
use Rattle.semantics.specs.Run.{counting, clamp, numbers, each}
use Rattle.semantics.specs.Search.{settings}
use Rattle.semantics.proofs.Order.{up, down, ◌≼◌, ◌≺◌, le_z→, →leZ, nle_z→, antisym, of-minus, of-suc}
use Rattle.semantics.proofs.Range.{In, Sub, Subs, and_left, and_right, and_both}
use Rattle.semantics.proofs.Keep.{All, anil, acons, onil, ocons, ordered-map, ordered-append, keep, keep-none, keep_same, keep-map, keep-each, each_same, all_of, all_map, all-mapped, all-each}
use Rattle.semantics.proofs.Ends.{sized, inside, Rising, shorter, lower, alike}

-- ---- the numbers of a window

-- how far b is above a
abbrev pub gap : ℤ → ℤ → ℕ
gap a b = (up b + down a) - (up a + down b)

clamp-up : (z : ℤ) → clamp z ≡ up z
unfolding clamp up
clamp-up (pos n) = refl
clamp-up (negsuc n) = refl

-- one of the two parts of an integer is zero
parts : (z : ℤ) → up z ≡ (up z + 0) - down z
unfolding up down
parts (pos n) = omega arith
parts (negsuc n) = omega arith

pub clamp-gap : (a b : ℤ) → clamp (b -ℤ a) ≡ gap a b
clamp-gap a b = omega (arith, clamp-up (b -ℤ a), parts (b -ℤ a), of-minus b a)

true_of : (b : Bool) → T b → b ≡ true
true_of true t = refl
true_of false t = absurd t

pub false_of : (b : Bool) → (T b → ⊥) → b ≡ false
false_of true f = absurd (f tt)
false_of false f = refl

inside-yes : (w : Window) (x : ℤ) → w.low ≼ x → x ≼ w.high → inside w x ≡ true
inside-yes w x h k = true_of (inside w x) (and_both (le_z w.low x) (le_z x w.high) (→leZ w.low x h) (→leZ x w.high k))

inside-no : (w : Window) (x : ℤ) → (w.low ≼ x → x ≼ w.high → ⊥) → inside w x ≡ false
inside-no w x f = false_of (inside w x) λ t. f (le_z→ w.low x (and_left (le_z w.low x) (le_z x w.high) t)) (le_z→ x w.high (and_right (le_z w.low x) (le_z x w.high) t))

pub by_order : {P : Type 0} (a b : ℤ) → (a ≼ b → P) → (b ≺ a → P) → P
by_order {P} a b f g = go (le_z a b) (le_z→ a b) (nle_z→ a b)
  where
    go : (t : Bool) → (T t → a ≼ b) → (T (not t) → b ≺ a) → P
    go true h k = f (h tt)
    go false h k = g (k tt)

-- past the window
past : (w : Window) (x : ℤ) (n : ℕ) → w.high ≺ x → keep (inside w) (counting x n) ≡ []
unfolding keep counting
past w x zero h = refl
past w x (suc n) h = rw (inside-no w x (λ p q. omega arith)) (past w (suc_ℤ x) n (omega (arith, of-suc x)))

-- inside it
among : (w : Window) (x : ℤ) (n : ℕ) → w.low ≼ x → gap x (suc_ℤ w.high) ≤ n → keep (inside w) (counting x n) ≡ counting x (gap x (suc_ℤ w.high))
unfolding keep counting
among w x zero h k = ap (counting x) (zero-gap (gap x (suc_ℤ w.high)) k)
  where
    zero-gap : (g : ℕ) → g ≤ zero → zero ≡ g
    zero-gap g h = omega arith
among w x (suc n) h k = by_order x w.high
    (λ l. let e : gap x (suc_ℤ w.high) ≡ suc (gap (suc_ℤ x) (suc_ℤ w.high)) = omega (arith, of-suc x, of-suc w.high) in
    rw (inside-yes w x h l) (ap (λ r. x ∷ r) (among w (suc_ℤ x) n (omega (arith, of-suc x)) (omega (arith, of-suc x, of-suc w.high))) ∙ ap (counting x) (sym e)))
    (λ l. let e : gap x (suc_ℤ w.high) ≡ zero = omega (arith, of-suc w.high) in
    rw (inside-no w x (λ p q. omega arith)) (past w (suc_ℤ x) n (omega (arith, of-suc x)) ∙ ap (counting x) (sym e)))

-- before it
ahead : (w : Window) (x : ℤ) (n : ℕ) → x ≼ w.low → gap x w.low + gap w.low (suc_ℤ w.high) ≤ n → keep (inside w) (counting x n) ≡ counting w.low (gap w.low (suc_ℤ w.high))
unfolding keep counting
ahead w x zero h k = ap (counting w.low) (zero-gap (gap x w.low) (gap w.low (suc_ℤ w.high)) k)
  where
    zero-gap : (f g : ℕ) → f + g ≤ zero → zero ≡ g
    zero-gap f g h = omega arith
ahead w x (suc n) h k = by_order w.low x
    (λ l. subst (λ z. keep (inside w) (counting z (suc n)) ≡ counting w.low (gap w.low (suc_ℤ w.high))) (sym (antisym x w.low h l)) (among w w.low (suc n) (omega arith) (omega arith)))
    (λ l. rw (inside-no w x (λ p q. omega arith)) (ahead w (suc_ℤ x) n (omega (arith, of-suc x)) (omega (arith, of-suc x))))

-- a window within another keeps its own numbers of the other's
pub numbers-sub : (v w : Window) → Sub v w → keep (inside v) (numbers w) ≡ numbers v
unfolding numbers counting
numbers-sub v w h = by_order v.low v.high
    (λ l. ap (λ n. keep (inside v) (counting w.low n)) (clamp-gap w.low (suc_ℤ w.high))
    ∙ ahead v w.low (gap w.low (suc_ℤ w.high)) h.least (omega (arith, of-suc v.high, of-suc w.high))
    ∙ ap (counting v.low) (sym (clamp-gap v.low (suc_ℤ v.high))))
    (λ l. let e : gap v.low (suc_ℤ v.high) ≡ 0 = omega (arith, of-suc v.high) in
    keep-none (inside v) (all_of (λ x. inside-no v x (λ p q. omega arith)) (counting w.low (clamp (suc_ℤ w.high -ℤ w.low))))
    ∙ ap (counting v.low) (sym (clamp-gap v.low (suc_ℤ v.high) ∙ e)))

-- ---- settings and lists

-- all lists of at most n integers of a window
unfoldable pub lists : ℕ → Window → List (List ℤ)
lists zero w = [] ∷ []
lists (suc n) w = [] ∷ each (λ v. map (λ vs. v ∷ vs) (lists n w)) (numbers w)

unfoldable pub fits : List Window → List ℤ → Bool
fits [] s = true
fits (w ∷ ws) [] = true
fits (w ∷ ws) (v ∷ s) = inside w v && fits ws s

pub each_keep : {A B : Type 0} (p : A → Bool) (f : A → List B) (xs : List A) → each (λ x. cond (p x) (f x) []) xs ≡ each f (keep p xs)
unfolding each keep
each_keep p f [] = refl
each_keep {B = B} p f (x ∷ xs) = go (p x) (each_keep p f xs)
  where
    go : (b : Bool) → each (λ x. cond (p x) (f x) []) xs ≡ each f (keep p xs) → cond b (f x) [] ++ each (λ x. cond (p x) (f x) []) xs ≡ each f (cond b (x ∷ keep p xs) (keep p xs))
    go true h = ap (λ l. f x ++ l) h
    go false h = h

abbrev pub fitted : List Window → List ℤ → Bool
fitted ws s = sized (length ws) s && fits ws s

longer-first : (v : ℤ) (s : List ℤ) (w : Window) (ws : List Window) → fitted (w ∷ ws) (v ∷ s) ≡ inside w v && fitted ws s
unfolding fits
longer-first v s w ws = rw eqb-suc-suc (swap (sized (length ws) s) (inside w v) (fits ws s))
  where
    swap : (a b c : Bool) → a && (b && c) ≡ b && (a && c)
    swap true true c = refl
    swap true false c = refl
    swap false true c = refl
    swap false false c = refl

first-value : (w : Window) (ws : List Window) (v : ℤ) (l : List (List ℤ)) (b : Bool) → inside w v ≡ b → keep (fitted (w ∷ ws)) (map (λ s. v ∷ s) l) ≡ cond b (map (λ s. v ∷ s) (keep (fitted ws) l)) []
first-value w ws v l true e =
    keep-map (fitted (w ∷ ws)) (λ s. v ∷ s) l
    ∙ ap (map (λ s. v ∷ s)) (keep_same (λ s. fitted (w ∷ ws) (v ∷ s)) (fitted ws) (all_of (λ s. longer-first v s w ws ∙ ap (λ b. b && fitted ws s) e) l))
first-value w ws v l false e =
    keep-map (fitted (w ∷ ws)) (λ s. v ∷ s) l
    ∙ ap (map (λ s. v ∷ s)) (keep-none (λ s. fitted (w ∷ ws) (v ∷ s)) (all_of (λ s. longer-first v s w ws ∙ ap (λ b. b && fitted ws s) e) l))

pub settings-lists : (job : Window) (ws : List Window) (n : ℕ) → length ws ≤ n → Subs job ws → keep (fitted ws) (lists n job) ≡ settings ws
unfolding settings lists keep fits
settings-lists job [] zero h k = refl
settings-lists job [] (suc n) h k =
    ap (λ l. [] ∷ l) (keep-none (fitted []) (all-each (λ v. map (λ s. v ∷ s) (lists n job)) (all_of (λ v. all-mapped (λ s. v ∷ s) (all_of (λ s. ap (λ b. b && true) (eqb-suc-zero (length s))) (lists n job))) (numbers job))))
settings-lists job (w ∷ ws) zero h k = absurd (omega arith)
settings-lists job (w ∷ ws) (suc n) h k =
    rw eqb-zero-suc
    (keep-each (fitted (w ∷ ws)) (λ v. map (λ s. v ∷ s) (lists n job)) (numbers job)
    ∙ each_same _ _ (all_of (λ v. first-value w ws v (lists n job) (inside w v) refl) (numbers job))
    ∙ each_keep (inside w) (λ v. map (λ s. v ∷ s) (keep (fitted ws) (lists n job))) (numbers job)
    ∙ ap₂ (λ l m. each (λ v. map (λ s. v ∷ s) l) m) (settings-lists job ws n (le_of_suc-le-suc h) (λ i l. k (suc i) (suc-le-suc l))) (numbers-sub w job (k 0 (omega arith))))

-- ---- the lists of a window's numbers

-- each value of such a list is one of them
abbrev pub Inside : Window → List ℤ → Type 0
Inside job s = (i : ℕ) → i < length s → In job (get_or s i (pos 0))

counting-in : (w : Window) (x : ℤ) (n : ℕ) → w.low ≼ x → n ≤ gap x (suc_ℤ w.high) → All (In w) (counting x n)
unfolding counting
counting-in w x zero h k = anil
counting-in w x (suc n) h k = acons (record { least = h; most = omega (arith, of-suc w.high) }) (counting-in w (suc_ℤ x) n (omega (arith, of-suc x)) (omega (arith, of-suc x)))

pub numbers-in : (w : Window) → All (In w) (numbers w)
unfolding numbers
numbers-in w = counting-in w w.low (clamp (suc_ℤ w.high -ℤ w.low)) (omega arith) (omega (arith, clamp-gap w.low (suc_ℤ w.high)))

inside-cons : (job : Window) (v : ℤ) (s : List ℤ) → In job v → Inside job s → Inside job (v ∷ s)
inside-cons job v s h k zero l = h
inside-cons job v s h k (suc i) l = k i (le_of_suc-le-suc l)

inside-nil : (job : Window) → Inside job []
inside-nil job i l = absurd (omega arith)

pub lists-in : (job : Window) (n : ℕ) → All (Inside job) (lists n job)
unfolding lists
lists-in job zero = acons (inside-nil job) anil
lists-in job (suc n) = acons (inside-nil job) (all-each (λ v. map (λ s. v ∷ s) (lists n job)) (all_map (λ v h. all-mapped (λ s. v ∷ s) (all_map (λ s k. inside-cons job v s h k) (lists-in job n))) (numbers-in job)))

-- and they stand in their order
rising-map : (v : ℤ) {ss : List (List ℤ)} → Rising ss → Rising (map (λ s. v ∷ s) ss)
rising-map v {ss} r = ordered-map {P = λ s. Unit {0}} (λ s. v ∷ s) (λ s u p q h. alike h) (all_of (λ s. tt) ss) r

pub counting-above : (z x : ℤ) (n : ℕ) → z ≺ x → All (λ v. z ≺ v) (counting x n)
unfolding counting
counting-above z x zero h = anil
counting-above z x (suc n) h = acons h (counting-above z (suc_ℤ x) n (omega (arith, of-suc x)))

rising-each : (x : ℤ) (n : ℕ) {ss : List (List ℤ)} → Rising ss → Rising (each (λ v. map (λ s. v ∷ s) ss) (counting x n))
unfolding each counting
rising-each x zero r = onil
rising-each x (suc n) {ss} r = ordered-append (rising-map x r) (rising-each (suc_ℤ x) n r)
    (all-mapped (λ s. x ∷ s) (all_of (λ s. all-each (λ v. map (λ s. v ∷ s) ss) (all_map (λ v h. all-mapped (λ s. v ∷ s) (all_of (λ u. lower h) ss)) (counting-above x (suc_ℤ x) n (omega (arith, of-suc x))))) ss))

pub rising-lists : (job : Window) (n : ℕ) → Rising (lists n job)
unfolding lists numbers
rising-lists job zero = ocons anil onil
rising-lists job (suc n) = ocons (all-each (λ v. map (λ vs. v ∷ vs) (lists n job)) (all_of (λ v. all-mapped (λ vs. v ∷ vs) (all_of (λ u. shorter) (lists n job))) _)) (rising-each job.low (clamp (suc_ℤ job.high -ℤ job.low)) (rising-lists job n))
