-- The elements of a list that pass a test, lists in an order, and `each`, with their laws.
use mathlib.Core.Path.{◌≡◌, refl, ap, ◌∙◌, ap₂}
use mathlib.Core.Bool.{Bool, true, false, cond, ◌&&◌}
use mathlib.Core.List.{List, [], ◌∷◌, ◌++◌, map}
use lib.Dec.{T}
use Rattle.semantics.specs.Run.{each}

-- what holds of every element
pub data All {A : Type 0} (P : A → Type 0) : List A → Type 0 where
  anil : All P []
  acons : {x : A} {xs : List A} → P x → All P xs → All P (x ∷ xs)

module _ {A : Type 0} where
  unfoldable pub keep : (A → Bool) → List A → List A
  keep p [] = []
  keep p (x ∷ xs) = cond (p x) (x ∷ keep p xs) (keep p xs)

  pub all_map : {P Q : A → Type 0} → ((x : A) → P x → Q x) → {xs : List A} → All P xs → All Q xs
  all_map f anil = anil
  all_map f (acons {x} h k) = acons (f x h) (all_map f k)

  pub all_of : {P : A → Type 0} → ((x : A) → P x) → (xs : List A) → All P xs
  all_of f [] = anil
  all_of f (x ∷ xs) = acons (f x) (all_of f xs)

  all_append : {P : A → Type 0} {xs : List A} → All P xs → {ys : List A} → All P ys → All P (xs ++ ys)
  all_append anil k = k
  all_append (acons h t) k = acons h (all_append t k)

  -- two tests that agree on every element
  pub keep_same : (p q : A → Bool) {xs : List A} → All (λ x. p x ≡ q x) xs → keep p xs ≡ keep q xs
  unfolding keep
  keep_same p q anil = refl
  keep_same p q (acons {x} {xs} h t) = rw (h, keep_same p q t)

  pub keep-none : (p : A → Bool) {xs : List A} → All (λ x. p x ≡ false) xs → keep p xs ≡ []
  unfolding keep
  keep-none p anil = refl
  keep-none p (acons h t) = rw h (keep-none p t)

  pub keep_all : (p : A → Bool) {xs : List A} → All (λ x. p x ≡ true) xs → keep p xs ≡ xs
  unfolding keep
  keep_all p anil = refl
  keep_all p (acons {x} h t) = rw h (ap (λ l. x ∷ l) (keep_all p t))

  keep-keep-step : (p q : A → Bool) (x : A) (xs : List A) (a : Bool) → p x ≡ a → (b : Bool) → keep p (keep q xs) ≡ keep (λ x. p x && q x) xs
      → keep p (cond b (x ∷ keep q xs) (keep q xs)) ≡ cond (a && b) (x ∷ keep (λ x. p x && q x) xs) (keep (λ x. p x && q x) xs)
  unfolding keep
  keep-keep-step p q x xs true e true h = rw e (ap (λ l. x ∷ l) h)
  keep-keep-step p q x xs true e false h = h
  keep-keep-step p q x xs false e true h = rw e h
  keep-keep-step p q x xs false e false h = h

  pub keep-keep : (p q : A → Bool) (xs : List A) → keep p (keep q xs) ≡ keep (λ x. p x && q x) xs
  unfolding keep
  keep-keep p q [] = refl
  keep-keep p q (x ∷ xs) = keep-keep-step p q x xs (p x) refl (q x) (keep-keep p q xs)

  keep_append : (p : A → Bool) (xs ys : List A) → keep p (xs ++ ys) ≡ keep p xs ++ keep p ys
  unfolding keep
  keep_append p [] ys = refl
  keep_append p (x ∷ xs) ys = go (p x) (keep_append p xs ys)
    where
      go : (b : Bool) → keep p (xs ++ ys) ≡ keep p xs ++ keep p ys → cond b (x ∷ keep p (xs ++ ys)) (keep p (xs ++ ys)) ≡ cond b (x ∷ keep p xs) (keep p xs) ++ keep p ys
      go true h = ap (λ l. x ∷ l) h
      go false h = h

  all_keep : {P : A → Type 0} (p : A → Bool) {xs : List A} → All P xs → All P (keep p xs)
  unfolding keep
  all_keep p anil = anil
  all_keep {P} p (acons {x} {xs} h t) = go (p x) (all_keep p t)
    where
      go : (b : Bool) → All P (keep p xs) → All P (cond b (x ∷ keep p xs) (keep p xs))
      go true k = acons h k
      go false k = k

  pub keep-if : {P : A → Type 0} (p : A → Bool) {xs : List A} → All (λ x. T (p x) → P x) xs → All P (keep p xs)
  unfolding keep
  keep-if p anil = anil
  keep-if {P} p (acons {x} {xs} h t) = go (p x) h (keep-if p t)
    where
      go : (b : Bool) → (T b → P x) → All P (keep p xs) → All P (cond b (x ∷ keep p xs) (keep p xs))
      go true f k = acons (f tt) k
      go false f k = k

-- ---- each element stands in R to all later ones

pub data Ordered {A : Type 0} (R : A → A → Type 0) : List A → Type 0 where
  onil : Ordered R []
  ocons : {x : A} {xs : List A} → All (R x) xs → Ordered R xs → Ordered R (x ∷ xs)

module _ {A : Type 0} {R : A → A → Type 0} where
  pub ordered-keep : (p : A → Bool) {xs : List A} → Ordered R xs → Ordered R (keep p xs)
  unfolding keep
  ordered-keep p onil = onil
  ordered-keep p (ocons {x} {xs} h r) = go (p x) (ordered-keep p r)
    where
      go : (b : Bool) → Ordered R (keep p xs) → Ordered R (cond b (x ∷ keep p xs) (keep p xs))
      go true k = ocons (all_keep p h) k
      go false k = k

  pub ordered-append : {xs : List A} → Ordered R xs → {ys : List A} → Ordered R ys → All (λ x. All (R x) ys) xs → Ordered R (xs ++ ys)
  ordered-append onil r h = r
  ordered-append (ocons k q) r (acons h t) = ocons (all_append k h) (ordered-append q r t)

module _ {A B : Type 0} where
  pub keep-map : (p : B → Bool) (f : A → B) (xs : List A) → keep p (map f xs) ≡ map f (keep (λ x. p (f x)) xs)
  unfolding keep
  keep-map p f [] = refl
  keep-map p f (x ∷ xs) = go (p (f x)) (keep-map p f xs)
    where
      go : (b : Bool) → keep p (map f xs) ≡ map f (keep (λ x. p (f x)) xs) → cond b (f x ∷ keep p (map f xs)) (keep p (map f xs)) ≡ map f (cond b (x ∷ keep (λ x. p (f x)) xs) (keep (λ x. p (f x)) xs))
      go true h = ap (λ l. f x ∷ l) h
      go false h = h

  pub keep-each : (p : B → Bool) (f : A → List B) (xs : List A) → keep p (each f xs) ≡ each (λ x. keep p (f x)) xs
  unfolding keep each
  keep-each p f [] = refl
  keep-each p f (x ∷ xs) = keep_append p (f x) (each f xs) ∙ ap (λ l. keep p (f x) ++ l) (keep-each p f xs)

  pub each_same : (f g : A → List B) {xs : List A} → All (λ x. f x ≡ g x) xs → each f xs ≡ each g xs
  unfolding each
  each_same f g anil = refl
  each_same f g (acons h t) = ap₂ (λ a b. a ++ b) h (each_same f g t)

  pub all-mapped : {P : B → Type 0} (f : A → B) {xs : List A} → All (λ x. P (f x)) xs → All P (map f xs)
  all-mapped f anil = anil
  all-mapped f (acons h t) = acons h (all-mapped f t)

  pub all-each : {P : B → Type 0} (f : A → List B) {xs : List A} → All (λ x. All P (f x)) xs → All P (each f xs)
  unfolding each
  all-each f anil = anil
  all-each f (acons h t) = all_append h (all-each f t)

  pub ordered-map : {P : A → Type 0} {R : A → A → Type 0} {Q : B → B → Type 0} (f : A → B) → ((x y : A) → P x → P y → R x y → Q (f x) (f y)) → {xs : List A} → All P xs → Ordered R xs → Ordered Q (map f xs)
  ordered-map f g anil onil = onil
  ordered-map {P} {R} {Q} f g (acons {x} p ps) (ocons h r) = ocons (all-mapped f (both p ps h)) (ordered-map f g ps r)
    where
      both : P x → {ys : List A} → All P ys → All (R x) ys → All (λ y. Q (f x) (f y)) ys
      both p anil anil = anil
      both p (acons {x = y} q qs) (acons h hs) = acons (g x y p q h) (both p qs hs)
