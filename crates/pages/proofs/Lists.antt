-- Parts joined, and what stands where in a list that was made of another.
use Prim.Native.Nat.{ℕ, zero, suc, ◌+◌, ◌-◌, ◌*◌, ◌≤◌, ◌<◌}
use native.Mathlib.Omega.{arith}
use native.Mathlib.Numerals.{add-one}
use mathlib.Core.Path.{◌≡◌, refl, sym, ◌∙◌, ap}
use mathlib.Core.List.{List, [], ◌∷◌, ◌++◌, map, append_assoc, append-nil}
use lib.ListN.{length, take, drop, get_or, replicate}
use lib.Seq.{take-suc, drop-drop}
use lib.IntN.{ℤ}
use Rattle.semantics.specs.Run.{Row}
use Rattle.lines.specs.Written.{row_from, rows_from}
use Rattle.pages.specs.Parts.{joined}

module _ {A : Type 0} (f : A → List ℕ) where
  pub joined-append : (xs ys : List A) → joined f (xs ++ ys) ≡ joined f xs ++ joined f ys
  unfolding joined
  joined-append [] ys = refl
  joined-append (x ∷ xs) ys = ap (λ (l : List ℕ). f x ++ l) (joined-append xs ys) ∙ sym (append_assoc (f x) (joined f xs) (joined f ys))

  pub joined_snoc : (xs : List A) (x : A) → joined f (xs ++ (x ∷ [])) ≡ joined f xs ++ f x
  unfolding joined
  joined_snoc xs x = joined-append xs (x ∷ []) ∙ ap (λ (l : List ℕ). joined f xs ++ l) (append-nil (f x))

  pub joined-take : (l : List A) (k : ℕ) (d : A) → k < length l → joined f (take k l) ++ f (get_or l k d) ≡ joined f (take (k + 1) l)
  joined-take l k d h = sym (joined_snoc (take k l) (get_or l k d)) ∙ ap (joined f) (sym (ap (λ (i : ℕ). take i l) (add-one k) ∙ take-suc l k d h))

  pub joined-replicate : (k : ℕ) (x : A) → joined f (replicate k x) ++ f x ≡ joined f (replicate (k + 1) x)
  unfolding joined
  joined-replicate zero x = sym (append-nil (f x))
  joined-replicate (suc k) x =
      let e : suc (k + 1) ≡ suc k + 1 = omega arith in
      append_assoc (f x) (joined f (replicate k x)) (f x) ∙ ap (λ (l : List ℕ). f x ++ l) (joined-replicate k x) ∙ ap (λ (i : ℕ). joined f (replicate i x)) e

pub joined-map : {A B : Type 0} (f : B → List ℕ) (g : A → B) (xs : List A) → joined f (map g xs) ≡ joined (λ x. f (g x)) xs
unfolding joined
joined-map f g [] = refl
joined-map f g (x ∷ xs) = ap (λ (l : List ℕ). f (g x) ++ l) (joined-map f g xs)

pub joined_same : {A : Type 0} (f g : A → List ℕ) → ((x : A) → f x ≡ g x) → (xs : List A) → joined f xs ≡ joined g xs
unfolding joined
joined_same f g e [] = refl
joined_same f g e (x ∷ xs) = ap (λ (l : List ℕ). l ++ joined f xs) (e x) ∙ ap (λ (l : List ℕ). g x ++ l) (joined_same f g e xs)

pub map_at : {A B : Type 0} (f : A → B) (l : List A) (n : ℕ) (d : A) (e : B) → n < length l → get_or (map f l) n e ≡ f (get_or l n d)
map_at f [] n d e h = absurd (omega arith)
map_at f (x ∷ l) zero d e h = refl
map_at f (x ∷ l) (suc n) d e h = map_at f l n d e (omega arith)

pub map-replicate : {A B : Type 0} (f : A → B) (n : ℕ) (x : A) → map f (replicate n x) ≡ replicate n (f x)
map-replicate f zero x = refl
map-replicate {B = B} f (suc n) x = ap (λ (l : List B). f x ∷ l) (map-replicate f n x)

pub map-join : {A B : Type 0} (f : A → B) (xs ys : List A) → map f (xs ++ ys) ≡ map f xs ++ map f ys
map-join f [] ys = refl
map-join {B = B} f (x ∷ xs) ys = ap (λ (l : List B). f x ∷ l) (map-join f xs ys)

-- ---- rows from words

pub rows-count : (n : ℕ) (ws : List ℤ) → length (rows_from n ws) ≡ n
unfolding rows_from
rows-count zero ws = refl
rows-count (suc n) ws = ap suc (rows-count n (drop 10 ws))

rows_snoc : (k : ℕ) (ws : List ℤ) → rows_from (suc k) ws ≡ rows_from k ws ++ (row_from (drop (10 * k) ws) ∷ [])
unfolding rows_from
rows_snoc zero ws = refl
rows_snoc (suc k) ws =
    let e : 10 + 10 * k ≡ 10 * suc k = omega arith in
    ap (λ (l : List Row). row_from ws ∷ l) (rows_snoc k (drop 10 ws))
    ∙ ap (λ (l : List ℤ). row_from ws ∷ (rows_from k (drop 10 ws) ++ (row_from l ∷ []))) (drop-drop (10 * k) 10 ws ∙ ap (λ (i : ℕ). drop i ws) e)

-- one row more
pub rows_more : (f : Row → List ℕ) (ws : List ℤ) (k : ℕ) → joined f (rows_from k ws) ++ f (row_from (drop (10 * k) ws)) ≡ joined f (rows_from (k + 1) ws)
rows_more f ws k = sym (joined_snoc f (rows_from k ws) (row_from (drop (10 * k) ws))) ∙ ap (joined f) (sym (rows_snoc k ws) ∙ ap (λ (i : ℕ). rows_from i ws) (sym (add-one k)))

-- a part of the rows
pub rows_take : (m n : ℕ) (ws : List ℤ) → m ≤ n → take m (rows_from n ws) ≡ rows_from m ws
unfolding rows_from
rows_take zero n ws h = refl
rows_take (suc m) zero ws h = absurd (omega arith)
rows_take (suc m) (suc n) ws h = ap (λ (l : List Row). row_from ws ∷ l) (rows_take m n (drop 10 ws) (omega arith))

pub rows_drop : (k n : ℕ) (ws : List ℤ) → k ≤ n → drop k (rows_from n ws) ≡ rows_from (n - k) (drop (10 * k) ws)
unfolding rows_from
rows_drop zero n ws h =
    let e : n ≡ n - 0 = omega arith in
    let i : 0 ≡ 10 * 0 = omega arith in
    ap (λ (m : ℕ). rows_from m ws) e ∙ ap (λ (j : ℕ). rows_from (n - 0) (drop j ws)) i
rows_drop (suc k) zero ws h = absurd (omega arith)
rows_drop (suc k) (suc n) ws h =
    let e : n - k ≡ suc n - suc k = omega arith in
    let i : 10 + 10 * k ≡ 10 * suc k = omega arith in
    rows_drop k n (drop 10 ws) (omega arith)
    ∙ ap (λ (m : ℕ). rows_from m (drop (10 * k) (drop 10 ws))) e
    ∙ ap (rows_from (suc n - suc k)) (drop-drop (10 * k) 10 ws ∙ ap (λ (j : ℕ). drop j ws) i)
