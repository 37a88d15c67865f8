-- Rows in the slice: what is written, and what stays.
use mathlib.Core.Path.{◌≡◌, refl, sym, ap, ap₂, ◌∙◌, subst}
use mathlib.Core.List.{List, [], ◌∷◌, ◌++◌}
use mathlib.Core.Logic.{⊎_elim}
use Prim.Native.Nat.{ℕ, zero, suc, ◌+◌, ◌-◌, ◌*◌, ◌≤◌, ◌<◌}
use native.Mathlib.Nat.{eq-or-lt_of_le}
use native.Mathlib.Numerals.{add-one}
use native.Mathlib.Omega.{arith}
use lib.ListN.{length, get_or, set, take, drop}
use lib.Seq.{get_or-set_same, get_or-set_other}
use lib.IntN.{ℤ, pos}
use Rattle.semantics.specs.Does.{frame}
use Rattle.semantics.specs.Run.{Row, clamp}
use Rattle.semantics.proofs.Frames.{length-frame}
use Rattle.settings.specs.Rows.{words_from, words_of, row_with, row_at, rows_at, Written}

-- ---- words that stay

pub words_same : (rows rows' : List ℤ) (i n : ℕ) → ((j : ℕ) → i ≤ j → j < i + n → get_or rows' j (pos 0) ≡ get_or rows j (pos 0)) → words_from rows' i n ≡ words_from rows i n
unfolding words_from
words_same rows rows' i zero h = refl
words_same rows rows' i (suc n) h = ap₂ (λ (x : ℤ) (l : List ℤ). x ∷ l) (h i (omega arith) (omega arith)) (words_same rows rows' (suc i) n (λ j l u. h j (omega arith) (omega arith)))

pub row_same : (rows rows' : List ℤ) (i : ℕ) → ((j : ℕ) → 10 * i ≤ j → j < 10 * i + 10 → get_or rows' j (pos 0) ≡ get_or rows j (pos 0)) → row_at rows' i ≡ row_at rows i
row_same rows rows' i h =
    ap₂ row_with (h (10 * i) (omega arith) (omega arith))
    (ap₂ (λ (z : ℤ) (l : List ℤ). take (clamp z) l) (h (10 * i + 1) (omega arith) (omega arith)) (words_same rows rows' (10 * i + 2) 8 (λ j l u. h j (omega arith) (omega arith))))

pub rows_same : (rows rows' : List ℤ) (n : ℕ) → ((j : ℕ) → j < 10 * n → get_or rows' j (pos 0) ≡ get_or rows j (pos 0)) → rows_at rows' n ≡ rows_at rows n
unfolding rows_at
rows_same rows rows' zero h = refl
rows_same rows rows' (suc n) h = ap₂ (λ (l : List Row) (r : Row). l ++ r ∷ []) (rows_same rows rows' n (λ j l. h j (omega arith))) (row_same rows rows' n (λ j l u. h j (omega arith)))

-- ---- a row's words

frame_at : (n : ℕ) (vs : List ℤ) (j : ℕ) → j < n → get_or (frame (pos 0) n vs) j (pos 0) ≡ get_or vs j (pos 0)
unfolding frame
frame_at zero vs j h = absurd (omega arith)
frame_at (suc n) [] zero h = refl
frame_at (suc n) [] (suc j) h = frame_at n [] j (omega arith)
frame_at (suc n) (v ∷ vs) zero h = refl
frame_at (suc n) (v ∷ vs) (suc j) h = frame_at n vs j (omega arith)

frame-take : (n : ℕ) (vs : List ℤ) → length vs ≤ n → take (length vs) (frame (pos 0) n vs) ≡ vs
unfolding frame
frame-take n [] h = refl
frame-take zero (v ∷ vs) h = absurd (omega arith)
frame-take (suc n) (v ∷ vs) h = ap (λ (l : List ℤ). v ∷ l) (frame-take n vs (omega arith))

counted : (vs : List ℤ) → length vs ≤ 8 → take (clamp (pos (length vs))) (frame (pos 0) 8 vs) ≡ vs
unfolding clamp
counted vs h = frame-take 8 vs h

words-list : (rows : List ℤ) (i n : ℕ) (l : List ℤ) → length l ≡ n → ((j : ℕ) → j < n → get_or rows (i + j) (pos 0) ≡ get_or l j (pos 0)) → words_from rows i n ≡ l
unfolding words_from
words-list rows i zero [] e h = refl
words-list rows i zero (x ∷ l) e h = absurd (omega arith)
words-list rows i (suc n) [] e h = absurd (omega arith)
words-list rows i (suc n) (x ∷ l) e h = ap₂ (λ (y : ℤ) (k : List ℤ). y ∷ k)
    (ap (λ (j : ℕ). get_or rows j (pos 0)) {x = i} {y = i + 0} (omega arith) ∙ h 0 (omega arith))
    (words-list rows (suc i) n l (omega arith) (λ j g. ap (λ (k : ℕ). get_or rows k (pos 0)) {x = suc i + j} {y = i + suc j} (omega arith) ∙ h (suc j) (omega arith)))

-- each word of a row, by its place
pub word_first : (z : ℤ) (s : List ℤ) (j : ℕ) → j ≡ 0 → z ≡ get_or (words_of (row_with z s)) j (pos 0)
word_first z s j e = ap (λ (i : ℕ). get_or (words_of (row_with z s)) i (pos 0)) (sym e)

pub word-second : (z : ℤ) (s : List ℤ) (j k : ℕ) → j ≡ 1 → length s ≡ k → pos k ≡ get_or (words_of (row_with z s)) j (pos 0)
word-second z s j k e h = ap pos (sym h) ∙ ap (λ (i : ℕ). get_or (words_of (row_with z s)) i (pos 0)) (sym e)

pub word-later : (z : ℤ) (s : List ℤ) (j : ℕ) → 2 ≤ j → j < 10 → get_or s (j - 2) (pos 0) ≡ get_or (words_of (row_with z s)) j (pos 0)
word-later z s j l h =
    sym (frame_at 8 s (j - 2) (omega arith)) ∙ ap (λ (i : ℕ). get_or (words_of (row_with z s)) i (pos 0)) {x = suc (suc (j - 2))} {y = j} (omega arith)

-- ---- a row is written

-- its first words are
pub record Wording (rows rows' : List ℤ) (n j : ℕ) (r : Row) : Type 0 where
  pub word : (i : ℕ) → i < j → get_or rows' (10 * n + i) (pos 0) ≡ get_or (words_of r) i (pos 0)
  pub other : (i : ℕ) → (10 * n ≤ i → i < 10 * n + 10 → ⊥) → get_or rows' i (pos 0) ≡ get_or rows i (pos 0)

pub wording-none : (rows : List ℤ) (n : ℕ) (r : Row) → Wording rows rows n 0 r
wording-none rows n r = record { word = λ i l. absurd (omega arith); other = λ i h. refl }

pub wording-more : (rows₀ rows : List ℤ) (n j : ℕ) (r : Row) (z : ℤ) → j < 10 → 10 * n + 10 ≤ length rows → z ≡ get_or (words_of r) j (pos 0) → Wording rows₀ rows n j r
    → Wording rows₀ (set rows (10 * n + j) z) n (j + 1) r
wording-more rows₀ rows n j r z h s e w = record {
  word = λ i l. ⊎_elim
      (λ q. ap (λ (k : ℕ). get_or (set rows (10 * n + j) z) (10 * n + k) (pos 0)) q ∙ get_or-set_same rows (10 * n + j) z (pos 0) (omega arith) ∙ e ∙ ap (λ (k : ℕ). get_or (words_of r) k (pos 0)) (sym q))
      (λ g. get_or-set_other rows (10 * n + j) (10 * n + i) z (pos 0) (λ q. omega arith) ∙ w.word i g)
      (eq-or-lt_of_le {n = i} {m = j} (omega arith));
  other = λ i l. get_or-set_other rows (10 * n + j) i z (pos 0) (λ q. l (omega arith) (omega arith)) ∙ w.other i l;
}

module _ (rows rows' : List ℤ) (n : ℕ) (r : Row) (few : length r.values ≤ 8) (w : Wording rows rows' n 10 r) where
  first : get_or rows' (10 * n) (pos 0) ≡ r.result
  first = ap (λ (j : ℕ). get_or rows' j (pos 0)) {x = 10 * n} {y = 10 * n + 0} (omega arith) ∙ w.word 0 (omega arith)

  later : words_from rows' (10 * n + 2) 8 ≡ frame (pos 0) 8 r.values
  later = words-list rows' (10 * n + 2) 8 (frame (pos 0) 8 r.values) (length-frame (pos 0) 8 r.values)
      (λ j l. ap (λ (k : ℕ). get_or rows' k (pos 0)) {x = 10 * n + 2 + j} {y = 10 * n + suc (suc j)} (omega arith) ∙ w.word (suc (suc j)) (omega arith))

  pub row_is : row_at rows' n ≡ r
  row_is = ap₂ row_with first (ap₂ (λ (z : ℤ) (l : List ℤ). take (clamp z) l) (w.word 1 (omega arith)) later ∙ counted r.values few)

  words-is : words_from rows' (10 * n) 10 ≡ words_of r
  words-is = words-list rows' (10 * n) 10 (words_of r) (ap (λ (k : ℕ). suc (suc k)) (length-frame (pos 0) 8 r.values)) w.word

  rows_more : rows_at rows' (suc n) ≡ rows_at rows n ++ r ∷ []
  unfolding rows_at
  rows_more = ap₂ (λ (l : List Row) (x : Row). l ++ x ∷ []) (rows_same rows rows' n (λ j l. w.other j (λ x y. omega arith))) row_is

  pub written : Written rows rows' n r
  written = record {
    words = words-is;
    other = w.other;
    is = subst (λ (k : ℕ). rows_at rows' k ≡ rows_at rows n ++ r ∷ []) (sym (add-one n)) rows_more;
  }

-- a row that was written is read again
pub row_of : (rows rows' : List ℤ) (n : ℕ) (r : Row) → length r.values ≤ 8 → Written rows rows' n r → row_at rows' n ≡ r
unfolding words_from
row_of rows rows' n r few w =
    let q = w.words in
    ap₂ row_with (ap (λ (l : List ℤ). get_or l 0 (pos 0)) q)
    (ap₂ (λ (z : ℤ) (l : List ℤ). take (clamp z) l)
    (ap (λ (j : ℕ). get_or rows' j (pos 0)) {x = 10 * n + 1} {y = suc (10 * n)} (omega arith) ∙ ap (λ (l : List ℤ). get_or l 1 (pos 0)) q)
    (ap (λ (j : ℕ). words_from rows' j 8) {x = 10 * n + 2} {y = suc (suc (10 * n))} (omega arith) ∙ ap (drop 2) q)
    ∙ counted r.values few)
