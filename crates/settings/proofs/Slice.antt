-- The whole slice: where rows were written from its start on, each word is settled.
use mathlib.Core.Path.{◌≡◌, refl, sym, ap, ap₂, ◌∙◌}
use mathlib.Core.List.{List, [], ◌∷◌, ◌++◌, append_assoc, append-nil}
use Prim.Native.Nat.{ℕ, zero, suc, ◌+◌, ◌*◌, ◌≤◌, ◌<◌}
use native.Mathlib.Numerals.{add-one}
use native.Mathlib.Omega.{arith}
use lib.ListN.{length, get_or, take, drop, length-append, length-drop, take-append-drop}
use lib.Seq.{drop-cons, get_or-drop, take-add, ext_get_or}
use lib.IntN.{ℤ, pos}
use Rattle.semantics.specs.Run.{Row, each}
use Rattle.settings.specs.Rows.{words_from, words_of, row_at, rows_at, sheet}
use Rattle.settings.specs.Tries.{Rowed}

each_append : (xs ys : List Row) → each words_of (xs ++ ys) ≡ each words_of xs ++ each words_of ys
unfolding each
each_append [] ys = refl
each_append (x ∷ xs) ys = ap (λ (l : List ℤ). words_of x ++ l) (each_append xs ys) ∙ sym (append_assoc (words_of x) (each words_of xs) (each words_of ys))

each_last : (xs : List Row) (x : Row) → each words_of (xs ++ x ∷ []) ≡ each words_of xs ++ words_of x
unfolding each
each_last xs x = each_append xs (x ∷ []) ∙ ap (λ (l : List ℤ). each words_of xs ++ l) (append-nil (words_of x))

pub rows-length : (rows : List ℤ) (n : ℕ) → length (rows_at rows n) ≡ n
unfolding rows_at
rows-length rows zero = refl
rows-length rows (suc n) = length-append (rows_at rows n) (row_at rows n ∷ []) ∙ ap (λ (k : ℕ). k + 1) (rows-length rows n) ∙ add-one n

words-part : (rows : List ℤ) (i n : ℕ) → i + n ≤ length rows → take n (drop i rows) ≡ words_from rows i n
unfolding words_from
words-part rows i zero h = refl
words-part rows i (suc n) h = ap (take (suc n)) (drop-cons rows i (pos 0) (omega arith)) ∙ ap (λ (l : List ℤ). get_or rows i (pos 0) ∷ l) (words-part rows (suc i) n (omega arith))

front : (rows : List ℤ) (n : ℕ) → 10 * n ≤ length rows → ((i : ℕ) → i < n → words_from rows (10 * i) 10 ≡ words_of (row_at rows i)) → take (10 * n) rows ≡ each words_of (rows_at rows n)
unfolding rows_at each
front rows zero h w = refl
front rows (suc n) h w =
    ap (λ (k : ℕ). take k rows) {x = 10 * suc n} {y = 10 * n + 10} (omega arith)
    ∙ take-add (10 * n) 10 rows
    ∙ ap₂ (λ (a b : List ℤ). a ++ b) (front rows n (omega arith) (λ i l. w i (omega arith))) (words-part rows (10 * n) 10 (omega arith) ∙ w n (omega arith))
    ∙ sym (each_last (rows_at rows n) (row_at rows n))

-- all words of the slice, where n rows were written into it
pub sheet-is : (rows rows' : List ℤ) (n : ℕ) → length rows' ≡ length rows → 10 * n ≤ length rows → Rowed rows rows' 0 n → rows' ≡ sheet rows (rows_at rows' n)
sheet-is rows rows' n e h r =
    sym (take-append-drop (10 * n) rows')
    ∙ ap₂ (λ (a b : List ℤ). a ++ b) (front rows' n (omega arith) (λ i l. r.words i (omega arith) l))
    (ext_get_or (pos 0) (drop (10 * n) rows') (drop (10 * n) rows) (omega (arith, length-drop (10 * n) rows', length-drop (10 * n) rows))
    (λ i l. get_or-drop (10 * n) rows' i (pos 0) ∙ r.other (10 * n + i) (λ a b. omega arith) ∙ sym (get_or-drop (10 * n) rows i (pos 0))))
    ∙ ap (λ (k : ℕ). each words_of (rows_at rows' n) ++ drop (10 * k) rows) (sym (rows-length rows' n))
