-- The parts of a printed line, and the rows that words stand for.
use Prim.Native.Nat.{ℕ, zero, suc, ◌+◌, ◌-◌, ◌*◌, ◌/◌, ◌≤◌, ◌<◌}
use native.Mathlib.Omega.{arith}
use native.Mathlib.Numerals.{add-one}
use mathlib.Core.Path.{◌≡◌, refl, sym, ◌∙◌, ap, ap₂}
use mathlib.Core.List.{List, [], ◌∷◌, ◌++◌, map, map-append, append_assoc, append-nil}
use lib.ListN.{length, take, drop, get_or, length-drop}
use lib.Seq.{take-suc, drop-drop, length-take-le}
use Rattle.std.proofs.lemmas.List.{drop-take}
use lib.IntN.{ℤ, pos, negsuc, nat_abs}
use Rattle.std.specs.Int.{int_max, int_min}
use Rattle.std.proofs.lemmas.Int.{ints, clamps}
use Rattle.lexer.specs.Lex.{bytes}
use Rattle.semantics.specs.Run.{Row, clamp}
use Rattle.printing.specs.Decimal.{integer}
use Rattle.lines.specs.Print.{spaced, row_line, row_lines, line_end}
use Rattle.lines.specs.Written.{count_of, row_from, rows_from, rows_of}

-- ---- the count of values

pub count-clamped : (z r : ℤ) → r ≡ int_max (pos 0) (int_min z (pos 8)) → (nat_abs r ≡ count_of z) × (nat_abs r ≤ 8)
unfolding clamp
count-clamped (pos m) r e = grind (arith, ints, clamps)
count-clamped (negsuc m) r e = grind (arith, ints, clamps)

-- ---- values, a blank before each

spaced-append : (a b : List ℤ) → spaced (a ++ b) ≡ spaced a ++ spaced b
unfolding spaced
spaced-append [] b = refl
spaced-append (x ∷ a) b = ap (λ (l : List ℕ). (bytes " " ++ integer x) ++ l) (spaced-append a b) ∙ sym (append_assoc (bytes " " ++ integer x) (spaced a) (spaced b))

spaced-one : (x : ℤ) → spaced (x ∷ []) ≡ bytes " " ++ integer x
unfolding spaced
spaced-one x = append-nil (bytes " " ++ integer x)

pub spaced-more : (ws : List ℤ) (k : ℕ) → k < length ws
    → spaced (take k ws) ++ (bytes " " ++ integer (get_or ws k (pos 0))) ≡ spaced (take (k + 1) ws)
spaced-more ws k h =
    let e : take (k + 1) ws ≡ take k ws ++ (get_or ws k (pos 0) ∷ []) = ap (λ (i : ℕ). take i ws) (add-one k) ∙ take-suc ws k (pos 0) h in
    sym (ap spaced e ∙ spaced-append (take k ws) (get_or ws k (pos 0) ∷ []) ∙ ap (λ (l : List ℕ). spaced (take k ws) ++ l) (spaced-one (get_or ws k (pos 0))))

-- ---- offsets, as values

pub offsets-more : (os : List ℕ) (k : ℕ) → k < length os → spaced (map pos (take k os)) ++ (bytes " " ++ integer (pos (get_or os k 0))) ≡ spaced (map pos (take (k + 1) os))
offsets-more os k h =
    let e : take (k + 1) os ≡ take k os ++ (get_or os k 0 ∷ []) = ap (λ (i : ℕ). take i os) (add-one k) ∙ take-suc os k 0 h in
    let m : map pos (take (k + 1) os) ≡ map pos (take k os) ++ (pos (get_or os k 0) ∷ []) = ap (λ (l : List ℕ). map pos l) e ∙ map-append pos (take k os) (get_or os k 0 ∷ []) in
    sym (ap spaced m ∙ spaced-append (map pos (take k os)) (pos (get_or os k 0) ∷ []) ∙ ap (λ (l : List ℕ). spaced (map pos (take k os)) ++ l) (spaced-one (pos (get_or os k 0))))

-- ---- rows

pub row-line : (ws : List ℤ) (n : ℕ) → n ≡ count_of (get_or ws 1 (pos 0))
    → integer (get_or ws 0 (pos 0)) ++ bytes " :" ++ spaced (take n (drop 2 ws)) ++ line_end ≡ row_line (row_from ws)
unfolding row_line row_from
row-line ws n e = ap (λ (k : ℕ). integer (get_or ws 0 (pos 0)) ++ bytes " :" ++ spaced (take k (drop 2 ws)) ++ line_end) e

rows-suc : (k : ℕ) (ws : List ℤ) → row_lines (rows_from k ws) ++ row_line (row_from (drop (10 * k) ws)) ≡ row_lines (rows_from (suc k) ws)
unfolding row_lines rows_from
rows-suc zero ws = sym (append-nil (row_line (row_from ws)))
rows-suc (suc k) ws =
    let e : 10 + 10 * k ≡ 10 * suc k = omega arith in
    append_assoc (row_line (row_from ws)) (row_lines (rows_from k (drop 10 ws))) (row_line (row_from (drop (10 * suc k) ws)))
    ∙ ap (λ (i : List ℤ). row_line (row_from ws) ++ (row_lines (rows_from k (drop 10 ws)) ++ row_line (row_from i))) (sym (drop-drop (10 * k) 10 ws ∙ ap (λ (i : ℕ). drop i ws) e))
    ∙ ap (λ (l : List ℕ). row_line (row_from ws) ++ l) (rows-suc k (drop 10 ws))

pub rows_more : (ws : List ℤ) (k : ℕ) → row_lines (rows_from k ws) ++ row_line (row_from (drop (10 * k) ws)) ≡ row_lines (rows_from (k + 1) ws)
rows_more ws k = rows-suc k ws ∙ ap (λ (i : ℕ). row_lines (rows_from i ws)) (sym (add-one k))

-- ---- the rows at the front of a slice

row-front : (m : ℕ) (ws : List ℤ) → 10 ≤ m → row_from (take m ws) ≡ row_from ws
unfolding row_from
row-front zero ws h = absurd (omega arith)
row-front (suc zero) ws h = absurd (omega arith)
row-front (suc (suc m)) [] h = refl
row-front (suc (suc m)) (a ∷ []) h = refl
row-front (suc (suc m)) (a ∷ b ∷ ws) h = ap (λ (vs : List ℤ). record { result = a; values = vs }) (take-front (count_of b) m ws (omega arith))
  where
    take-front : (i m : ℕ) (ws : List ℤ) → i ≤ m → take i (take m ws) ≡ take i ws
    take-front zero m ws h = refl
    take-front (suc i) zero ws h = absurd (omega arith)
    take-front (suc i) (suc m) [] h = refl
    take-front (suc i) (suc m) (x ∷ ws) h = ap (λ (l : List ℤ). x ∷ l) (take-front i m ws (omega arith))

pub rows-front : (n m : ℕ) (ws : List ℤ) → 10 * n ≤ m → rows_from n (take m ws) ≡ rows_from n ws
unfolding rows_from
rows-front zero m ws h = refl
rows-front (suc n) m ws h =
    let e : 10 + (m - 10) ≡ m = omega arith in
    ap₂ (λ (r : Row) (rs : List Row). r ∷ rs) (row-front m ws (omega arith))
    (ap (rows_from n) (ap (λ (i : ℕ). drop 10 (take i ws)) (sym e) ∙ drop-take 10 (m - 10) ws) ∙ rows-front n (m - 10) (drop 10 ws) (omega arith))

pub rows_of-front : (n : ℕ) (ws : List ℤ) → 10 * n ≤ length ws → rows_of (take (10 * n) ws) ≡ rows_from n ws
rows_of-front n ws h =
    let e : length (take (10 * n) ws) / 10 ≡ n = omega (arith, length-take-le (10 * n) ws h) in
    ap (λ (i : ℕ). rows_from i (take (10 * n) ws)) e ∙ rows-front n (10 * n) ws (omega arith)

-- the rows behind so many
pub rows_of-behind : (n : ℕ) (ws : List ℤ) → rows_of (drop (10 * n) ws) ≡ rows_from (length ws / 10 - n) (drop (10 * n) ws)
rows_of-behind n ws =
    let e : length (drop (10 * n) ws) / 10 ≡ length ws / 10 - n = omega (arith, length-drop (10 * n) ws) in
    ap (λ (i : ℕ). rows_from i (drop (10 * n) ws)) e
