-- The lines of a page, as the functions write them.
use Prim.Native.Nat.{ℕ, zero, suc, ◌+◌, ◌-◌, ◌*◌, ◌≤◌}
use native.Mathlib.Omega.{arith}
use mathlib.Core.Path.{◌≡◌, refl, sym, ◌∙◌, ap, ap₂}
use mathlib.Core.List.{List, [], ◌∷◌, ◌++◌, map, append_assoc, append-nil}
use lib.ListN.{length, take, drop, get_or, replicate, length-drop, replicate-append-replicate}
use lib.Seq.{sets-eq, take_at, take-append_seam, drop-append-le, length-take-le}
use lib.IntN.{ℤ, pos}
use Rattle.lexer.specs.Lex.{bytes}
use Rattle.printing.specs.Decimal.{natural, integer}
use Rattle.printing.specs.Written.{blanks, Put}
use Rattle.semantics.specs.Run.{Row}
use Rattle.std.specs.Prelude.{Option, None, Some}
use Rattle.search.specs.declared.Ending.{Ending}
use Rattle.search.specs.Loop.{close_of}
use Rattle.lines.specs.Print.{line_end}
use Rattle.lines.specs.Written.{count_of, row_from}
use Rattle.pages.specs.Pages.{right, filled, column, columns, row_across, rows_down, last_five, heading, page, page_bytes}
use Rattle.pages.specs.Parts.{foot_of, joined, rows_bytes, blank_lines}
use Rattle.pages.proofs.Widths.{Narrow, across-length, heading-length, filled-by, filled_none, ending-short}
use Rattle.pages.proofs.Lists.{joined-append, joined-map, map-replicate, map-join}

-- ---- what was written into a slice of one's own

module _ {l bs m : List ℕ} {r : ℕ} (p : Put l 0 bs m r) (h : length bs ≤ length l) where
  pub written_count : r ≡ length bs
  written_count = omega (arith, p.past, p.short)

  kept-front : m ≡ bs ++ drop (length bs) l
  kept-front =
      let e : 0 + length bs ≡ length bs = omega arith in
      p.kept ∙ sets-eq bs l 0 (omega arith) ∙ ap (λ (k : ℕ). bs ++ drop k l) e

  pub written-front : take r m ≡ bs
  written-front = ap₂ (λ (k : ℕ) (s : List ℕ). take k s) written_count kept-front ∙ take-append_seam bs (drop (length bs) l)

  -- its last five bytes
  pub written-five : take (r - (r - 5)) (drop (r - 5) m) ≡ last_five bs
  unfolding last_five
  written-five =
      let e : r ≡ length bs = written_count in
      let i : r - 5 ≡ length bs - 5 = omega arith in
      let n : length (drop (length bs - 5) bs) ≡ r - (r - 5) = length-drop (length bs - 5) bs ∙ omega arith in
      ap₂ (λ (j : ℕ) (s : List ℕ). take (r - (r - 5)) (drop j s)) i kept-front
      ∙ ap (λ (s : List ℕ). take (r - (r - 5)) s) (drop-append-le (length bs - 5) bs (drop (length bs) l) (omega arith))
      ∙ take_at (drop (length bs - 5) bs) (drop (length bs) l) (r - (r - 5)) n

-- five digits or fewer stay
pub five-few : (ds : List ℕ) → length ds ≤ 5 → ds ≡ last_five ds
unfolding last_five
five-few ds h =
    let e : 0 ≡ length ds - 5 = omega arith in
    ap (λ (k : ℕ). drop k ds) e

-- ---- a row's line

blanks-join : (n m : ℕ) → blanks n ++ blanks m ≡ blanks (n + m)
blanks-join n m = replicate-append-replicate n m 32

pub columns-used : (n : ℕ) (vs : List ℤ) → length vs ≤ n → columns n vs ≡ joined column vs ++ blanks (8 * (n - length vs))
unfolding columns joined
columns-used zero [] h = refl
columns-used zero (v ∷ vs) h = absurd (omega arith)
columns-used (suc n) [] h =
    let e : 8 + 8 * (n - 0) ≡ 8 * (suc n - 0) = omega arith in
    ap (λ (l : List ℕ). blanks 8 ++ l) (columns-used n [] (omega arith))
    ∙ blanks-join 8 (8 * (n - 0))
    ∙ ap blanks e
columns-used (suc n) (v ∷ vs) h =
    let e : n - length vs ≡ suc n - suc (length vs) = omega arith in
    ap (λ (l : List ℕ). column v ++ l) (columns-used n vs (omega arith))
    ∙ sym (append_assoc (column v) (joined column vs) (blanks (8 * (n - length vs))))
    ∙ ap (λ (k : ℕ). (column v ++ joined column vs) ++ blanks (8 * k)) e

module _ (z : ℤ) (vs : List ℤ) (n : ℕ) (few : n ≤ 8) (e : length vs ≡ n) where
  across : (right 12 (integer z) ++ joined column vs) ++ blanks (8 * (8 - n) + 4) ≡ row_across (record { result = z; values = vs })
  unfolding row_across
  across =
      ap (λ (l : List ℕ). (right 12 (integer z) ++ joined column vs) ++ l) (sym (blanks-join (8 * (8 - n)) 4))
      ∙ sym (append_assoc (right 12 (integer z) ++ joined column vs) (blanks (8 * (8 - n))) (blanks 4))
      ∙ ap (λ (l : List ℕ). l ++ blanks 4) (append_assoc (right 12 (integer z)) (joined column vs) (blanks (8 * (8 - n))))
      ∙ ap (λ (k : ℕ). (right 12 (integer z) ++ (joined column vs ++ blanks (8 * (8 - k)))) ++ blanks 4) (sym e)
      ∙ ap (λ (l : List ℕ). (right 12 (integer z) ++ l) ++ blanks 4) (sym (columns-used 8 vs (omega arith)))

-- 80 characters are filled already
pub filled-across : (r : Row) → Narrow r → row_across r ≡ filled (row_across r)
filled-across r h = sym (append-nil (row_across r)) ∙ filled-by (row_across r) 80 (across-length r h) (omega arith)

count-few : (z : ℤ) → count_of z ≤ 8
count-few z = omega arith

pub row-line : (ws : List ℤ) (n : ℕ) → 10 ≤ length ws → length (integer (get_or ws 0 (pos 0))) ≤ 12 → n ≡ count_of (get_or ws 1 (pos 0))
    → ((right 12 (integer (get_or ws 0 (pos 0))) ++ joined column (take n (drop 2 ws))) ++ blanks (8 * (8 - n) + 4)) ++ line_end ≡ filled (row_across (row_from ws)) ++ line_end
unfolding row_from
row-line ws n long narrow e =
    let few : n ≤ 8 = omega (arith, e, count-few (get_or ws 1 (pos 0))) in
    let k : length (take n (drop 2 ws)) ≡ n = length-take-le n (drop 2 ws) (omega (arith, length-drop 2 ws)) in
    let whole_row : record { result = get_or ws 0 (pos 0); values = take n (drop 2 ws) } ≡ row_from ws = ap (λ (m : ℕ). record { result = get_or ws 0 (pos 0); values = take m (drop 2 ws) }) e in
    ap (λ (l : List ℕ). l ++ line_end) (across (get_or ws 0 (pos 0)) (take n (drop 2 ws)) n few k ∙ ap row_across whole_row ∙ filled-across (row_from ws) narrow)

-- ---- line 1 and line 60

head-filled : (n : ℕ) → (bytes "plan list" ++ blanks 2) ++ right 5 (last_five (natural n)) ++ blanks 64 ≡ filled (heading n)
unfolding heading
head-filled n = filled-by (heading n) 16 (heading-length n) (omega arith)

pub head-line : (n : ℕ) → ((bytes "plan list" ++ blanks 2) ++ right 5 (last_five (natural n)) ++ blanks 64) ++ line_end ≡ filled (heading n) ++ line_end
head-line n = ap (λ (l : List ℕ). l ++ line_end) (head-filled n)

pub foot-short : (o : Option Ending) → length (foot_of o) ≤ 5
foot-short None = omega arith
foot-short (Some e) = ending-short (close_of e)

pub foot-line : (o : Option Ending) → (foot_of o ++ blanks (80 - length (foot_of o))) ++ line_end ≡ filled (foot_of o) ++ line_end
foot-line o = ap (λ (l : List ℕ). l ++ line_end) (filled-by (foot_of o) (length (foot_of o)) refl (omega (arith, foot-short o)))

-- ---- a page

down-used : (n : ℕ) (rows : List Row) → length rows ≤ n → rows_down n rows ≡ map row_across rows ++ replicate (n - length rows) []
unfolding rows_down
down-used zero [] h = refl
down-used zero (r ∷ rows) h = absurd (omega arith)
down-used (suc n) [] h =
    let e : suc (n - 0) ≡ suc n - 0 = omega arith in
    ap (λ (l : List (List ℕ)). [] ∷ l) (down-used n [] (omega arith)) ∙ ap (λ (k : ℕ). replicate {A = List ℕ} k []) e
down-used (suc n) (r ∷ rows) h =
    let e : n - length rows ≡ suc n - suc (length rows) = omega arith in
    ap (λ (l : List (List ℕ)). row_across r ∷ l) (down-used n rows (omega arith)) ∙ ap (λ (k : ℕ). row_across r ∷ (map row_across rows ++ replicate k [])) e

bytes-joined : (ls : List (List ℕ)) → page_bytes ls ≡ joined (λ l. l ++ line_end) ls
unfolding page_bytes joined
bytes-joined [] = refl
bytes-joined (l ∷ ls) = ap (λ (x : List ℕ). (l ++ line_end) ++ x) (bytes-joined ls)

middle : (rows : List Row) → length rows ≤ 58 → joined (λ l. l ++ line_end) (map filled (rows_down 58 rows)) ≡ rows_bytes rows ++ blank_lines (58 - length rows)
middle rows h =
    ap (λ (l : List (List ℕ)). joined (λ k. k ++ line_end) (map filled l)) (down-used 58 rows h)
    ∙ ap (joined (λ k. k ++ line_end)) (map-join filled (map row_across rows) (replicate (58 - length rows) []))
    ∙ joined-append (λ k. k ++ line_end) (map filled (map row_across rows)) (map filled (replicate (58 - length rows) []))
    ∙ ap₂ (λ (x y : List ℕ). x ++ y)
    (joined-map (λ k. k ++ line_end) filled (map row_across rows) ∙ joined-map (λ k. filled k ++ line_end) row_across rows)
    (ap (joined (λ k. k ++ line_end)) (map-replicate filled (58 - length rows) [] ∙ ap (replicate (58 - length rows)) filled_none))

pub page-bytes : (number : ℕ) (rows : List Row) (foot : List ℕ) → length rows ≤ 58
    → ((filled (heading number) ++ line_end) ++ rows_bytes rows ++ blank_lines (58 - length rows)) ++ (filled foot ++ line_end) ≡ page_bytes (page number rows foot)
unfolding page joined
page-bytes number rows foot h =
    let f : List ℕ → List ℕ = λ k. k ++ line_end in
    ap (λ (l : List ℕ). l ++ (filled foot ++ line_end)) (append_assoc (filled (heading number) ++ line_end) (rows_bytes rows) (blank_lines (58 - length rows)) ∙ ap (λ (l : List ℕ). (filled (heading number) ++ line_end) ++ l) (sym (middle rows h)))
    ∙ append_assoc (filled (heading number) ++ line_end) (joined f (map filled (rows_down 58 rows))) (filled foot ++ line_end)
    ∙ ap (λ (l : List ℕ). (filled (heading number) ++ line_end) ++ l)
    (ap (λ (l : List ℕ). joined f (map filled (rows_down 58 rows)) ++ l) (sym (append-nil (filled foot ++ line_end)))
    ∙ sym (joined-append f (map filled (rows_down 58 rows)) (filled foot ∷ []))
    ∙ ap (joined f) (sym (map-join filled (rows_down 58 rows) (foot ∷ []))))
    ∙ sym (bytes-joined (page number rows foot))
