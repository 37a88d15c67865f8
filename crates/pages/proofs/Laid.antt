-- THEOREM. The sheet of any list of rows, with any ending, is laid out as the slip says.
use Prim.Native.Nat.{ℕ, zero, suc, ◌+◌, ◌-◌, ◌*◌, ◌/◌, ◌%◌, ◌≤◌, ◌<◌, min, max}
use native.Mathlib.Omega.{arith}
use mathlib.Core.Path.{◌≡◌, refl, sym, ◌∙◌, ap}
use mathlib.Core.Bool.{Bool, true, false}
use mathlib.Core.List.{List, [], ◌∷◌, ◌++◌, append_assoc}
use lib.ListN.{length, take, drop, get_or, length-append, length-take, length-drop, length-map, get_or-append}
use lib.Seq.{drop-drop, get_or_at, get_or-take, get_or-drop, take_at, drop-append-le, drop-append-add}
use lib.Dec.{ltb}
use borrow.Author.Tests.{ltb-true, ltb-false}
use Rattle.printing.specs.Written.{blanks}
use Rattle.semantics.specs.Run.{Row}
use Rattle.semantics.specs.Search.{Close}
use Rattle.semantics.proofs.Keep.{All, anil, acons}
use Rattle.lines.specs.Print.{line_end, ending}
use Rattle.pages.specs.Pages.{Line, Page, filled, row_across, rows_down, heading, page, wall_sheet, page_bytes, sheet_bytes}
use Rattle.pages.specs.Laid.{line_at, no_row, Laid}
use Rattle.pages.proofs.Widths.{filled-length, filled_none}
use Rattle.pages.proofs.Lists.{map_at}
use Rattle.pages.proofs.Sheet.{Last, page-count, each-page, end-page}

-- ---- one page

down-length : (n : ℕ) (rows : List Row) → length (rows_down n rows) ≡ n
unfolding rows_down
down-length zero rows = refl
down-length (suc n) [] = ap suc (down-length n [])
down-length (suc n) (r ∷ rows) = ap suc (down-length n rows)

down-row : (n : ℕ) (rows : List Row) (l : ℕ) → l < n → l < length rows → get_or (rows_down n rows) l [] ≡ row_across (get_or rows l no_row)
unfolding rows_down
down-row zero rows l h i = absurd (omega arith)
down-row (suc n) [] l h i = absurd (omega arith)
down-row (suc n) (r ∷ rows) zero h i = refl
down-row (suc n) (r ∷ rows) (suc l) h i = down-row n rows l (omega arith) (omega arith)

down-none : (n : ℕ) (rows : List Row) (l : ℕ) → length rows ≤ l → get_or (rows_down n rows) l [] ≡ []
unfolding rows_down
down-none zero rows l h = refl
down-none (suc n) [] zero h = refl
down-none (suc n) [] (suc l) h = down-none n [] l (omega arith)
down-none (suc n) (r ∷ rows) zero h = absurd (omega arith)
down-none (suc n) (r ∷ rows) (suc l) h = down-none n rows l (omega arith)

module _ (n : ℕ) (rows : List Row) (foot : List ℕ) where
  pub page-sixty : length (page n rows foot) ≡ 60
  unfolding page
  page-sixty = length-map (heading n ∷ (rows_down 58 rows ++ (foot ∷ []))) filled ∙ omega (arith, length-append (rows_down 58 rows) (foot ∷ []), down-length 58 rows)

  page-head : get_or (page n rows foot) 0 [] ≡ filled (heading n)
  unfolding page
  page-head = refl

  page-line : (l : ℕ) → l < 58 → get_or (page n rows foot) (suc l) [] ≡ filled (get_or (rows_down 58 rows) l [])
  unfolding page
  page-line l h =
      map_at filled (rows_down 58 rows ++ (foot ∷ [])) l [] [] (omega (arith, length-append (rows_down 58 rows) (foot ∷ []), down-length 58 rows))
      ∙ ap filled (get_or-append (rows_down 58 rows) (foot ∷ []) [] l (omega (arith, down-length 58 rows)))

  page-row : (l : ℕ) → l < 58 → l < length rows → get_or (page n rows foot) (suc l) [] ≡ filled (row_across (get_or rows l no_row))
  page-row l h i = page-line l h ∙ ap filled (down-row 58 rows l h i)

  page-blank : (l : ℕ) → l < 58 → length rows ≤ l → get_or (page n rows foot) (suc l) [] ≡ blanks 80
  page-blank l h i = page-line l h ∙ ap filled (down-none 58 rows l i) ∙ filled_none

  page-foot : get_or (page n rows foot) 59 [] ≡ filled foot
  unfolding page
  page-foot =
      map_at filled (rows_down 58 rows ++ (foot ∷ [])) 58 [] [] (omega (arith, length-append (rows_down 58 rows) (foot ∷ []), down-length 58 rows))
      ∙ ap filled (get_or_at (rows_down 58 rows) foot [] [] 58 (down-length 58 rows))

  -- every line has 80 characters
  page-eighty : (l : ℕ) → l < 60 → length (get_or (page n rows foot) l []) ≡ 80
  unfolding page
  page-eighty l h =
      ap length (map_at filled (heading n ∷ (rows_down 58 rows ++ (foot ∷ []))) l [] [] (omega (arith, length-append (rows_down 58 rows) (foot ∷ []), down-length 58 rows)))
      ∙ filled-length (get_or (heading n ∷ (rows_down 58 rows ++ (foot ∷ []))) l [])

-- ---- bytes

-- the lines of a page
lines-size : (ls : List Line) → All (λ l. length l ≡ 80) ls → length (page_bytes ls) ≡ 81 * length ls
unfolding page_bytes
lines-size [] anil = refl
lines-size (l ∷ ls) (acons e es) = length-append (l ++ line_end) (page_bytes ls) ∙ omega (arith, length-append l line_end, e, lines-size ls es)

line-bytes : (ls : List Line) → All (λ l. length l ≡ 80) ls → (k : ℕ) → k < length ls → drop (81 * k) (page_bytes ls) ≡ (get_or ls k [] ++ line_end) ++ page_bytes (drop (suc k) ls)
unfolding page_bytes
line-bytes [] anil k h = absurd (omega arith)
line-bytes (l ∷ ls) (acons e es) zero h =
    let z : 81 * 0 ≡ 0 = omega arith in
    ap (λ (i : ℕ). drop i ((l ++ line_end) ++ page_bytes ls)) z
line-bytes (l ∷ ls) (acons e es) (suc k) h =
    let n : length (l ++ line_end) ≡ 81 = length-append l line_end ∙ omega arith in
    let z : 81 * suc k ≡ length (l ++ line_end) + 81 * k = omega arith in
    ap (λ (i : ℕ). drop i ((l ++ line_end) ++ page_bytes ls)) z
    ∙ drop-append-add (l ++ line_end) (page_bytes ls) (81 * k)
    ∙ line-bytes ls es k (omega arith)

abbrev EvenPage : Page → Type 0
EvenPage p = (length p ≡ 60) × All (λ l. length l ≡ 80) p

page-size : (p : Page) → EvenPage p → length (page_bytes p) ≡ 4860
page-size p e = lines-size p e.1 ∙ omega (arith, e.0)

pages-size : (ps : List Page) → All EvenPage ps → length (sheet_bytes ps) ≡ 4860 * length ps
unfolding sheet_bytes
pages-size [] anil = refl
pages-size (p ∷ ps) (acons e es) = length-append (page_bytes p) (sheet_bytes ps) ∙ omega (arith, page-size p e, pages-size ps es)

page-bytes-at : (ps : List Page) → All EvenPage ps → (k : ℕ) → k < length ps → drop (4860 * k) (sheet_bytes ps) ≡ page_bytes (get_or ps k []) ++ sheet_bytes (drop (suc k) ps)
unfolding sheet_bytes
page-bytes-at [] anil k h = absurd (omega arith)
page-bytes-at (p ∷ ps) (acons e es) zero h =
    let z : 4860 * 0 ≡ 0 = omega arith in
    ap (λ (i : ℕ). drop i (page_bytes p ++ sheet_bytes ps)) z
page-bytes-at (p ∷ ps) (acons e es) (suc k) h =
    let z : 4860 * suc k ≡ length (page_bytes p) + 4860 * k = omega (arith, page-size p e) in
    ap (λ (i : ℕ). drop i (page_bytes p ++ sheet_bytes ps)) z
    ∙ drop-append-add (page_bytes p) (sheet_bytes ps) (4860 * k)
    ∙ page-bytes-at ps es k (omega arith)

-- ---- the sheet

all_of : {A : Type 0} {P : A → Type 0} (d : A) (l : List A) → ((k : ℕ) → k < length l → P (get_or l k d)) → All P l
all_of d [] f = anil
all_of d (x ∷ l) f = acons (f 0 (omega arith)) (all_of d l (λ k h. f (suc k) (omega arith)))

-- the bytes after line l of page p
abbrev after_line : List Page → ℕ → ℕ → List ℕ
after_line sheet p l = page_bytes (drop (suc l) (get_or sheet p [])) ++ sheet_bytes (drop (suc p) sheet)

module _ (rows : List Row) (close : Close) where
  -- page p, by its rows
  record IsPage (p : ℕ) : Type 0 where
    foot : List ℕ
    is : get_or (wall_sheet rows close) p [] ≡ page (suc p) (take 58 (drop (58 * p) rows)) foot

  how-many : length (wall_sheet rows close) ≡ max 1 ((length rows + 57) / 58)
  unfolding wall_sheet
  how-many = page-count (suc (length rows)) 1 rows (ending close) (omega arith)

  before-page : (p : ℕ) → 58 * suc p < length rows → get_or (wall_sheet rows close) p [] ≡ page (suc p) (take 58 (drop (58 * p) rows)) []
  unfolding wall_sheet
  before-page p h =
      let e : 1 + p ≡ suc p = omega arith in
      each-page (suc (length rows)) 1 rows (ending close) p (omega arith) h ∙ ap (λ (n : ℕ). page n (take 58 (drop (58 * p) rows)) []) e

  final-page : (p : ℕ) → Last p (length rows) → get_or (wall_sheet rows close) p [] ≡ page (suc p) (take 58 (drop (58 * p) rows)) (ending close)
  unfolding wall_sheet
  final-page p h =
      let e : 1 + p ≡ suc p = omega arith in
      end-page (suc (length rows)) 1 rows (ending close) p (omega arith) h ∙ ap (λ (n : ℕ). page n (take 58 (drop (58 * p) rows)) (ending close)) e

  final : (p : ℕ) → p < length (wall_sheet rows close) → length rows ≤ 58 * suc p → Last p (length rows)
  final p h k = record { reaches = k; needed = λ q. omega (arith, how-many) }

  nth : (p : ℕ) → p < length (wall_sheet rows close) → IsPage p
  nth p h = go (ltb (58 * suc p) (length rows)) refl
    where
      go : (b : Bool) → ltb (58 * suc p) (length rows) ≡ b → IsPage p
      go true e = record { foot = []; is = before-page p (ltb-true (58 * suc p) (length rows) e) }
      go false e = record { foot = ending close; is = final-page p (final p h (ltb-false (58 * suc p) (length rows) e)) }

  part_length : (p : ℕ) → length (take 58 (drop (58 * p) rows)) ≡ min 58 (length rows - 58 * p)
  part_length p = length-take 58 (drop (58 * p) rows) ∙ ap (λ (n : ℕ). min 58 n) (length-drop (58 * p) rows)

  on-page : (p l : ℕ) → p < length (wall_sheet rows close) → l < 58 → 58 * p + l < length rows → line_at (wall_sheet rows close) p (suc l) ≡ filled (row_across (get_or rows (58 * p + l) no_row))
  on-page p l h i j =
      let n = nth p h in
      ap (λ (g : Page). get_or g (suc l) []) n.is
      ∙ page-row (suc p) (take 58 (drop (58 * p) rows)) n.foot l i (omega (arith, part_length p))
      ∙ ap (λ (r : Row). filled (row_across r)) (get_or-take 58 (drop (58 * p) rows) l no_row i ∙ get_or-drop (58 * p) rows l no_row)

  eighty-at : (p l : ℕ) → p < length (wall_sheet rows close) → l < 60 → length (line_at (wall_sheet rows close) p l) ≡ 80
  eighty-at p l h i =
      let n = nth p h in
      ap (λ (g : Page). length (get_or g l [])) n.is ∙ page-eighty (suc p) (take 58 (drop (58 * p) rows)) n.foot l i

  sixty-at : (p : ℕ) → p < length (wall_sheet rows close) → length (get_or (wall_sheet rows close) p []) ≡ 60
  sixty-at p h = let n = nth p h in ap length n.is ∙ page-sixty (suc p) (take 58 (drop (58 * p) rows)) n.foot

  even-page : (p : ℕ) → p < length (wall_sheet rows close) → EvenPage (get_or (wall_sheet rows close) p [])
  even-page p h = (sixty-at p h, all_of [] (get_or (wall_sheet rows close) p []) (λ l i. eighty-at p l h (omega (arith, sixty-at p h))))

  even : All EvenPage (wall_sheet rows close)
  even = all_of [] (wall_sheet rows close) even-page

  line-from : (p l : ℕ) (h : p < length (wall_sheet rows close)) (i : l < 60) → drop (4860 * p + 81 * l) (sheet_bytes (wall_sheet rows close)) ≡ line_at (wall_sheet rows close) p l ++ (10 ∷ after_line (wall_sheet rows close) p l)
  line-from p l h i =
      let g = get_or (wall_sheet rows close) p [] in
      let rest = sheet_bytes (drop (suc p) (wall_sheet rows close)) in
      sym (drop-drop (81 * l) (4860 * p) (sheet_bytes (wall_sheet rows close)))
      ∙ ap (λ (x : List ℕ). drop (81 * l) x) (page-bytes-at (wall_sheet rows close) even p h)
      ∙ drop-append-le (81 * l) (page_bytes g) rest (omega (arith, page-size g (even-page p h)))
      ∙ ap (λ (x : List ℕ). x ++ rest) (line-bytes g (even-page p h).1 l (omega (arith, sixty-at p h)))
      ∙ simp append_assoc

  pub laid : Laid rows close (wall_sheet rows close)
  laid = record {
    pages = how-many;
    sixty = sixty-at;
    eighty = eighty-at;
    headed = λ p h. let n = nth p h in ap (λ (g : Page). get_or g 0 []) n.is ∙ page-head (suc p) (take 58 (drop (58 * p) rows)) n.foot;
    held = λ i h.
        let e : 58 * (i / 58) + i % 58 ≡ i = omega arith in
        on-page (i / 58) (i % 58) (omega (arith, how-many)) (omega arith) (omega arith) ∙ ap (λ (j : ℕ). filled (row_across (get_or rows j no_row))) e;
    unused = λ p l h i j. let n = nth p h in ap (λ (g : Page). get_or g (suc l) []) n.is ∙ page-blank (suc p) (take 58 (drop (58 * p) rows)) n.foot l i (omega (arith, part_length p));
    ends = λ p e. ap (λ (g : Page). get_or g 59 []) (final-page p (final p (omega arith) (omega (arith, how-many)))) ∙ page-foot (suc p) (take 58 (drop (58 * p) rows)) (ending close);
    before = λ p h. ap (λ (g : Page). get_or g 59 []) (before-page p (omega (arith, how-many))) ∙ page-foot (suc p) (take 58 (drop (58 * p) rows)) [] ∙ filled_none;
    size = pages-size (wall_sheet rows close) even;
    written = λ p l h i. ap (λ (x : List ℕ). take 80 x) (line-from p l h i) ∙ take_at (line_at (wall_sheet rows close) p l) (10 ∷ after_line (wall_sheet rows close) p l) 80 (eighty-at p l h i);
    closed = λ p l h i. sym (get_or-drop (4860 * p + 81 * l) (sheet_bytes (wall_sheet rows close)) 80 0) ∙ ap (λ (x : List ℕ). get_or x 80 0) (line-from p l h i) ∙ get_or_at (line_at (wall_sheet rows close) p l) 10 (after_line (wall_sheet rows close) p l) 0 80 (eighty-at p l h i);
  }
