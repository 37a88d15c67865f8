-- Page after page: the number of pages, and each of them.
use Prim.Native.Nat.{ℕ, zero, suc, ◌+◌, ◌-◌, ◌*◌, ◌/◌, ◌≤◌, ◌<◌, max}
use native.Mathlib.Omega.{arith}
use mathlib.Core.Path.{◌≡◌, refl, sym, ◌∙◌, ap}
use mathlib.Core.Bool.{Bool, true, false}
use mathlib.Core.List.{List, [], ◌∷◌, ◌++◌, append_assoc, append-nil}
use lib.ListN.{length, take, drop, get_or, length-drop}
use lib.Seq.{drop-drop, take_all}
use lib.Dec.{leb}
use borrow.Author.Tests.{le-leb, lt-leb, leb-true, leb-false}
use Rattle.semantics.specs.Run.{Row}
use Rattle.semantics.specs.Search.{Close}
use Rattle.lines.specs.Print.{ending}
use Rattle.pages.specs.Pages.{Page, page, pages_from, wall_sheet, page_bytes, sheet_bytes}

-- ---- one page at a time

pub last-page : (k n : ℕ) (rows : List Row) (word : List ℕ) → length rows ≤ 58 → pages_from (suc k) n rows word ≡ page n rows word ∷ []
unfolding pages_from
last-page k n rows word h = rw (le-leb (length rows) 58 h, pages_from)

pub full-page : (k n : ℕ) (rows : List Row) (word : List ℕ) → 58 < length rows → pages_from (suc k) n rows word ≡ page n (take 58 rows) [] ∷ pages_from k (suc n) (drop 58 rows) word
unfolding pages_from
full-page k n rows word h = rw (lt-leb (length rows) 58 h, pages_from)

-- ---- how many

pub page-count : (k n : ℕ) (rows : List Row) (word : List ℕ) → length rows < k → length (pages_from k n rows word) ≡ max 1 ((length rows + 57) / 58)
page-count zero n rows word h = absurd (omega arith)
page-count (suc k) n rows word h = go (λ i. page-count k (suc n) (drop 58 rows) word i) (leb (length rows) 58) refl
  where
    go : (length (drop 58 rows) < k → length (pages_from k (suc n) (drop 58 rows) word) ≡ max 1 ((length (drop 58 rows) + 57) / 58)) → (b : Bool) → leb (length rows) 58 ≡ b → length (pages_from (suc k) n rows word) ≡ max 1 ((length rows + 57) / 58)
    go rest true e =
        let i : length rows ≤ 58 = leb-true (length rows) 58 e in
        ap length (last-page k n rows word i) ∙ omega arith
    go rest false e =
        let i : 58 < length rows = leb-false (length rows) 58 e in
        ap length (full-page k n rows word i) ∙ omega (arith, rest (omega (arith, length-drop 58 rows)), length-drop 58 rows)

-- ---- each page: the rows from 58 * p on, as many as have place

pub each-page : (k n : ℕ) (rows : List Row) (word : List ℕ) (p : ℕ) → length rows < k → 58 * suc p < length rows → get_or (pages_from k n rows word) p [] ≡ page (n + p) (take 58 (drop (58 * p) rows)) []
each-page zero n rows word p h i = absurd (omega arith)
each-page (suc k) n rows word zero h i =
    let e : n ≡ n + 0 = omega arith in
    let z : 0 ≡ 58 * 0 = omega arith in
    ap (λ (l : List Page). get_or l 0 []) (full-page k n rows word (omega arith))
    ∙ ap (λ (m : ℕ). page m (take 58 rows) []) e
    ∙ ap (λ (j : ℕ). page (n + 0) (take 58 (drop j rows)) []) z
each-page (suc k) n rows word (suc p) h i =
    let e : suc n + p ≡ n + suc p = omega arith in
    let z : 58 + 58 * p ≡ 58 * suc p = omega arith in
    ap (λ (l : List Page). get_or l (suc p) []) (full-page k n rows word (omega arith))
    ∙ each-page k (suc n) (drop 58 rows) word p (omega (arith, length-drop 58 rows)) (omega (arith, length-drop 58 rows))
    ∙ ap (λ (m : ℕ). page m (take 58 (drop (58 * p) (drop 58 rows))) []) e
    ∙ ap (λ (l : List Row). page (n + suc p) (take 58 l) []) (drop-drop (58 * p) 58 rows ∙ ap (λ (j : ℕ). drop j rows) z)

-- p is the last page of these rows
pub record Last (p rows : ℕ) : Type 0 where
  pub reaches : rows ≤ 58 * suc p
  pub needed : 0 < p → 58 * p < rows

pub end-page : (k n : ℕ) (rows : List Row) (word : List ℕ) (p : ℕ) → length rows < k → Last p (length rows) → get_or (pages_from k n rows word) p [] ≡ page (n + p) (take 58 (drop (58 * p) rows)) word
end-page zero n rows word p h l = absurd (omega arith)
end-page (suc k) n rows word zero h l =
    let e : n ≡ n + 0 = omega arith in
    let z : 0 ≡ 58 * 0 = omega arith in
    ap (λ (l : List Page). get_or l 0 []) (last-page k n rows word (omega (arith, l.reaches)))
    ∙ ap (λ (m : ℕ). page m rows word) e
    ∙ ap (λ (r : List Row). page (n + 0) r word) (sym (take_all 58 rows (omega (arith, l.reaches))))
    ∙ ap (λ (j : ℕ). page (n + 0) (take 58 (drop j rows)) word) z
end-page (suc k) n rows word (suc p) h l =
    let e : suc n + p ≡ n + suc p = omega arith in
    let z : 58 + 58 * p ≡ 58 * suc p = omega arith in
    let more : 58 * suc p < length rows = l.needed (omega arith) in
    let d : length (drop 58 rows) ≡ length rows - 58 = length-drop 58 rows in
    ap (λ (l : List Page). get_or l (suc p) []) (full-page k n rows word (omega arith))
    ∙ end-page k (suc n) (drop 58 rows) word p (omega arith) (record { reaches = omega (arith, l.reaches); needed = λ q. omega arith })
    ∙ ap (λ (m : ℕ). page m (take 58 (drop (58 * p) (drop 58 rows))) word) e
    ∙ ap (λ (r : List Row). page (n + suc p) (take 58 r) word) (drop-drop (58 * p) 58 rows ∙ ap (λ (j : ℕ). drop j rows) z)

-- ---- the sheet from its front, as the loop writes it

unfoldable pub full_pages : ℕ → List Row → List ℕ
full_pages zero rows = []
full_pages (suc p) rows = full_pages p rows ++ page_bytes (page (suc p) (take 58 (drop (58 * p) rows)) [])

more_bytes : (p : ℕ) (rows : List Row) (ps : List Page) → full_pages p rows ++ sheet_bytes (page (suc p) (take 58 (drop (58 * p) rows)) [] ∷ ps) ≡ (full_pages p rows ++ page_bytes (page (suc p) (take 58 (drop (58 * p) rows)) [])) ++ sheet_bytes ps
unfolding sheet_bytes
more_bytes p rows ps = sym (append_assoc (full_pages p rows) (page_bytes (page (suc p) (take 58 (drop (58 * p) rows)) [])) (sheet_bytes ps))

split-pages : (p : ℕ) (rows : List Row) (word : List ℕ) → (0 < p → 58 * p < length rows)
    → sheet_bytes (pages_from (suc (length rows)) 1 rows word) ≡ full_pages p rows ++ sheet_bytes (pages_from (suc (length rows - p)) (suc p) (drop (58 * p) rows) word)
unfolding full_pages
split-pages zero rows word h =
    let e : length rows ≡ length rows - 0 = omega arith in
    let z : 0 ≡ 58 * 0 = omega arith in
    ap (λ (k : ℕ). sheet_bytes (pages_from (suc k) 1 rows word)) e ∙ ap (λ (j : ℕ). sheet_bytes (pages_from (suc (length rows - 0)) 1 (drop j rows) word)) z
split-pages (suc p) rows word h =
    let more : 58 * suc p < length rows = h (omega arith) in
    let d : length (drop (58 * p) rows) ≡ length rows - 58 * p = length-drop (58 * p) rows in
    let e : length rows - p ≡ suc (length rows - suc p) = omega arith in
    let z : 58 * p + 58 ≡ 58 * suc p = omega arith in
    split-pages p rows word (λ q. omega arith)
    ∙ ap (λ (l : List Page). full_pages p rows ++ sheet_bytes l) (full-page (length rows - p) (suc p) (drop (58 * p) rows) word (omega arith))
    ∙ more_bytes p rows (pages_from (length rows - p) (suc (suc p)) (drop 58 (drop (58 * p) rows)) word)
    ∙ ap (λ (k : ℕ). (full_pages p rows ++ page_bytes (page (suc p) (take 58 (drop (58 * p) rows)) [])) ++ sheet_bytes (pages_from k (suc (suc p)) (drop 58 (drop (58 * p) rows)) word)) e
    ∙ ap (λ (l : List Row). (full_pages p rows ++ page_bytes (page (suc p) (take 58 (drop (58 * p) rows)) [])) ++ sheet_bytes (pages_from (suc (length rows - suc p)) (suc (suc p)) l word)) (drop-drop 58 (58 * p) rows ∙ ap (λ (j : ℕ). drop j rows) z)

pub sheet-end : (p : ℕ) (rows : List Row) (close : Close) → Last p (length rows) → full_pages p rows ++ page_bytes (page (suc p) (drop (58 * p) rows) (ending close)) ≡ sheet_bytes (wall_sheet rows close)
unfolding wall_sheet sheet_bytes
sheet-end p rows close l =
    sym (split-pages p rows (ending close) (λ q. l.needed q)
    ∙ ap (λ (ps : List Page). full_pages p rows ++ sheet_bytes ps) (last-page (length rows - p) (suc p) (drop (58 * p) rows) (ending close) (omega (arith, l.reaches, length-drop (58 * p) rows)))
    ∙ ap (λ (x : List ℕ). full_pages p rows ++ x) (append-nil (page_bytes (page (suc p) (drop (58 * p) rows) (ending close)))))
