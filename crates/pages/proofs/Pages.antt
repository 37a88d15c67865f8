-- The sheet, as the loop over its pages writes it.
use Prim.Native.Nat.{ℕ, suc, ◌+◌, ◌*◌, ◌-◌, ◌/◌, ◌≤◌, ◌<◌}
use native.Mathlib.Omega.{arith}
use mathlib.Core.Path.{◌≡◌, sym, ◌∙◌, ap}
use mathlib.Core.List.{List, [], ◌++◌}
use lib.ListN.{length, take, drop, length-drop}
use lib.Seq.{drop-drop}
use lib.IntN.{ℤ}
use Rattle.semantics.specs.Run.{Row}
use Rattle.semantics.specs.Search.{Close}
use Rattle.lines.specs.Print.{ending}
use Rattle.lines.specs.Written.{rows_of}
use Rattle.lines.proofs.Lines.{rows_of-front, rows_of-behind}
use Rattle.pages.specs.Pages.{page, wall_sheet, page_bytes, sheet_bytes}
use Rattle.pages.proofs.Lists.{rows-count, rows_take, rows_drop}
use Rattle.pages.proofs.Sheet.{full_pages, sheet-end}

module _ (ws rest : List ℤ) (number : ℕ) (behind : rest ≡ drop (10 * (58 * (number - 1))) ws) (numbered : 1 ≤ number) where
  same_number : suc (number - 1) ≡ number
  same_number = omega arith

  many : length (rows_of ws) ≡ length ws / 10
  many = rows-count (length ws / 10) ws

  pub left-length : length rest / 10 ≡ length ws / 10 - 58 * (number - 1)
  left-length = omega (arith, ap length behind, length-drop (10 * (58 * (number - 1))) ws)

  -- the rows from this page on
  rows_left : 58 * (number - 1) ≤ length ws / 10 → drop (58 * (number - 1)) (rows_of ws) ≡ rows_of rest
  rows_left k = rows_drop (58 * (number - 1)) (length ws / 10) ws k ∙ sym (rows_of-behind (58 * (number - 1)) ws) ∙ ap rows_of (sym behind)

  pub next-page : drop 580 rest ≡ drop (10 * (58 * (number + 1 - 1))) ws
  next-page =
      let e : 10 * (58 * (number - 1)) + 580 ≡ 10 * (58 * (number + 1 - 1)) = omega arith in
      ap (λ (l : List ℤ). drop 580 l) behind ∙ drop-drop 580 (10 * (58 * (number - 1))) ws ∙ ap (λ (i : ℕ). drop i ws) e

  pub one_more : 58 < length rest / 10 → full_pages (number - 1) (rows_of ws) ++ page_bytes (page number (rows_of (take 580 rest)) []) ≡ full_pages (number + 1 - 1) (rows_of ws)
  unfolding full_pages
  one_more k =
      let s : suc (number - 1) ≡ number + 1 - 1 = omega arith in
      ap (λ (l : List Row). full_pages (number - 1) (rows_of ws) ++ page_bytes (page number l [])) (rows_of-front 58 rest (omega arith) ∙ sym (rows_take 58 (length rest / 10) rest (omega arith)) ∙ ap (λ (l : List Row). take 58 l) (sym (rows_left (omega (arith, left-length)))))
      ∙ ap (λ (m : ℕ). full_pages (number - 1) (rows_of ws) ++ page_bytes (page m (take 58 (drop (58 * (number - 1)) (rows_of ws))) [])) (sym same_number)
      ∙ ap (λ (m : ℕ). full_pages m (rows_of ws)) s

  pub all-pages : (close : Close) → 58 * (number - 1) ≤ length ws / 10 → (0 < number - 1 → 58 * (number - 1) < length ws / 10) → length rest / 10 ≤ 58
      → full_pages (number - 1) (rows_of ws) ++ page_bytes (page number (rows_of rest) (ending close)) ≡ sheet_bytes (wall_sheet (rows_of ws) close)
  all-pages close i k j =
      ap (λ (l : List Row). full_pages (number - 1) (rows_of ws) ++ page_bytes (page number l (ending close))) (sym (rows_left i))
      ∙ ap (λ (m : ℕ). full_pages (number - 1) (rows_of ws) ++ page_bytes (page m (drop (58 * (number - 1)) (rows_of ws)) (ending close))) (sym same_number)
      ∙ sheet-end (number - 1) (rows_of ws) close (record { reaches = omega (arith, many, left-length); needed = λ q. omega (arith, many, k q) })
