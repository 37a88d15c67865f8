-- A page for a caller, as it was written.
use Prim.Native.Nat.{ℕ, ◌*◌, ◌/◌, ◌≤◌, ◌<◌, min}
use mathlib.Core.Path.{◌≡◌, ap, ◌∙◌}
use mathlib.Core.List.{List}
use native.Mathlib.Omega.{arith}
use lib.ListN.{length, take}
use lib.Seq.{sets}
use lib.IntN.{ℤ}
use borrow.Author.Tests.{lt-ltb, le-ltb}
use Rattle.printing.specs.Written.{Put}
use Rattle.semantics.specs.Run.{Row}
use Rattle.lines.specs.Written.{rows_from, rows_of}
use Rattle.lines.proofs.Lines.{rows_of-front}
use Rattle.pages.specs.Pages.{page, page_bytes}
use Rattle.pages.specs.Parts.{foot_at}
use Rattle.exports.specs.Page.{page_out}

module _ (rows : List ℤ) (number ending : ℕ) (out : List ℕ) where
  pub page-short : length out < 4860 → out ≡ page_out rows number ending out
  page-short h = rw (lt-ltb (length out) 4860 h)

  pub page-out : {after foot : List ℕ} {r : ℕ} (n : ℕ) → 4860 ≤ length out → n ≡ min (length rows / 10) 58 → foot ≡ foot_at ending → Put out 0 (page_bytes (page number (rows_of (take (10 * n) rows)) foot)) after r → after ≡ page_out rows number ending out
  page-out {foot = foot} n h e f p = rw (le-ltb (length out) 4860 h) (p.kept ∙ ap (λ (l : List Row). sets out 0 (page_bytes (page number l foot))) (rows_of-front n rows (omega arith)) ∙ ap (λ (k : ℕ). sets out 0 (page_bytes (page number (rows_from k rows) foot))) e ∙ ap (λ (w : List ℕ). sets out 0 (page_bytes (page number (rows_from (min (length rows / 10) 58) rows) w))) f)
