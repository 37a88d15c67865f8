-- What was written, as one of the two ways to print an answer, and how far it reaches.
use Prim.Native.Nat.{ℕ, ◌*◌, ◌≤◌, ◌<◌}
use native.Mathlib.Omega.{arith}
use mathlib.Core.Path.{◌≡◌}
use Rattle.respond.specs.declared.Layout.{Layout}
use Rattle.respond.specs.declared.Layout.TheVariants.{Lines, Sheet}
use mathlib.Core.List.{List}
use lib.IntN.{ℤ}
use Rattle.semantics.specs.Search.{Close}
use Rattle.printing.specs.Written.{Put}
use Rattle.printing.proofs.Puts.{and_then}
use Rattle.lines.specs.Print.{row_lines, last_line, refusal}
use Rattle.lines.specs.Written.{rows_from}
use Rattle.lines.proofs.Sizes.{last-length, refusal-length}
use Rattle.pages.specs.Pages.{wall_sheet, sheet_bytes}
use Rattle.pages.proofs.Lists.{rows-count}
use Rattle.pages.proofs.Laid.{laid}
use Rattle.list.specs.List.{refused, listed}
use Rattle.respond.specs.Output.{shown, laid_out, bad_line}
use Rattle.respond.specs.Parts.{printed_of, printed_for, size_of}

-- at most 1,000 rows, and the last line
pub put-lines : (b : Layout) → b ≡ Lines → (c : Close) (k moves : ℕ) (ws : List ℤ) {l m n : List ℕ} {p q : ℕ} → k ≤ 1000 → moves < 4294967296 → Put l 0 (row_lines (rows_from k ws)) m p → p ≤ 110 * k → Put m p (last_line c k moves) n q
    → Put l 0 (printed_of b (listed k moves c) ws) n q × (q ≤ size_of b)
unfolding shown
put-lines Lines e c k moves ws few fits x near y = (and_then x y, omega (arith, y.past, last-length c k moves (omega arith) fits))
put-lines Sheet e c k moves ws few fits x near y = absurd (let z : ◌≡◌ {A = ℕ} 0 1 = cc in omega arith)

-- at most 18 pages
pub put-sheet : (b : Layout) → b ≡ Sheet → (c : Close) (k moves : ℕ) (ws : List ℤ) {l n : List ℕ} {q : ℕ} → k ≤ 1000 → Put l 0 (sheet_bytes (wall_sheet (rows_from k ws) c)) n q
    → Put l 0 (printed_of b (listed k moves c) ws) n q × (q ≤ size_of b)
unfolding laid_out
put-sheet Sheet e c k moves ws few x =
    let s = laid (rows_from k ws) c in
    (x, omega (arith, x.past, s.size, s.pages, rows-count k ws))
put-sheet Lines e c k moves ws few x = absurd (let z : ◌≡◌ {A = ℕ} 0 1 = cc in omega arith)

-- one line of a refusal, in both ways
short : (b : Layout) (n p : ℕ) {l m : List ℕ} {q : ℕ} → n < 4294967296 → p < 4294967296 → Put l 0 (refusal n p) m q → q ≤ size_of b
short Sheet n p h i x = omega (arith, x.past, refusal-length n p h i)
short Lines n p h i x = omega (arith, x.past, refusal-length n p h i)

pub put_refused : (b : Layout) (n p : ℕ) (ws : List ℤ) {l m : List ℕ} {q : ℕ} → n < 4294967296 → p < 4294967296 → Put l 0 (refusal n p) m q → Put l 0 (printed_of b (refused n p) ws) m q × (q ≤ size_of b)
unfolding shown laid_out
put_refused Sheet n p ws h i x = (x, short Sheet n p h i x)
put_refused Lines n p ws h i x = (x, short Lines n p h i x)

pub put-bad : (b : Layout) {l m : List ℕ} {q : ℕ} → Put l 0 (refusal 16 0) m q → Put l 0 (printed_for b bad_line) m q × (q ≤ size_of b)
put-bad b x = (x, short b 16 0 (omega arith) (omega arith) x)
