-- How wide the parts of a line are.
use Prim.Native.Nat.{ℕ, zero, suc, ◌+◌, ◌-◌, ◌*◌, ◌≤◌, ◌<◌}
use native.Mathlib.Omega.{arith}
use mathlib.Core.Path.{◌≡◌, refl, sym, ◌∙◌, ap}
use mathlib.Core.Bool.{Bool, true, false}
use mathlib.Core.List.{List, [], ◌∷◌, ◌++◌}
use lib.ListN.{length, take, length-append, length-take, length-drop, length-replicate}
use lib.Seq.{take-append-add}
use lib.Dec.{ltb}
use lib.IntN.{ℤ}
use mir.Syntax.{w32}
use mir.Val.{SFits}
use borrow.Author.Tests.{lt-ltb, le-ltb, ltb-true, ltb-false}
use Rattle.lexer.specs.Lex.{bytes}
use Rattle.printing.specs.Decimal.{natural, integer}
use Rattle.printing.specs.Written.{blanks}
use Rattle.printing.proofs.Numbers.{integer-length}
use Rattle.semantics.specs.Run.{Row}
use Rattle.semantics.specs.Search.{Close, whole, cuts, full, spent}
use Rattle.lines.specs.Print.{ending}
use Rattle.pages.specs.Pages.{right, filled, column, columns, row_across, last_five, heading}

blanks-length : (n : ℕ) → length (blanks n) ≡ n
blanks-length n = length-replicate n 32

pub right-length : (w : ℕ) (bs : List ℕ) → length bs ≤ w → length (right w bs) ≡ w
unfolding right
right-length w bs h = length-append (blanks (w - length bs)) bs ∙ omega (arith, blanks-length (w - length bs))

-- a word that fills its columns stands as it is
pub right-full : (w : ℕ) (bs : List ℕ) → w ≤ length bs → bs ≡ right w bs
unfolding right
right-full w bs h =
    let e : 0 ≡ w - length bs = omega arith in
    ap (λ (n : ℕ). blanks n ++ bs) e

pub filled-length : (bs : List ℕ) → length (filled bs) ≡ 80
unfolding filled
filled-length bs = length-take 80 (bs ++ blanks 80) ∙ omega (arith, length-append bs (blanks 80), blanks-length 80)

take-blanks : (k n : ℕ) → k ≤ n → take k (blanks n) ≡ blanks k
take-blanks zero n h = refl
take-blanks (suc k) zero h = absurd (omega arith)
take-blanks (suc k) (suc n) h = ap (λ (l : List ℕ). 32 ∷ l) (take-blanks k n (omega arith))

-- words of so many characters, and the blanks to 80: nothing is cut
pub filled-by : (bs : List ℕ) (n : ℕ) → length bs ≡ n → n ≤ 80 → bs ++ blanks (80 - n) ≡ filled bs
unfolding filled
filled-by bs n e h =
    let k : length bs + (80 - n) ≡ 80 = omega arith in
    sym (ap (λ (i : ℕ). take i (bs ++ blanks 80)) (sym k) ∙ take-append-add bs (blanks 80) (80 - n) ∙ ap (λ (l : List ℕ). bs ++ l) (take-blanks (80 - n) 80 (omega arith)))

pub filled_none : filled [] ≡ blanks 80
unfolding filled
filled_none = refl

-- ---- values

pub column-wide : (v : ℤ) → 8 < length (integer v) → bytes "########" ≡ column v
unfolding column
column-wide v h = rw (lt-ltb 8 (length (integer v)) h, column)

pub column-shown : (v : ℤ) → length (integer v) ≤ 8 → right 8 (integer v) ≡ column v
unfolding column
column-shown v h = rw (le-ltb 8 (length (integer v)) h, column)

pub column-length : (v : ℤ) → length (column v) ≡ 8
column-length v = go (ltb 8 (length (integer v))) refl
  where
    go : (b : Bool) → ltb 8 (length (integer v)) ≡ b → length (column v) ≡ 8
    go true e = ap length (sym (column-wide v (ltb-true 8 (length (integer v)) e)))
    go false e =
        let h : length (integer v) ≤ 8 = ltb-false 8 (length (integer v)) e in
        ap length (sym (column-shown v h)) ∙ right-length 8 (integer v) h

pub columns-length : (n : ℕ) (vs : List ℤ) → length (columns n vs) ≡ 8 * n
unfolding columns
columns-length zero vs = refl
columns-length (suc n) [] = length-append (blanks 8) (columns n []) ∙ omega (arith, columns-length n [])
columns-length (suc n) (v ∷ vs) = length-append (column v) (columns n vs) ∙ omega (arith, column-length v, columns-length n vs)

-- a result that has its place, as one of 32 bits has
abbrev pub Narrow : Row → Type 0
Narrow r = length (integer r.result) ≤ 12

pub narrow : (r : Row) → SFits w32 r.result → Narrow r
narrow r f = omega (arith, integer-length r.result f)

pub across-length : (r : Row) → Narrow r → length (row_across r) ≡ 80
unfolding row_across
across-length r h =
    length-append (right 12 (integer r.result) ++ columns 8 r.values) (blanks 4)
    ∙ omega (arith, length-append (right 12 (integer r.result)) (columns 8 r.values), right-length 12 (integer r.result) h, columns-length 8 r.values)

-- ---- line 1 and line 60

pub five-length : (ds : List ℕ) → length (last_five ds) ≤ 5
unfolding last_five
five-length ds = omega (arith, length-drop (length ds - 5) ds)

pub number-length : (n : ℕ) → length (right 5 (last_five (natural n))) ≡ 5
number-length n = right-length 5 (last_five (natural n)) (five-length (natural n))

pub heading-length : (n : ℕ) → length (heading n) ≡ 16
unfolding heading
heading-length n = length-append (bytes "plan list" ++ blanks 2) (right 5 (last_five (natural n))) ∙ omega (arith, number-length n)

pub ending-short : (c : Close) → length (ending c) ≤ 5
unfolding ending
ending-short whole = omega arith
ending-short cuts = omega arith
ending-short full = omega arith
ending-short spent = omega arith
