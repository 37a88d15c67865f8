-- A row's ten words, read back: what `put_row` prints of them is the line of the row.
use Prim.Native.Nat.{ℕ, ◌-◌, ◌≤◌, min}
use native.Mathlib.Omega.{arith}
use mathlib.Core.Path.{◌≡◌, ◌∙◌, ap}
use mathlib.Core.List.{List, ◌∷◌, ◌++◌, append_assoc}
use lib.ListN.{length, take, replicate}
use lib.Seq.{take-append_seam}
use lib.IntN.{ℤ, pos}
use Rattle.semantics.specs.Run.{Row, clamp}
use Rattle.lines.specs.Written.{row_from}

-- "A row is 10 signed 32-bit words: result, count of values, eight values, unused ones 0."
abbrev pub words_of : Row → List ℤ
words_of r = r.result ∷ pos (length r.values) ∷ (r.values ++ replicate (8 - length r.values) (pos 0))

pub read_back : (r : Row) (rest : List ℤ) → length r.values ≤ 8 → row_from (words_of r ++ rest) ≡ r
unfolding row_from clamp
read_back r rest h =
    let e : min (length r.values) 8 ≡ length r.values = omega arith in
    let v : take (min (length r.values) 8) ((r.values ++ replicate (8 - length r.values) (pos 0)) ++ rest) ≡ r.values =
    ap (λ (n : ℕ). take n ((r.values ++ replicate (8 - length r.values) (pos 0)) ++ rest)) e
    ∙ ap (λ (l : List ℤ). take (length r.values) l) (append_assoc r.values (replicate (8 - length r.values) (pos 0)) rest)
    ∙ take-append_seam r.values (replicate (8 - length r.values) (pos 0) ++ rest) in
    λ i. record { result = r.result; values = v i }
