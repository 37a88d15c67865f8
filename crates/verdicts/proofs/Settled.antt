-- How much of a text is needed: 2,049 bytes settle the line, whatever follows them.
use Prim.Native.Nat.{ℕ, ◌<◌}
use native.Mathlib.Omega.{arith}
use mathlib.Core.Path.{◌≡◌, ap}
use mathlib.Core.List.{List, ◌++◌}
use lib.ListN.{length, length-append}
use Rattle.checker.proofs.Long.{long-text}
use Rattle.remarks.specs.Remarks.{offsets_of}
use Rattle.lines.specs.Print.{refusal}
use Rattle.verdicts.specs.Line.{line_for, line_of}

pub settled : (front more : List ℕ) → 2048 < length front → line_of (front ++ more) ≡ refusal 1 2048
unfolding line_of
settled front more h = ap (line_for (offsets_of (front ++ more))) (long-text (front ++ more) (omega (arith, h, length-append front more)))
