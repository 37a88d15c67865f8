-- How much of a text is needed: 2,049 bytes settle what is printed, whatever follows them.
use Prim.Native.Nat.{ℕ, ◌<◌}
use native.Mathlib.Omega.{arith}
use mathlib.Core.Path.{◌≡◌, ap}
use mathlib.Core.List.{List, ◌++◌}
use lib.ListN.{length, length-append}
use Rattle.checker.specs.Check as C
use Rattle.checker.proofs.Long.{long-text}
use Rattle.lines.specs.Print.{refusal}
use Rattle.house_style.specs.Read.{written}
use Rattle.writer.specs.Write.{printed}

pub settled : (front more : List ℕ) → 2048 < length front → printed (front ++ more) ≡ refusal 1 2048
unfolding printed
settled front more h =
    ap (λ (v : C.Verdict). elim v [ C.refused n p ↦ refusal n p | C.accepted ↦ written (front ++ more) ]) (long-text (front ++ more) (omega (arith, h, length-append front more)))
