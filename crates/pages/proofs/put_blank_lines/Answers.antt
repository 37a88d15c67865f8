use native.Mathlib.Omega.{arith}
use mathlib.Core.List.{List, ◌++◌}
use Prim.Native.Nat.{ℕ}
use Rattle.printing.specs.Written.{blanks}
use Rattle.printing.proofs.Puts.{and_then, put_as, put-none}
use Rattle.lines.specs.Print.{line_end}
use Rattle.pages.specs.Parts.{joined}
use Rattle.pages.proofs.Lists.{joined-replicate}
use Rattle.pages.proofs.put_blank_lines.Goals as goal

pub loop-init : goal.loop-init
unfolding joined
loop-init c = put-none _ _ (omega arith) (omega arith)

pub loop-preserved : goal.loop-preserved
loop-preserved c = put_as (joined-replicate (λ (l : List ℕ). l ++ line_end) c.loop.counter (blanks 80)) (and_then c.loop.invariant (and_then c.put_blanks-p.ensures c.put_byte-p.ensures))
