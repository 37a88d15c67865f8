use Prim.Native.Nat.{ℕ, ◌-◌}
use mathlib.Core.Path.{subst}
use mathlib.Core.Bool.{true, false}
use Rattle.settings.specs.Table.{Follows}
use mathlib.Core.List.{List}
use native.Mathlib.Omega.{arith}
use Rattle.settings.proofs.Turns.{below_true, follows-none, follows-some}
use Rattle.settings.proofs.next_setting.Goals as goal

pub returns-then-below : goal.returns-then-below
returns-then-below c =
    subst (λ (m : List ℕ). Follows m c.start_from.new.mem c.args.k true) c.loop-i.invariant.1
    (follows-some c.loop-i.mem _ c.start_from.new.mem (c.loop-i.i - 1) c.args.k c.requires.0 (omega arith)
    (below_true c.below.ensures c.if-below.true)
    (λ j g u. c.loop-i.invariant.2 j (omega arith) u) c.raise.ensures c.start_from.ensures)

pub returns : goal.returns
returns c =
    subst (λ (m : List ℕ). Follows m c.loop-i.mem c.args.k false) c.loop-i.invariant.1 (follows-none c.loop-i.mem c.args.k c.requires.0 (λ j u. c.loop-i.invariant.2 j (omega arith) u))
