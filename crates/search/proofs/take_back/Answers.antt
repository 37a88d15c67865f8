use Prim.Native.Nat.{ℕ, suc, ◌+◌, ◌-◌}
use mathlib.Core.Path.{sym, ap, subst}
use mathlib.Core.List.{List}
use native.Mathlib.Omega.{arith}
use lib.ListN.{length, set}
use Rattle.search.specs.Loop.{NewestBack}
use Rattle.std.specs.Prelude.{Some, None}
use Rattle.search.proofs.Outcomes.{at, FalseFrom, none_left, newest}
use Rattle.search.proofs.take_back.Goals as goal

pub returns-then-mem-place-ne0 : goal.returns-then-mem-place-ne0
returns-then-mem-place-ne0 c =
    subst (λ (m : List ℕ). NewestBack m (set c.loop-i.mem (at (c.loop-i.i - 1)) 0) c.args.n (Some (c.loop-i.i - 1 + 1))) c.loop-i.invariant.1
    (newest c.loop-i.mem c.args.n (c.loop-i.i - 1) (omega (arith, c.loop-i-test.true, c.loop-i.invariant.0)) (omega (arith, c.requires.words, ap length c.loop-i.invariant.1)) c.if-mem-place-ne0.true
    (subst (λ (m : List ℕ). FalseFrom m (suc (c.loop-i.i - 1)) c.args.n) (sym c.loop-i.invariant.1) (λ j g u. c.loop-i.invariant.2 j (omega (arith, g)) u)))

pub returns : goal.returns
returns c =
    subst (λ (m : List ℕ). NewestBack c.args.mem.now m c.args.n None) (sym c.loop-i.invariant.1) (none_left c.args.mem.now c.args.n (λ j g u. c.loop-i.invariant.2 j (omega arith) u))
