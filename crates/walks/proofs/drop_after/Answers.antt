use native.Mathlib.Omega.{arith}
use mathlib.Core.Path.{refl, sym, ap, ◌∙◌, subst}
use Prim.Native.Nat.{ℕ, ◌-◌}
use Rattle.walks.proofs.Dropping.{Left, left_less, dropped-here, dropped-all}
use Rattle.walks.proofs.drop_after.Goals as goal

-- src/lib.rt:129:13
pub returns-then-p-i : goal.returns-then-p-i
returns-then-p-i c = dropped-here c.args.mem.now c.args.s c.loop-w.w c.point_at-p.result c.args.i _ c.loop-w-test.true c.point_at-p.ensures.0 c.if-p-i.true c.loop-w.invariant refl

-- src/lib.rt:126:5
pub loop-w-preserved : goal.loop-w-preserved
loop-w-preserved c =
    subst (Left c.args.mem.now c.args.s) (sym (c.saturating_sub-w.ensures ∙ ap (λ (n : ℕ). c.loop-w.w - n) c.size_of.ensures))
    (left_less c.args.mem.now c.args.s c.loop-w.w c.point_at-p.result c.loop-w-test.true c.point_at-p.ensures.0 c.loop-w.invariant)

-- src/lib.rt:121:1
pub returns : goal.returns
returns c = dropped-all c.args.mem.now c.args.s c.loop-w.w c.args.i _ (omega (arith, c.loop-w-test.false)) c.loop-w.invariant refl
