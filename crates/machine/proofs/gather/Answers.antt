use Prim.Native.Nat.{ℕ}
use mathlib.Core.Path.{subst}
use native.Mathlib.Omega.{arith}
use Rattle.machine.specs.Terms.{Gathering}
use Rattle.machine.proofs.Arguments.{gathering-none, gathering-all, gathering-turn, gathering-skip}
use Rattle.machine.proofs.gather.Goals as goal

pub loop-k-init : goal.loop-k-init
loop-k-init c =
    gathering-none c.args.code.now c.args.mem.now c.args.run c.args.n c.requires.1 c.blank.new.mem c.requires.0 (omega (arith, c.blank.auto.mem)) c.blank.ensures

pub loop-k-preserved-then-k-lt-CELLS : goal.loop-k-preserved-then-k-lt-CELLS
loop-k-preserved-then-k-lt-CELLS c =
    gathering-turn c.args.code.now c.blank.new.mem c.args.run c.args.n c.requires.1 c.loop-k.mem c.saturating_sub-e.result c.take-t.result.value c.loop-k.top c.take-t.result.top c.extent-d.result c.saturating_sub-j.result
    c.take-t.ensures c.extent-d.ensures c.saturating_sub-j.ensures
    c.put.new.mem c.loop-k.k c.loop-k.j c.loop-k-test.true c.saturating_sub-e.ensures c.loop-k.invariant
    c.if-k-lt-CELLS.true (omega (arith, c.put.auto.mem)) c.put.ensures

pub loop-k-preserved : goal.loop-k-preserved
loop-k-preserved c =
    gathering-skip c.args.code.now c.blank.new.mem c.args.run c.args.n c.requires.1 c.loop-k.mem c.saturating_sub-e.result c.take-t.result.value c.loop-k.top c.take-t.result.top c.extent-d.result c.saturating_sub-j.result
    c.take-t.ensures c.extent-d.ensures c.saturating_sub-j.ensures
    c.loop-k.k c.loop-k.j c.loop-k-test.true c.saturating_sub-e.ensures c.loop-k.invariant c.if-k-lt-CELLS.false

pub returns : goal.returns
returns c =
    gathering-all c.args.code.now c.args.mem.now c.args.run c.args.n c.requires.1 c.blank.new.mem c.loop-k.mem c.loop-k.j c.loop-k.top c.requires.0 (omega (arith, c.blank.auto.mem)) c.blank.ensures
    (subst (λ (i : ℕ). Gathering c.args.code.now c.blank.new.mem c.loop-k.mem c.args.run c.args.n i c.loop-k.j c.loop-k.top) (omega (arith, c.loop-k-test.false)) c.loop-k.invariant)
