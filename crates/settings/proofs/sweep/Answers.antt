use Prim.Native.Nat.{◌-◌}
use native.Mathlib.Omega.{arith}
use Rattle.settings.proofs.Pass.{worked-less}
use Rattle.settings.proofs.Planning.{apart-steady}
use Rattle.settings.proofs.Seeking.{sees-first, sees-short, sees-steady, sees-here, sees-top, sees-rose}
use Rattle.settings.proofs.sweep.Goals as goal

pub loop-left-init : goal.loop-left-init
loop-left-init c =
    sees-first c.args.mem.now c.args.plan.upto c.args.tests c.args.k c.args.most c.args.plan.first c.requires.3

pub returns-then-meets : goal.returns-then-meets
returns-then-meets c = sees-here c.loop-left.invariant c.requires.0.few c.loop-left-test.true c.work.new.mem c.work.ensures.0 c.work.ensures.1 c.meets.result c.meets.ensures c.if-meets.true

pub returns-then-not-can_rise : goal.returns-then-not-can_rise
returns-then-not-can_rise c = sees-top c.loop-left.invariant c.requires.0.few c.loop-left-test.true c.work.new.mem c.work.ensures.0 c.work.ensures.1 c.meets.result c.meets.ensures c.if-meets.false

pub rise-requires : goal.rise-requires
rise-requires c =
    record {
      some = c.can_rise.ensures.some c.if-not-can_rise.false;
      few = c.requires.0.few;
      room = record { words = omega (arith, c.requires.0.nodes.words, c.loop-left.invariant.size, c.work.auto.mem, c.requires.2); small = omega (arith, c.requires.0.nodes.small, c.requires.2) };
      below = c.can_rise.ensures.below c.if-not-can_rise.false;
      apart = apart-steady c.args.mem.now c.work.new.mem (c.args.k - 1) c.args.plan.moving c.args.plan.first (sees-steady c.loop-left.invariant c.requires.0.few c.loop-left-test.true c.work.new.mem c.work.ensures.0 c.work.ensures.1) c.requires.1;
      worked = worked-less c.work.new.mem c.args.plan.upto c.args.plan.first c.args.k c.requires.2 c.work.ensures.0;
    }

pub loop-left-preserved : goal.loop-left-preserved
loop-left-preserved c = sees-rose c.loop-left.invariant c.requires.0.few c.loop-left-test.true c.work.new.mem c.work.ensures.0 c.work.ensures.1 c.meets.result c.meets.ensures c.if-meets.false c.rise.new.mem c.args.plan.first c.rise.ensures (omega (arith, c.work.auto.mem, c.rise.auto.mem))

pub returns : goal.returns
returns c = sees-short c.loop-left.invariant (omega arith)
