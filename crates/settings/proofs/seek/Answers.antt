use mathlib.Core.Path.{subst}
use mathlib.Core.Bool.{Bool}
use native.Mathlib.Omega.{arith}
use Rattle.settings.specs.Table.{Follows}
use Rattle.settings.proofs.Pass.{worked-none}
use Rattle.settings.proofs.Seeking.{sees-first, sees-met, sees-none, sees-over, sees-next, sees-out}
use Rattle.settings.proofs.seek.Goals as goal

pub loop-left-init : goal.loop-left-init
loop-left-init c =
    sees-first c.args.mem.now c.args.plan.upto c.args.tests c.args.k c.args.most 0 (worked-none c.args.mem.now c.args.k)

pub returns-in-Here : goal.returns-in-Here
returns-in-Here c =
    sees-met c.loop-left.invariant c.requires.0.few c.work.new.mem c.work.ensures.1 c.sweep.new.mem c.sweep.result c.sweep.ensures.0 c.sweep.ensures.1 c.in-Here.n c.in-Here.is

pub returns-then-not-next_setting : goal.returns-then-not-next_setting
returns-then-not-next_setting c =
    sees-over c.loop-left.invariant c.requires.0.few c.work.new.mem c.work.ensures.1 c.sweep.new.mem c.sweep.result c.sweep.ensures.0 c.sweep.ensures.1 c.next_setting.new.mem c.in-Top.n c.in-Top.is (subst (λ (b : Bool). Follows c.sweep.new.mem c.next_setting.new.mem c.args.k b) c.if-not-next_setting.true c.next_setting.ensures)

pub loop-left-preserved : goal.loop-left-preserved
loop-left-preserved c =
    sees-next c.loop-left.invariant c.requires.0.few c.work.new.mem c.work.ensures.1 c.sweep.new.mem c.sweep.result c.sweep.ensures.0 c.sweep.ensures.1 c.next_setting.new.mem c.in-Top.n c.in-Top.is (subst (λ (b : Bool). Follows c.sweep.new.mem c.next_setting.new.mem c.args.k b) c.if-not-next_setting.false c.next_setting.ensures) (omega (arith, c.work.auto.mem, c.sweep.auto.mem, c.next_setting.auto.mem))

pub returns-in-Short : goal.returns-in-Short
returns-in-Short c =
    sees-none c.loop-left.invariant c.requires.0.few c.work.new.mem c.work.ensures.1 c.sweep.new.mem c.sweep.result c.sweep.ensures.0 c.sweep.ensures.1 c.in-Short.is

pub returns : goal.returns
returns c = sees-out c.loop-left.invariant (omega arith)
