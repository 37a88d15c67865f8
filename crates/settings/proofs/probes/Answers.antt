use Rattle.std.specs.Prelude.{Ok, Err}
use Rattle.settings.specs.declared.Stopped.TheVariants.{Spent}
use Rattle.settings.proofs.Loops.{some-setting, no-setting, cutting-none, cutting-before, cutting-met, cutting-end, cutting-spent, cutting-all}
use Rattle.settings.proofs.probes.Goals as goal
use Rattle.settings.proofs.probes.Goals.{then-t-via-then-t, then-t-via-else-t+then-not-filled}

pub returns-then-t : goal.returns-then-t
returns-then-t c = elim c.then-t.branch [
  | then-t-via-then-t w ↦ cutting-before c.args.mem.now c.args.nodes c.args.tests c.args.k c.args.t w.if-t.true
  | then-t-via-else-t+then-not-filled w ↦ cutting-none c.args.mem.now c.args.nodes c.args.tests c.args.k c.args.t (no-setting w.filled.ensures w.if-not-filled.true)
]

pub returns-in-Met : goal.returns-in-Met
returns-in-Met c =
    let h = some-setting c.filled.ensures c.if-not-filled.false in
    cutting-all c.args.mem.now c.first_setting.new.mem c.seek.new.mem c.args.nodes c.args.tests c.args.k c.args.t (Ok c.with_cut.result) c.requires.0.few c.first_setting.ensures
    (cutting-met c.args.mem.now c.first_setting.new.mem c.args.nodes c.args.tests c.args.k c.args.t c.requires.0.few c.first_setting.ensures h c.if-t.false c.plan_of-p.result.upto c.plan_of-p.ensures.front c.seek.new.mem c.seek.result c.seek.ensures.0 c.seek.ensures.1 c.in-Met.left c.in-Met.is c.leaving.result c.with_cut.result c.leaving.ensures c.with_cut.ensures)

pub returns-in-Over : goal.returns-in-Over
returns-in-Over c =
    let h = some-setting c.filled.ensures c.if-not-filled.false in
    cutting-all c.args.mem.now c.first_setting.new.mem c.seek.new.mem c.args.nodes c.args.tests c.args.k c.args.t (Ok c.leaving-in-Over.result) c.requires.0.few c.first_setting.ensures
    (cutting-end c.args.mem.now c.first_setting.new.mem c.args.nodes c.args.tests c.args.k c.args.t c.requires.0.few c.first_setting.ensures h c.if-t.false c.plan_of-p.result.upto c.plan_of-p.ensures.front c.seek.new.mem c.seek.result c.seek.ensures.0 c.seek.ensures.1 c.in-Over.left c.in-Over.is c.leaving-in-Over.result c.leaving-in-Over.ensures)

pub returns-in-Out : goal.returns-in-Out
returns-in-Out c =
    let h = some-setting c.filled.ensures c.if-not-filled.false in
    cutting-all c.args.mem.now c.first_setting.new.mem c.seek.new.mem c.args.nodes c.args.tests c.args.k c.args.t (Err (Spent c.leaving-in-Out.result)) c.requires.0.few c.first_setting.ensures
    (cutting-spent c.args.mem.now c.first_setting.new.mem c.args.nodes c.args.tests c.args.k c.args.t c.requires.0.few c.first_setting.ensures h c.if-t.false c.plan_of-p.result.upto c.plan_of-p.ensures.front c.seek.new.mem c.seek.result c.seek.ensures.0 c.seek.ensures.1 c.in-Out.is c.leaving-in-Out.result c.leaving-in-Out.ensures)
