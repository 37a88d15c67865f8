use Rattle.std.specs.Prelude.{Ok, Err}
use Prim.Native.Nat.{◌+◌, ◌*◌, ◌≤◌}
use mathlib.Core.Path.{refl, subst, sym}
use mathlib.Core.Bool.{Bool}
use native.Mathlib.Omega.{arith}
use lib.ListN.{length}
use Rattle.machine.specs.Terms.{cell_of}
use Rattle.std.proofs.lemmas.Result.{err_from_is_err_and}
use Rattle.settings.specs.declared.Tally.{Tally}
use Rattle.settings.specs.declared.Stopped.TheVariants.{Spent}
use Rattle.settings.specs.Table.{Follows}
use Rattle.settings.proofs.Loops.{some-setting, no-setting, trialling-none, fair-more, trialling-first, trialling-over, trialling-next, trialling-last, trialling-all, met-worked, trialling-met, trialling-row, trialling-end, trialling-spent}
use Rattle.settings.proofs.trials.Goals as goal

pub returns-then-not-filled : goal.returns-then-not-filled
returns-then-not-filled c =
    trialling-none c.args.mem.now c.args.nodes c.args.tests c.args.k (cell_of c.args.v) c.args.rows.now c.args.t (no-setting c.filled.ensures c.if-not-filled.true)

pub loop-left-init : goal.loop-left-init
loop-left-init c =
    trialling-first c.args.mem.now c.first_setting.new.mem c.args.nodes c.args.tests c.args.k (cell_of c.args.v) c.args.rows.now c.args.t c.requires.0.few
    c.first_setting.ensures (some-setting c.filled.ensures c.if-not-filled.false)

pub found-requires : goal.found-requires
found-requires c = (
  c.requires.0.few,
  record { words = omega (arith, c.requires.0.nodes.words, c.loop-left.invariant.size, c.loop-left.invariant.sheet, c.first_setting.auto.mem, c.seek.auto.mem); small = c.requires.0.nodes.small },
  met-worked c.requires.0.few c.loop-left.invariant c.plan_of-p.result.upto c.plan_of-p.ensures.front c.seek.new.mem c.seek.result c.seek.ensures.0 c.seek.ensures.1 c.in-Met.left c.in-Met.is,
  subst (λ (u : Tally). 10 * (u.written + u.room) ≤ length c.loop-left.rows) (sym c.leaving.ensures) (fair-more (length c.args.rows.now) (length c.loop-left.rows) c.loop-left.invariant.sheet c.requires.1 c.loop-left.invariant.tries.counts).place,
)

pub returns-then-not-next_setting : goal.returns-then-not-next_setting
returns-then-not-next_setting c =
    let p₁ = trialling-met c.requires.0.few c.loop-left.invariant c.plan_of-p.result.upto c.plan_of-p.ensures.front c.seek.new.mem c.seek.result c.seek.ensures.0 c.seek.ensures.1 c.in-Met.left c.in-Met.is c.seek.auto.mem in
    let q = trialling-row c.requires.0.few c.loop-left.invariant c.plan_of-p.result.upto c.plan_of-p.ensures.front c.seek.new.mem c.seek.result c.seek.ensures.0 c.seek.ensures.1 c.in-Met.left c.in-Met.is c.found.new.rows c.leaving.result c.leaving.ensures c.found.result c.found.ensures.0 in
    let n = subst (λ (b : Bool). Follows c.found.new.mem c.next_setting.new.mem c.args.k b) c.if-not-next_setting.true c.next_setting.ensures in
    trialling-all c.args.mem.now c.first_setting.new.mem c.next_setting.new.mem c.args.nodes c.args.tests c.args.k (cell_of c.args.v) c.args.rows.now c.found.new.rows c.args.t (Ok c.in_ok-u-in-Met.u) c.requires.0.few c.first_setting.ensures
    (trialling-last c.requires.0.few p₁ c.found.new.mem c.found.new.rows c.found.result q c.found.ensures.1 c.next_setting.new.mem c.in_ok-u-in-Met.u c.in_ok-u-in-Met.was n)

pub loop-left-preserved : goal.loop-left-preserved
loop-left-preserved c =
    let p₁ = trialling-met c.requires.0.few c.loop-left.invariant c.plan_of-p.result.upto c.plan_of-p.ensures.front c.seek.new.mem c.seek.result c.seek.ensures.0 c.seek.ensures.1 c.in-Met.left c.in-Met.is c.seek.auto.mem in
    let q = trialling-row c.requires.0.few c.loop-left.invariant c.plan_of-p.result.upto c.plan_of-p.ensures.front c.seek.new.mem c.seek.result c.seek.ensures.0 c.seek.ensures.1 c.in-Met.left c.in-Met.is c.found.new.rows c.leaving.result c.leaving.ensures c.found.result c.found.ensures.0 in
    let n = subst (λ (b : Bool). Follows c.found.new.mem c.next_setting.new.mem c.args.k b) c.if-not-next_setting.false c.next_setting.ensures in
    trialling-next c.requires.0.few p₁ c.found.new.mem c.found.new.rows c.found.result q c.found.ensures.1 c.next_setting.new.mem c.in_ok-u-in-Met.u c.in_ok-u-in-Met.was n (omega (arith, c.next_setting.auto.mem, c.found.auto.mem)) c.found.auto.rows

pub returns-in_err-u-in-Met : goal.returns-in_err-u-in-Met
returns-in_err-u-in-Met c =
    let p₁ = trialling-met c.requires.0.few c.loop-left.invariant c.plan_of-p.result.upto c.plan_of-p.ensures.front c.seek.new.mem c.seek.result c.seek.ensures.0 c.seek.ensures.1 c.in-Met.left c.in-Met.is c.seek.auto.mem in
    let q = trialling-row c.requires.0.few c.loop-left.invariant c.plan_of-p.result.upto c.plan_of-p.ensures.front c.seek.new.mem c.seek.result c.seek.ensures.0 c.seek.ensures.1 c.in-Met.left c.in-Met.is c.found.new.rows c.leaving.result c.leaving.ensures c.found.result c.found.ensures.0 in
    let e = c.in_err-u-in-Met.field-0.0 in
    let f = err_from_is_err_and c.from_residual.result c.from_residual.ensures.1 in
    rw (f.1, f.2)
    (trialling-all c.args.mem.now c.first_setting.new.mem c.found.new.mem c.args.nodes c.args.tests c.args.k (cell_of c.args.v) c.args.rows.now c.found.new.rows c.args.t (Err e) c.requires.0.few c.first_setting.ensures
    (trialling-over c.requires.0.few p₁ c.found.new.mem c.found.new.rows c.found.result q c.found.ensures.1 (Err e) c.in_err-u-in-Met.was refl))

pub returns-in-Over : goal.returns-in-Over
returns-in-Over c =
    trialling-all c.args.mem.now c.first_setting.new.mem c.seek.new.mem c.args.nodes c.args.tests c.args.k (cell_of c.args.v) c.args.rows.now c.loop-left.rows c.args.t (Ok c.leaving-in-Over.result) c.requires.0.few c.first_setting.ensures
    (trialling-end c.requires.0.few c.loop-left.invariant c.plan_of-p.result.upto c.plan_of-p.ensures.front c.seek.new.mem c.seek.result c.seek.ensures.0 c.seek.ensures.1 c.in-Over.left c.in-Over.is c.leaving-in-Over.result c.leaving-in-Over.ensures)

pub returns-in-Out : goal.returns-in-Out
returns-in-Out c =
    trialling-all c.args.mem.now c.first_setting.new.mem c.seek.new.mem c.args.nodes c.args.tests c.args.k (cell_of c.args.v) c.args.rows.now c.loop-left.rows c.args.t (Err (Spent c.leaving-in-Out.result)) c.requires.0.few c.first_setting.ensures
    (trialling-spent c.requires.0.few c.loop-left.invariant c.plan_of-p.result.upto c.plan_of-p.ensures.front c.seek.new.mem c.seek.result c.seek.ensures.0 c.seek.ensures.1 c.in-Out.is c.leaving-in-Out.result c.leaving-in-Out.ensures)
