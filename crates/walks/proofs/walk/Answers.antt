use Prim.Native.Nat.{◌-◌}
use mathlib.Core.Path.{◌≡◌, refl, ap₂, ◌∙◌}
use native.Mathlib.Omega.{arith}
use Rattle.semantics.specs.Search.{in_use}
use Rattle.simulation.specs.Path.{returned, failed, cut, turn}
use Rattle.simulation.specs.Measure.{turns_left}
use Rattle.intervals.specs.Meaning.{of_window}
use Rattle.machine.specs.Memory.{machine_at}
use Rattle.machine.specs.Terms.{meant}
use Rattle.paths.specs.declared.Turned.TheVariants as Turned
use Rattle.paths.specs.Point.{state_at}
use Rattle.known_steps.proofs.Passing.{turns-nearer}
use Rattle.walks.proofs.Checkpoints.{kept-machine, kept-state}
use Rattle.walks.proofs.Walking.{turned_as, spare, begins-so, reaches-passed, reaches-kept, reaches-on, pays-none, pays-one, nearer, reaches-spent, reaches_end}
use Rattle.walks.proofs.walk.Goals as goal

pub loop-o-init : goal.loop-o-init
loop-o-init c =
    let x = c.args.code.now in
    (begins-so x (of_window c.args.job) c.args.stack.limit c.args.budget (machine_at c.args.mem.now c.args.begins.run) (state_at c.args.mem.now c.args.begins) c.args.mem.now c.args.begins c.args.stack c.requires.0 refl refl refl, refl)

pub keep-s-requires : goal.keep-s-requires
keep-s-requires c =
    let x = c.args.code.now in
    let job = of_window c.args.job in
    let y = machine_at c.args.mem.now c.args.begins.run in
    let z = state_at c.args.mem.now c.args.begins in
    let r = reaches-passed x job c.args.stack.limit c.args.budget y z c.loop-o.mem c.pass-passed.new.mem c.loop-o.p c.pass-passed.result.point c.loop-o.s c.loop-o.left c.pass-passed.result.left c.loop-o.invariant.0 c.pass-passed.ensures in
    let h = spare x job c.pass-passed.new.mem c.pass-passed.result.point c.loop-o.s r.stands in
    (r.stands.going, h.0, h.1, h.2, h.3)

pub turn-requires : goal.turn-requires
turn-requires c =
    let x = c.args.code.now in
    let job = of_window c.args.job in
    let y = machine_at c.args.mem.now c.args.begins.run in
    let z = state_at c.args.mem.now c.args.begins in
    let r = reaches-passed x job c.args.stack.limit c.args.budget y z c.loop-o.mem c.pass-passed.new.mem c.loop-o.p c.pass-passed.result.point c.loop-o.s c.loop-o.left c.pass-passed.result.left c.loop-o.invariant.0 c.pass-passed.ensures in
    let r₁ = reaches-kept x job c.args.stack.limit c.args.budget y z c.pass-passed.new.mem c.keep-s.new.mem c.pass-passed.result.point c.loop-o.s c.keep-s.result c.pass-passed.result.left c.keep-s.auto.mem r c.keep-s.ensures in
    (r₁.stands.going, c.requires.1)

pub returns-then-left-eq0 : goal.returns-then-left-eq0
returns-then-left-eq0 c =
    let x = c.args.code.now in
    let job = of_window c.args.job in
    let y = machine_at c.args.mem.now c.args.begins.run in
    let z = state_at c.args.mem.now c.args.begins in
    let r = reaches-passed x job c.args.stack.limit c.args.budget y z c.loop-o.mem c.pass-passed.new.mem c.loop-o.p c.pass-passed.result.point c.loop-o.s c.loop-o.left c.pass-passed.result.left c.loop-o.invariant.0 c.pass-passed.ensures in
    let r₁ = reaches-kept x job c.args.stack.limit c.args.budget y z c.pass-passed.new.mem c.keep-s.new.mem c.pass-passed.result.point c.loop-o.s c.keep-s.result c.pass-passed.result.left c.keep-s.auto.mem r c.keep-s.ensures in
    let here = turn in_use job x (machine_at c.keep-s.new.mem c.pass-passed.result.point.run) (state_at c.keep-s.new.mem c.pass-passed.result.point) in
    let g = turned_as here c.turn.new.mem c.pass-passed.result.point c.turn.result (Turned.On c.in-On.o c.in-On.q) c.in-On.is c.turn.ensures.0 in
    reaches-spent x job c.args.stack.limit c.args.budget y z c.keep-s.new.mem c.turn.new.mem c.pass-passed.result.point c.keep-s.result c.pass-passed.result.left r₁ c.in-On.q c.in-On.o g.0 c.if-o.true c.if-left-eq0.true

pub loop-o-smaller-else-left-eq0 : goal.loop-o-smaller-else-left-eq0
loop-o-smaller-else-left-eq0 c =
    let x = c.args.code.now in
    let job = of_window c.args.job in
    let y = machine_at c.args.mem.now c.args.begins.run in
    let z = state_at c.args.mem.now c.args.begins in
    let r = reaches-passed x job c.args.stack.limit c.args.budget y z c.loop-o.mem c.pass-passed.new.mem c.loop-o.p c.pass-passed.result.point c.loop-o.s c.loop-o.left c.pass-passed.result.left c.loop-o.invariant.0 c.pass-passed.ensures in
    let r₁ = reaches-kept x job c.args.stack.limit c.args.budget y z c.pass-passed.new.mem c.keep-s.new.mem c.pass-passed.result.point c.loop-o.s c.keep-s.result c.pass-passed.result.left c.keep-s.auto.mem r c.keep-s.ensures in
    let here = turn in_use job x (machine_at c.keep-s.new.mem c.pass-passed.result.point.run) (state_at c.keep-s.new.mem c.pass-passed.result.point) in
    let g = turned_as here c.turn.new.mem c.pass-passed.result.point c.turn.result (Turned.On c.in-On.o c.in-On.q) c.in-On.is c.turn.ensures.0 in
    let deep = r.stands.going.ready.deep in
    let e : turns_left x (machine_at c.keep-s.new.mem c.pass-passed.result.point.run) (state_at c.keep-s.new.mem c.pass-passed.result.point) ≡ turns_left x (machine_at c.pass-passed.new.mem c.pass-passed.result.point.run) (state_at c.pass-passed.new.mem c.pass-passed.result.point) = ap₂ (turns_left x) (kept-machine c.args.code.now c.pass-passed.new.mem c.keep-s.new.mem c.pass-passed.result.point deep c.loop-o.s c.keep-s.result c.keep-s.ensures) (kept-state c.args.code.now c.pass-passed.new.mem c.keep-s.new.mem c.pass-passed.result.point deep c.loop-o.s c.keep-s.result c.keep-s.ensures) in
    omega (arith, e, nearer x job c.args.stack.limit c.args.budget y z c.keep-s.new.mem c.turn.new.mem c.pass-passed.result.point c.keep-s.result c.pass-passed.result.left r₁ c.in-On.q c.in-On.o g.0, turns-nearer x c.loop-o.mem c.loop-o.p c.loop-o.invariant.0.stands.going c.pass-passed.new.mem c.pass-passed.result.point c.pass-passed.ensures.turns)

pub loop-o-preserved-else-left-eq0 : goal.loop-o-preserved-else-left-eq0
loop-o-preserved-else-left-eq0 c =
    let x = c.args.code.now in
    let job = of_window c.args.job in
    let y = machine_at c.args.mem.now c.args.begins.run in
    let z = state_at c.args.mem.now c.args.begins in
    let r = reaches-passed x job c.args.stack.limit c.args.budget y z c.loop-o.mem c.pass-passed.new.mem c.loop-o.p c.pass-passed.result.point c.loop-o.s c.loop-o.left c.pass-passed.result.left c.loop-o.invariant.0 c.pass-passed.ensures in
    let r₁ = reaches-kept x job c.args.stack.limit c.args.budget y z c.pass-passed.new.mem c.keep-s.new.mem c.pass-passed.result.point c.loop-o.s c.keep-s.result c.pass-passed.result.left c.keep-s.auto.mem r c.keep-s.ensures in
    let here = turn in_use job x (machine_at c.keep-s.new.mem c.pass-passed.result.point.run) (state_at c.keep-s.new.mem c.pass-passed.result.point) in
    let g = turned_as here c.turn.new.mem c.pass-passed.result.point c.turn.result (Turned.On c.in-On.o c.in-On.q) c.in-On.is c.turn.ensures.0 in
    (reaches-on x job c.args.stack.limit c.args.budget y z c.keep-s.new.mem c.turn.new.mem c.pass-passed.result.point c.keep-s.result c.pass-passed.result.left r₁ c.in-On.q c.in-On.o (c.pass-passed.result.left - 1) g.0 g.1 c.turn.ensures.1 c.turn.auto.mem (omega (arith, r.rest)) (pays-one c.args.budget c.pass-passed.result.left c.in-On.o c.if-o.true (omega (arith, c.if-left-eq0.false)) r.rest), c.turn.auto.mem ∙ c.keep-s.auto.mem ∙ c.pass-passed.auto.mem ∙ c.loop-o.invariant.1)

pub loop-o-smaller : goal.loop-o-smaller
loop-o-smaller c =
    let x = c.args.code.now in
    let job = of_window c.args.job in
    let y = machine_at c.args.mem.now c.args.begins.run in
    let z = state_at c.args.mem.now c.args.begins in
    let r = reaches-passed x job c.args.stack.limit c.args.budget y z c.loop-o.mem c.pass-passed.new.mem c.loop-o.p c.pass-passed.result.point c.loop-o.s c.loop-o.left c.pass-passed.result.left c.loop-o.invariant.0 c.pass-passed.ensures in
    let r₁ = reaches-kept x job c.args.stack.limit c.args.budget y z c.pass-passed.new.mem c.keep-s.new.mem c.pass-passed.result.point c.loop-o.s c.keep-s.result c.pass-passed.result.left c.keep-s.auto.mem r c.keep-s.ensures in
    let here = turn in_use job x (machine_at c.keep-s.new.mem c.pass-passed.result.point.run) (state_at c.keep-s.new.mem c.pass-passed.result.point) in
    let g = turned_as here c.turn.new.mem c.pass-passed.result.point c.turn.result (Turned.On c.in-On.o c.in-On.q) c.in-On.is c.turn.ensures.0 in
    let deep = r.stands.going.ready.deep in
    let e : turns_left x (machine_at c.keep-s.new.mem c.pass-passed.result.point.run) (state_at c.keep-s.new.mem c.pass-passed.result.point) ≡ turns_left x (machine_at c.pass-passed.new.mem c.pass-passed.result.point.run) (state_at c.pass-passed.new.mem c.pass-passed.result.point) = ap₂ (turns_left x) (kept-machine c.args.code.now c.pass-passed.new.mem c.keep-s.new.mem c.pass-passed.result.point deep c.loop-o.s c.keep-s.result c.keep-s.ensures) (kept-state c.args.code.now c.pass-passed.new.mem c.keep-s.new.mem c.pass-passed.result.point deep c.loop-o.s c.keep-s.result c.keep-s.ensures) in
    omega (arith, e, nearer x job c.args.stack.limit c.args.budget y z c.keep-s.new.mem c.turn.new.mem c.pass-passed.result.point c.keep-s.result c.pass-passed.result.left r₁ c.in-On.q c.in-On.o g.0, turns-nearer x c.loop-o.mem c.loop-o.p c.loop-o.invariant.0.stands.going c.pass-passed.new.mem c.pass-passed.result.point c.pass-passed.ensures.turns)

pub loop-o-preserved : goal.loop-o-preserved
loop-o-preserved c =
    let x = c.args.code.now in
    let job = of_window c.args.job in
    let y = machine_at c.args.mem.now c.args.begins.run in
    let z = state_at c.args.mem.now c.args.begins in
    let r = reaches-passed x job c.args.stack.limit c.args.budget y z c.loop-o.mem c.pass-passed.new.mem c.loop-o.p c.pass-passed.result.point c.loop-o.s c.loop-o.left c.pass-passed.result.left c.loop-o.invariant.0 c.pass-passed.ensures in
    let r₁ = reaches-kept x job c.args.stack.limit c.args.budget y z c.pass-passed.new.mem c.keep-s.new.mem c.pass-passed.result.point c.loop-o.s c.keep-s.result c.pass-passed.result.left c.keep-s.auto.mem r c.keep-s.ensures in
    let here = turn in_use job x (machine_at c.keep-s.new.mem c.pass-passed.result.point.run) (state_at c.keep-s.new.mem c.pass-passed.result.point) in
    let g = turned_as here c.turn.new.mem c.pass-passed.result.point c.turn.result (Turned.On c.in-On.o c.in-On.q) c.in-On.is c.turn.ensures.0 in
    (reaches-on x job c.args.stack.limit c.args.budget y z c.keep-s.new.mem c.turn.new.mem c.pass-passed.result.point c.keep-s.result c.pass-passed.result.left r₁ c.in-On.q c.in-On.o c.pass-passed.result.left g.0 g.1 c.turn.ensures.1 c.turn.auto.mem r.rest (pays-none c.args.budget c.pass-passed.result.left c.in-On.o c.if-o.false), c.turn.auto.mem ∙ c.keep-s.auto.mem ∙ c.pass-passed.auto.mem ∙ c.loop-o.invariant.1)

pub returns-in-Returned : goal.returns-in-Returned
returns-in-Returned c =
    let x = c.args.code.now in
    let job = of_window c.args.job in
    let y = machine_at c.args.mem.now c.args.begins.run in
    let z = state_at c.args.mem.now c.args.begins in
    let r = reaches-passed x job c.args.stack.limit c.args.budget y z c.loop-o.mem c.pass-passed.new.mem c.loop-o.p c.pass-passed.result.point c.loop-o.s c.loop-o.left c.pass-passed.result.left c.loop-o.invariant.0 c.pass-passed.ensures in
    let r₁ = reaches-kept x job c.args.stack.limit c.args.budget y z c.pass-passed.new.mem c.keep-s.new.mem c.pass-passed.result.point c.loop-o.s c.keep-s.result c.pass-passed.result.left c.keep-s.auto.mem r c.keep-s.ensures in
    let here = turn in_use job x (machine_at c.keep-s.new.mem c.pass-passed.result.point.run) (state_at c.keep-s.new.mem c.pass-passed.result.point) in
    let g = turned_as here c.turn.new.mem c.pass-passed.result.point c.turn.result (Turned.Returned c.in-Returned.v) c.in-Returned.is c.turn.ensures.0 in
    (reaches_end x job c.args.stack.limit c.args.budget y z c.keep-s.new.mem c.turn.new.mem c.pass-passed.result.point c.keep-s.result c.pass-passed.result.left r₁ (returned (meant c.turn.new.mem c.pass-passed.result.point.run.nodes c.in-Returned.v)) g.0.stops c.turn.ensures.1 c.turn.auto.mem, g.0.usable)

pub returns-in-Failed : goal.returns-in-Failed
returns-in-Failed c =
    let x = c.args.code.now in
    let job = of_window c.args.job in
    let y = machine_at c.args.mem.now c.args.begins.run in
    let z = state_at c.args.mem.now c.args.begins in
    let r = reaches-passed x job c.args.stack.limit c.args.budget y z c.loop-o.mem c.pass-passed.new.mem c.loop-o.p c.pass-passed.result.point c.loop-o.s c.loop-o.left c.pass-passed.result.left c.loop-o.invariant.0 c.pass-passed.ensures in
    let r₁ = reaches-kept x job c.args.stack.limit c.args.budget y z c.pass-passed.new.mem c.keep-s.new.mem c.pass-passed.result.point c.loop-o.s c.keep-s.result c.pass-passed.result.left c.keep-s.auto.mem r c.keep-s.ensures in
    let here = turn in_use job x (machine_at c.keep-s.new.mem c.pass-passed.result.point.run) (state_at c.keep-s.new.mem c.pass-passed.result.point) in
    let g = turned_as here c.turn.new.mem c.pass-passed.result.point c.turn.result Turned.Failed c.in-Failed.is c.turn.ensures.0 in
    (reaches_end x job c.args.stack.limit c.args.budget y z c.keep-s.new.mem c.turn.new.mem c.pass-passed.result.point c.keep-s.result c.pass-passed.result.left r₁ failed g.0 c.turn.ensures.1 c.turn.auto.mem, tt)

pub returns-in-Cut : goal.returns-in-Cut
returns-in-Cut c =
    let x = c.args.code.now in
    let job = of_window c.args.job in
    let y = machine_at c.args.mem.now c.args.begins.run in
    let z = state_at c.args.mem.now c.args.begins in
    let r = reaches-passed x job c.args.stack.limit c.args.budget y z c.loop-o.mem c.pass-passed.new.mem c.loop-o.p c.pass-passed.result.point c.loop-o.s c.loop-o.left c.pass-passed.result.left c.loop-o.invariant.0 c.pass-passed.ensures in
    let r₁ = reaches-kept x job c.args.stack.limit c.args.budget y z c.pass-passed.new.mem c.keep-s.new.mem c.pass-passed.result.point c.loop-o.s c.keep-s.result c.pass-passed.result.left c.keep-s.auto.mem r c.keep-s.ensures in
    let here = turn in_use job x (machine_at c.keep-s.new.mem c.pass-passed.result.point.run) (state_at c.keep-s.new.mem c.pass-passed.result.point) in
    let g = turned_as here c.turn.new.mem c.pass-passed.result.point c.turn.result Turned.Cut c.in-Cut.is c.turn.ensures.0 in
    (reaches_end x job c.args.stack.limit c.args.budget y z c.keep-s.new.mem c.turn.new.mem c.pass-passed.result.point c.keep-s.result c.pass-passed.result.left r₁ cut g.0 c.turn.ensures.1 c.turn.auto.mem, tt)
