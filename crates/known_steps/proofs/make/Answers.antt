use mathlib.Core.Path.{refl, sym, ◌∙◌, subst}
use mathlib.Core.List.{List}
use Prim.Native.Nat.{ℕ, ◌≤◌}
use Rattle.paths.specs.Point.{Going}
use Rattle.known_steps.specs.Turns.{Turns, none}
use Rattle.known_steps.proofs.Passing.{one-yes, one-nothing, both-nearer, both-going, both-on}
use Rattle.known_steps.proofs.make.Goals as goal

pub loop-next-init : goal.loop-next-init
loop-next-init c = (none refl refl, c.requires.0, c.requires.1, refl)

pub loop-next-smaller : goal.loop-next-smaller
loop-next-smaller c =
    let h = one-yes c.args.code.now c.loop-next.mem c.one.new.mem c.loop-next.p c.args.floor c.one.ensures c.in-Some.next c.in-Some.is in
    both-nearer c.args.code.now c.loop-next.mem c.one.new.mem c.loop-next.p c.in-Some.next c.loop-next.invariant.1 h.0

pub loop-next-preserved : goal.loop-next-preserved
loop-next-preserved c =
    let h = one-yes c.args.code.now c.loop-next.mem c.one.new.mem c.loop-next.p c.args.floor c.one.ensures c.in-Some.next c.in-Some.is in (
      both-on c.args.code.now c.args.mem.now c.loop-next.mem c.one.new.mem c.args.begins c.loop-next.p c.in-Some.next c.loop-next.invariant.0 h.0,
      both-going c.args.code.now c.loop-next.mem c.one.new.mem c.loop-next.p c.in-Some.next h.0,
      h.1,
      c.one.auto.mem ∙ c.loop-next.invariant.3,
    )

pub returns : goal.returns
returns c =
    let e = one-nothing c.args.code.now c.loop-next.mem c.one.new.mem c.loop-next.p c.args.floor c.one.ensures c.in_default.is in
    subst (λ (m : List ℕ). Turns c.args.code.now c.args.mem.now c.args.begins m c.loop-next.p × Going m c.loop-next.p × (c.args.floor ≤ c.loop-next.p.steps)) (sym e) (c.loop-next.invariant.0, c.loop-next.invariant.1, c.loop-next.invariant.2)
