use mathlib.Core.Path.{refl, ap}
use native.Mathlib.Omega.{arith}
use Rattle.paths.specs.declared.Point.{Point}
use Rattle.known_steps.proofs.Making.{one-both}
use Rattle.known_steps.proofs.Working.{op-left}
use Rattle.known_steps.proofs.work.Goals as goal

pub assign-requires : goal.assign-requires
assign-requires c =
    let h = op-left c.args.code.now c.args.mem.now c.args.p c.requires.0 c.args.op c.args.d c.requires.2 (omega (arith, c.requires.3)) c.in_ok-b.b.left c.in_ok-b.b.right c.in_ok-b.b.top c.in_ok-b.ensures
    c.operate-v.result (omega (arith, c.operate-v.type_inv)) c.operate-v.ensures c.put.new.mem c.put.auto.mem c.put.ensures c.spend-next.result c.spend-next.ensures in
    (h.0.going, h.1)

pub returns : goal.returns
returns c =
    let h = op-left c.args.code.now c.args.mem.now c.args.p c.requires.0 c.args.op c.args.d c.requires.2 (omega (arith, c.requires.3)) c.in_ok-b.b.left c.in_ok-b.b.right c.in_ok-b.b.top c.in_ok-b.ensures
    c.operate-v.result (omega (arith, c.operate-v.type_inv)) c.operate-v.ensures c.put.new.mem c.put.auto.mem c.put.ensures c.spend-next.result c.spend-next.ensures in
    one-both c.args.code.now c.args.mem.now c.assign.new.mem c.args.p c.args.floor c.assign.result c.assign.result refl (c.assign.ensures.0 c.args.mem.now c.args.p h.0) (omega (arith, c.requires.3, c.assign.ensures.1, ap (λ (x : Point). x.steps) c.spend-next.ensures))
