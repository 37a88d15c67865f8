use Rattle.std.proofs.Common.{sym, ap, ◌∙◌, zero-add, arith}
use Rattle.syntax.specs.NodeKinds.{node_number}
use Rattle.syntax.proofs.SameKinds.{same-node}
use Rattle.events.proofs.Counting.{rest-step, rest-none}
use Rattle.compiler.proofs.Leaves.{counts-functions}
use Rattle.compiler.proofs.Parts.{funs-length}
use Rattle.compiler.proofs.Resolved.functions.Goals as goal

pub loop-j-init : goal.loop-j-init
loop-j-init c = (omega arith, λ a h. record { tree = a; holds = h; same = sym (zero-add _) })

pub node-node-requires : goal.node-node-requires
node-node-requires c = omega (arith, c.loop-j.invariant.0, c.requires.room, c.requires.few)

pub returns-in_default : goal.returns-in_default
returns-in_default c = record { small = omega (arith, c.loop-j.invariant.0); is = λ value means a h. rest-none counts-functions (λ e. c.in_default.not-MoreFuns (same-node e)) c.node-node.ensures (c.loop-j.invariant.1 a h) ∙ sym (funs-length value means a) }

pub overflow_add-count : goal.overflow_add-count
overflow_add-count c = omega (arith, c.loop-j.invariant.0, c.requires.few)

pub loop-j-smaller : goal.loop-j-smaller
loop-j-smaller c = (rest-step counts-functions (ap node_number c.in-MoreFuns.is) c.node-node.ensures (c.loop-j.invariant.1 c.requires.tree c.requires.holds)).0

pub loop-j-preserved : goal.loop-j-preserved
loop-j-preserved c =
    let w = (rest-step counts-functions (ap node_number c.in-MoreFuns.is) c.node-node.ensures (c.loop-j.invariant.1 c.requires.tree c.requires.holds)).0 in
    (omega (arith, w, c.loop-j.invariant.0), λ a h. (rest-step counts-functions (ap node_number c.in-MoreFuns.is) c.node-node.ensures (c.loop-j.invariant.1 a h)).1)
