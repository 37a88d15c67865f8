use mathlib.Core.Path.{sym, ap}
use native.Mathlib.Omega.{arith}
use denote.Enum.Bare.{differs_true, differs_false}
use Rattle.syntax.specs.NodeKinds.{node_number}
use Rattle.syntax.specs.declared.node.NodeKind.TheVariants as kind
use Rattle.syntax.specs.contracts.node.NodeKind.{the_type}
use Rattle.events.proofs.Counting.{rest-step, rest-none}
use Rattle.events.proofs.Nodes.{other}
use Rattle.assignment.proofs.Counting.{counts-parameters}
use Rattle.assignment.proofs.Walk.parameters.Goals as goal

pub returns-then-ne : goal.returns-then-ne
returns-then-ne c = record { is = λ a h. rest-none counts-parameters (other {k = kind.MoreParams} (differs_true the_type c.node-node.result.kind kind.MoreParams (sym c.if-ne.ensures))) c.node-node.ensures (c.loop-node.invariant.1 a h) }

pub loop-node-smaller : goal.loop-node-smaller
loop-node-smaller c = (rest-step counts-parameters (ap node_number (differs_false the_type tt c.node-node.result.kind kind.MoreParams (sym c.if-ne.ensures))) c.node-node.ensures (c.loop-node.invariant.1 c.requires.tree c.requires.holds)).0

pub loop-node-preserved : goal.loop-node-preserved
loop-node-preserved c =
    let e = ap node_number (differs_false the_type tt c.node-node.result.kind kind.MoreParams (sym c.if-ne.ensures)) in
    let w = (rest-step counts-parameters e c.node-node.ensures (c.loop-node.invariant.1 c.requires.tree c.requires.holds)).0 in
    (omega (arith, w, c.loop-node.invariant.0), λ a h. (rest-step counts-parameters e c.node-node.ensures (c.loop-node.invariant.1 a h)).1)
