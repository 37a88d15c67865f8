use native.Mathlib.Omega.{arith}
use mathlib.Core.Path.{refl, ap}
use Rattle.syntax.specs.NodeKinds.{node_number}
use Rattle.syntax.specs.Table.{n_more_funs}
use Rattle.events.proofs.Nodes.{at-kind, other}
use Rattle.assignment.proofs.Finding.{more-functions, last-function, none_found, more-found}
use Rattle.assignment.proofs.Walk.+functions.Goals as goal

pub functions-best-requires : goal.functions-best-requires
functions-best-requires t c =
    let v = more-functions c.node-node.ensures c.requires (at-kind n_more_funs c.node-node.ensures (ap node_number c.in-MoreFuns.is) c.requires.holds) in
    (omega (arith, v.falls, c.decreases), v.rooted)

pub function-requires : goal.function-requires
function-requires t c = (last-function c.node-node.ensures c.requires (at-kind n_more_funs c.node-node.ensures (ap node_number c.in-MoreFuns.is) c.requires.holds)).rooted

pub returns-in-MoreFuns : goal.returns-in-MoreFuns
returns-in-MoreFuns t c = record { found = λ u h. more-found c.args.self.now.slots.now _ c.node-node.ensures (at-kind n_more_funs c.node-node.ensures (ap node_number c.in-MoreFuns.is) h) c.functions-best.ensures c.function.ensures }

pub returns-in_default : goal.returns-in_default
returns-in_default t c = record { found = λ u h. none_found c.args.self.now.slots.now _ _ (other c.in_default.not-MoreFuns) (at-kind _ c.node-node.ensures refl h) }
