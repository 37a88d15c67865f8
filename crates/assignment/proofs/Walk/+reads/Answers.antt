use mathlib.Core.Path.{refl, ap, ◌∙◌}
use native.Mathlib.Omega.{arith}
use Rattle.syntax.specs.NodeKinds.{node_number}
use Rattle.syntax.specs.Table.{n_name}
use Rattle.events.proofs.Nodes.{at-kind, other}
use Rattle.assignment.proofs.Reading.{single, double, not-single, not-double, single-child, double-first, double-second, name_set, name-unset, single-read, double-read, nothing_read}
use Rattle.assignment.proofs.Walk.+reads.Goals as goal

pub returns-then-assigned : goal.returns-then-assigned
returns-then-assigned t c = record {
  found = λ o u h. name_set c.args.self.now.slots.now _ c.args.set c.node-node.ensures (at-kind n_name c.node-node.ensures (ap node_number c.in-Name.is) h) c.word.ensures c.assigned.ensures c.if-assigned.true _;
}

pub returns-else-assigned : goal.returns-else-assigned
returns-else-assigned t c = record {
  found = λ o u h. c.lesser.ensures ∙ name-unset c.args.self.now.slots.now _ c.args.set c.node-node.ensures (at-kind n_name c.node-node.ensures (ap node_number c.in-Name.is) h) c.word.ensures c.assigned.ensures c.if-assigned.false _;
}

pub reads-requires : goal.reads-requires
reads-requires t c =
    let v = single-child (single c.in-Call.is) c.node-node.ensures c.requires.rooted (at-kind _ c.node-node.ensures refl c.requires.rooted.holds) in
    (omega (arith, v.falls, c.decreases), v.at)

pub reads-best-requires : goal.reads-best-requires
reads-best-requires t c =
    let v = double-first (double c.in-Times.is) c.node-node.ensures c.requires.rooted (at-kind _ c.node-node.ensures refl c.requires.rooted.holds) in
    (omega (arith, v.falls, c.decreases), v.at)

pub reads-requires-in-Times : goal.reads-requires-in-Times
reads-requires-in-Times t c =
    let v = double-second (double c.in-Times.is) c.node-node.ensures c.requires.rooted (at-kind _ c.node-node.ensures refl c.requires.rooted.holds) in
    (omega (arith, v.falls, c.decreases), v.at)

pub returns-in-Call : goal.returns-in-Call
returns-in-Call t c = record { found = λ o u h. single-read c.args.self.now.slots.now _ c.args.set (single c.in-Call.is) c.node-node.ensures (at-kind _ c.node-node.ensures refl h) c.reads.ensures }

pub returns-in-Times : goal.returns-in-Times
returns-in-Times t c = record { found = λ o u h. double-read c.args.self.now.slots.now _ c.args.set (double c.in-Times.is) c.node-node.ensures (at-kind _ c.node-node.ensures refl h) c.reads-best.ensures c.reads-in-Times.ensures }

pub returns-in_default : goal.returns-in_default
returns-in_default t c =
    let n = c.in_default in
    record { found = λ o u h. nothing_read c.args.self.now.slots.now _ c.args.set o (at-kind _ c.node-node.ensures refl h) (other n.not-Name) (not-single (other n.not-Call) (other n.not-Bracket)) (not-double (other n.not-Times) (other n.not-Plus) (other n.not-Minus) (other n.not-MoreArgs)) _ }
