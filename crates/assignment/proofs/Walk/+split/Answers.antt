use mathlib.Core.Path.{refl, ap}
use native.Mathlib.Omega.{arith}
use Rattle.syntax.specs.NodeKinds.{node_number}
use Rattle.syntax.specs.Table.{n_always, n_never, n_compare, n_both, n_either}
use Rattle.events.proofs.Nodes.{at-kind, other}
use Rattle.assignment.proofs.Splitting.{compares, both_first, both-second, either_first, either_second, compare-first, compare-second, always-ends, never_ends, compare-ends, both_ends, either-ends}
use Rattle.assignment.proofs.Walk.+split.Goals as goal

pub split-a-requires : goal.split-a-requires
split-a-requires t c =
    let v = both_first c.node-node.ensures c.requires (at-kind n_both c.node-node.ensures (ap node_number c.in-Both.is) c.requires.holds) in
    (omega (arith, v.falls, c.decreases), v.rooted)

pub split-b-requires : goal.split-b-requires
split-b-requires t c =
    let v = both-second c.node-node.ensures c.requires (at-kind n_both c.node-node.ensures (ap node_number c.in-Both.is) c.requires.holds) in
    (omega (arith, v.falls, c.decreases), v.rooted)

pub split-a-requires-in-Either : goal.split-a-requires-in-Either
split-a-requires-in-Either t c =
    let v = either_first c.node-node.ensures c.requires (at-kind n_either c.node-node.ensures (ap node_number c.in-Either.is) c.requires.holds) in
    (omega (arith, v.falls, c.decreases), v.rooted)

pub split-b-requires-in-Either : goal.split-b-requires-in-Either
split-b-requires-in-Either t c =
    let v = either_second c.node-node.ensures c.requires (at-kind n_either c.node-node.ensures (ap node_number c.in-Either.is) c.requires.holds) in
    (omega (arith, v.falls, c.decreases), v.rooted)

pub reads-best-requires : goal.reads-best-requires
reads-best-requires t c =
    let n = c.in_default in
    (compare-first c.node-node.ensures c.requires (at-kind n_compare c.node-node.ensures (compares (at-kind _ c.node-node.ensures refl c.requires.holds) (other n.not-Always) (other n.not-Never) (other n.not-Both) (other n.not-Either)) c.requires.holds)).at

pub reads-best-requires-in_default : goal.reads-best-requires-in_default
reads-best-requires-in_default t c =
    let n = c.in_default in
    (compare-second c.node-node.ensures c.requires (at-kind n_compare c.node-node.ensures (compares (at-kind _ c.node-node.ensures refl c.requires.holds) (other n.not-Always) (other n.not-Never) (other n.not-Both) (other n.not-Either)) c.requires.holds)).at

pub returns-in-Always : goal.returns-in-Always
returns-in-Always t c = record { is = λ u h. always-ends _ _ _ _ (at-kind n_always c.node-node.ensures (ap node_number c.in-Always.is) h) c.all-no.ensures }

pub returns-in-Never : goal.returns-in-Never
returns-in-Never t c = record { is = λ u h. never_ends _ _ _ _ (at-kind n_never c.node-node.ensures (ap node_number c.in-Never.is) h) c.all-yes.ensures }

pub returns-in-Both : goal.returns-in-Both
returns-in-Both t c = record { is = λ u h. both_ends _ _ _ c.node-node.ensures (at-kind n_both c.node-node.ensures (ap node_number c.in-Both.is) h) c.split-a.ensures c.split-b.ensures c.both-no.ensures }

pub returns-in-Either : goal.returns-in-Either
returns-in-Either t c = record { is = λ u h. either-ends _ _ _ c.node-node.ensures (at-kind n_either c.node-node.ensures (ap node_number c.in-Either.is) h) c.split-a-in-Either.ensures c.split-b-in-Either.ensures c.both-yes.ensures }

pub returns-in_default : goal.returns-in_default
returns-in_default t c =
    let n = c.in_default in
    record { is = λ u h. compare-ends _ _ _ c.node-node.ensures (at-kind n_compare c.node-node.ensures (compares (at-kind _ c.node-node.ensures refl h) (other n.not-Always) (other n.not-Never) (other n.not-Both) (other n.not-Either)) h) c.reads-best.ensures c.reads-best-in_default.ensures }
