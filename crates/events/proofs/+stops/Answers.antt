use mathlib.Core.Path.{refl, sym, ap, ◌∙◌}
use native.Mathlib.Omega.{arith}
use Rattle.events.specs.Event.{stops}
use Rattle.events.proofs.Nodes.{at-kind, other}
use Rattle.events.proofs.Steps.{inner, inner_last, stmts-last, arms_last, arms-true, arms-false, final, final-stops, goes_on}
use Rattle.events.proofs.Laws.{rooted-child}
use Rattle.syntax.specs.NodeKinds.{node_number}
use Rattle.syntax.specs.Table.{n_if_else, n_more_stmts}
use Rattle.events.proofs.+stops.Goals as goal

pub stops-requires : goal.stops-requires
stops-requires t c =
    let v = inner_last (inner c.in-Block.is) c.node-node.ensures (at-kind _ c.node-node.ensures refl c.requires.rooted.holds) in
    (omega (arith, v.falls, c.decreases), record { sort = v.sort; rooted = rooted-child c.requires.rooted v.falls v.holds })

pub stops-requires-in-MoreStmts : goal.stops-requires-in-MoreStmts
stops-requires-in-MoreStmts t c =
    let v = stmts-last c.node-node.ensures (at-kind n_more_stmts c.node-node.ensures (ap node_number c.in-MoreStmts.is) c.requires.rooted.holds) in
    (omega (arith, v.falls, c.decreases), record { sort = v.sort; rooted = rooted-child c.requires.rooted v.falls v.holds })

pub stops-requires-in-IfElse : goal.stops-requires-in-IfElse
stops-requires-in-IfElse t c =
    let v = arms_last c.node-node.ensures (at-kind n_if_else c.node-node.ensures (ap node_number c.in-IfElse.is) c.requires.rooted.holds) in
    (omega (arith, v.falls, c.decreases), record { sort = _; rooted = rooted-child c.requires.rooted v.falls v.holds })

pub stops-requires-then-stops : goal.stops-requires-then-stops
stops-requires-then-stops t c =
    let v = arms_last c.node-node.ensures (at-kind n_if_else c.node-node.ensures (ap node_number c.in-IfElse.is) c.requires.rooted.holds) in
    (omega (arith, v.falls₂, c.decreases), record { sort = _; rooted = rooted-child c.requires.rooted v.falls₂ v.holds₂ })

pub returns-in-Return : goal.returns-in-Return
returns-in-Return t c = record { is = λ u h. sym (final-stops (final c.in-Return.is) (at-kind _ c.node-node.ensures refl h)) }

pub returns-in-Block : goal.returns-in-Block
returns-in-Block t c = record { is = λ u h. let v = inner_last (inner c.in-Block.is) c.node-node.ensures (at-kind _ c.node-node.ensures refl h) in c.stops.ensures.is v.tree v.holds ∙ sym v.same }

pub returns-in-MoreStmts : goal.returns-in-MoreStmts
returns-in-MoreStmts t c = record { is = λ u h. let v = stmts-last c.node-node.ensures (at-kind n_more_stmts c.node-node.ensures (ap node_number c.in-MoreStmts.is) h) in c.stops-in-MoreStmts.ensures.is v.tree v.holds ∙ sym v.same }

pub returns-then-stops : goal.returns-then-stops
returns-then-stops t c = record { is = λ u h. let v = arms_last c.node-node.ensures (at-kind n_if_else c.node-node.ensures (ap node_number c.in-IfElse.is) h) in c.stops-then-stops.ensures.is v.z v.holds₂ ∙ sym (arms-true _ (stops v.z) (sym c.if-stops.true ∙ c.stops-in-IfElse.ensures.is v.y v.holds)) ∙ sym v.same }

pub returns-else-stops : goal.returns-else-stops
returns-else-stops t c = record { is = λ u h. let v = arms_last c.node-node.ensures (at-kind n_if_else c.node-node.ensures (ap node_number c.in-IfElse.is) h) in c.if-stops.false ∙ sym (arms-false _ (stops v.z) (sym c.if-stops.false ∙ c.stops-in-IfElse.ensures.is v.y v.holds)) ∙ sym v.same }

pub returns-in_default : goal.returns-in_default
returns-in_default t c =
    let n = c.in_default in
    record { is = λ u h. sym (goes_on (other n.not-Return) (other n.not-Fail) (other n.not-Block) (other n.not-Braced) (other n.not-MoreStmts) (other n.not-IfElse) (at-kind _ c.node-node.ensures refl h)) }
