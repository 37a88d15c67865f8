use mathlib.Core.Path.{refl, ap}
use native.Mathlib.Omega.{arith}
use Rattle.syntax.specs.NodeKinds.{node_number}
use Rattle.syntax.specs.Table.{n_assign, n_eval, n_block, n_if_else, n_while, n_return, n_fail, n_more_stmts, n_braced}
use Rattle.events.proofs.Nodes.{at-kind, other}
use Rattle.assignment.proofs.Flowing.{assign-child, eval-child, return-child, block-child, braced-child, if-test, if-first, if-second, while-test, while-body, more-front, more-last, free, free-passed, assign-passed, eval-passed, return-passed, fail-passed, block-passed, braced-passed, if-passed, while-passed, more-passed, nothing-passed, no-more-passed}
use Rattle.assignment.proofs.Walk.+flow_sequence.Goals as goal

pub flow-reads-best-requires : goal.flow-reads-best-requires
flow-reads-best-requires t c = (assign-child c.node-node.ensures c.requires.rooted (at-kind n_assign c.node-node.ensures (ap node_number c.in-Assign.is) c.requires.rooted.holds)).at

pub flow-reads-best-requires-in-Eval : goal.flow-reads-best-requires-in-Eval
flow-reads-best-requires-in-Eval t c = (eval-child c.node-node.ensures c.requires.rooted (at-kind n_eval c.node-node.ensures (ap node_number c.in-Eval.is) c.requires.rooted.holds)).at

pub flow-reads-best-requires-in-Return : goal.flow-reads-best-requires-in-Return
flow-reads-best-requires-in-Return t c = (return-child c.node-node.ensures c.requires.rooted (at-kind n_return c.node-node.ensures (ap node_number c.in-Return.is) c.requires.rooted.holds)).at

pub flow-sequence-requires : goal.flow-sequence-requires
flow-sequence-requires t c =
    let v = block-child c.node-node.ensures c.requires.rooted (at-kind n_block c.node-node.ensures (ap node_number c.in-Block.is) c.requires.rooted.holds) in
    (omega (arith, v.falls, c.decreases), v.at)

pub flow-split-c-requires : goal.flow-split-c-requires
flow-split-c-requires t c = (if-test c.node-node.ensures c.requires.rooted (at-kind n_if_else c.node-node.ensures (ap node_number c.in-IfElse.is) c.requires.rooted.holds)).rooted

pub flow-flow-s-requires : goal.flow-flow-s-requires
flow-flow-s-requires t c =
    let v = if-first c.node-node.ensures c.requires.rooted (at-kind n_if_else c.node-node.ensures (ap node_number c.in-IfElse.is) c.requires.rooted.holds) in
    (omega (arith, v.falls, c.decreases), v.at)

pub flow-flow-t-requires : goal.flow-flow-t-requires
flow-flow-t-requires t c =
    let v = if-second c.node-node.ensures c.requires.rooted (at-kind n_if_else c.node-node.ensures (ap node_number c.in-IfElse.is) c.requires.rooted.holds) in
    (omega (arith, v.falls, c.decreases), v.at)

pub flow-split-c-requires-in-While : goal.flow-split-c-requires-in-While
flow-split-c-requires-in-While t c = (while-test c.node-node.ensures c.requires.rooted (at-kind n_while c.node-node.ensures (ap node_number c.in-While.is) c.requires.rooted.holds)).rooted

pub flow-flow-s-requires-in-While : goal.flow-flow-s-requires-in-While
flow-flow-s-requires-in-While t c =
    let v = while-body c.node-node.ensures c.requires.rooted (at-kind n_while c.node-node.ensures (ap node_number c.in-While.is) c.requires.rooted.holds) in
    (omega (arith, v.falls, c.decreases), v.at)

pub flow-returns-in-DeclareFree : goal.flow-returns-in-DeclareFree
flow-returns-in-DeclareFree t c = record { is = λ o u h. free-passed c.args.self.now.slots.now _ c.args.set _ (free c.in-DeclareFree.is) c.node-node.ensures (at-kind _ c.node-node.ensures refl h) c.next_word.ensures c.assign-set.ensures }

pub flow-returns-in-Assign : goal.flow-returns-in-Assign
flow-returns-in-Assign t c = record { is = λ o u h. assign-passed c.args.self.now.slots.now _ c.args.set c.node-node.ensures (at-kind n_assign c.node-node.ensures (ap node_number c.in-Assign.is) h) c.reads-best.ensures c.word.ensures c.assign-set-in-Assign.ensures }

pub flow-returns-in-Eval : goal.flow-returns-in-Eval
flow-returns-in-Eval t c = record { is = λ o u h. eval-passed c.args.self.now.slots.now _ c.args.set c.node-node.ensures (at-kind n_eval c.node-node.ensures (ap node_number c.in-Eval.is) h) c.reads-best-in-Eval.ensures }

pub flow-returns-in-Block : goal.flow-returns-in-Block
flow-returns-in-Block t c = record { is = λ o u h. block-passed c.args.self.now.slots.now _ c.args.set c.node-node.ensures (at-kind n_block c.node-node.ensures (ap node_number c.in-Block.is) h) c.sequence.ensures }

pub flow-returns-in-IfElse : goal.flow-returns-in-IfElse
flow-returns-in-IfElse t c = record { is = λ o u h. if-passed c.args.self.now.slots.now _ c.args.set c.node-node.ensures (at-kind n_if_else c.node-node.ensures (ap node_number c.in-IfElse.is) h) c.split-c.ensures c.flow-s.ensures c.flow-t.ensures c.both-set.ensures }

pub flow-returns-in-While : goal.flow-returns-in-While
flow-returns-in-While t c = record { is = λ o u h. while-passed c.args.self.now.slots.now _ c.args.set c.node-node.ensures (at-kind n_while c.node-node.ensures (ap node_number c.in-While.is) h) c.split-c-in-While.ensures c.flow-s-in-While.ensures }

pub flow-returns-in-Return : goal.flow-returns-in-Return
flow-returns-in-Return t c = record { is = λ o u h. return-passed c.args.self.now.slots.now _ c.args.set c.node-node.ensures (at-kind n_return c.node-node.ensures (ap node_number c.in-Return.is) h) c.reads-best-in-Return.ensures c.all-set.ensures }

pub flow-returns-in-Fail : goal.flow-returns-in-Fail
flow-returns-in-Fail t c = record { is = λ o u h. fail-passed c.args.self.now.slots.now _ c.args.set _ (at-kind n_fail c.node-node.ensures (ap node_number c.in-Fail.is) h) c.all-set-in-Fail.ensures }

pub flow-returns-in_default : goal.flow-returns-in_default
flow-returns-in_default t c =
    let n = c.in_default in
    record { is = λ o u h. nothing-passed c.args.self.now.slots.now _ c.args.set _ o (at-kind _ c.node-node.ensures refl h) (other n.not-DeclareFree) (other n.not-Assign) (other n.not-Eval) (other n.not-Block) (other n.not-IfElse) (other n.not-While) (other n.not-Return) (other n.not-Fail) (other n.not-DeclareOwn) }

pub sequence-sequence-requires : goal.sequence-sequence-requires
sequence-sequence-requires t c =
    let v = braced-child c.node-node.ensures c.requires.rooted (at-kind n_braced c.node-node.ensures (ap node_number c.in-Braced.is) c.requires.rooted.holds) in
    (omega (arith, v.falls, c.decreases), v.at)

pub sequence-sequence-a-requires : goal.sequence-sequence-a-requires
sequence-sequence-a-requires t c =
    let v = more-front c.node-node.ensures c.requires.rooted (at-kind n_more_stmts c.node-node.ensures (ap node_number c.in-MoreStmts.is) c.requires.rooted.holds) in
    (omega (arith, v.falls, c.decreases), v.at)

pub sequence-flow-requires : goal.sequence-flow-requires
sequence-flow-requires t c =
    let v = more-last c.node-node.ensures c.requires.rooted (at-kind n_more_stmts c.node-node.ensures (ap node_number c.in-MoreStmts.is) c.requires.rooted.holds) in
    (omega (arith, v.falls, c.decreases), v.at)

pub sequence-returns-in-Braced : goal.sequence-returns-in-Braced
sequence-returns-in-Braced t c = record { is = λ o u h. braced-passed c.args.self.now.slots.now _ c.args.set c.node-node.ensures (at-kind n_braced c.node-node.ensures (ap node_number c.in-Braced.is) h) c.sequence.ensures }

pub sequence-returns-in-MoreStmts : goal.sequence-returns-in-MoreStmts
sequence-returns-in-MoreStmts t c = record { is = λ o u h. more-passed c.args.self.now.slots.now _ c.args.set c.node-node.ensures (at-kind n_more_stmts c.node-node.ensures (ap node_number c.in-MoreStmts.is) h) c.sequence-a.ensures c.flow.ensures }

pub sequence-returns-in_default : goal.sequence-returns-in_default
sequence-returns-in_default t c = record { is = λ o u h. no-more-passed c.args.self.now.slots.now _ c.args.set _ o (at-kind _ c.node-node.ensures refl h) (other c.in_default.not-Braced) (other c.in_default.not-MoreStmts) }
