use Rattle.assignment.proofs.Finding.{function-parameters, function-body, function-found}
use Rattle.assignment.proofs.Walk.function.Goals as goal

-- `function` starts from its parameters.
pub parameters-requires : goal.parameters-requires
parameters-requires c = (function-parameters c.node-node.ensures c.requires c.requires.holds.at).rooted

pub sequence-requires : goal.sequence-requires
sequence-requires c = (function-body c.node-node.ensures c.requires c.requires.holds.at).at

pub returns : goal.returns
returns c = record { found = λ u h. function-found c.args.self.now.slots.now _ c.node-node.ensures h.at c.parameters.ensures c.start-set.ensures c.sequence.ensures }
