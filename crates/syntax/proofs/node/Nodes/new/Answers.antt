use Rattle.syntax.proofs.Words.{length-words}
use Rattle.syntax.proofs.node.Nodes.new.Goals as goal

pub returns : goal.returns
returns c = length-words _
