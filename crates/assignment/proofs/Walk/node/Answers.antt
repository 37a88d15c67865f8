use native.Mathlib.Omega.{arith}
use Rattle.syntax.proofs.Words.{length-words, fetched}
use Rattle.assignment.proofs.Walk.node.Goals as goal

pub returns : goal.returns
returns c = fetched c.args.self.now.nodes.now c.args.i _ (omega (arith, length-words c.args.self.now.nodes.now, c.requires.0))

pub bounds-self-i : goal.bounds-self-i
bounds-self-i c = omega (arith, length-words c.args.self.now.nodes.now, c.requires.0)
