use native.Mathlib.Omega.{arith}
use mathlib.Core.Path.{◌≡◌, ap, sym}
use lib.ListN.{length}
use Rattle.syntax.specs.Fetch.{words_of}
use Rattle.syntax.proofs.Words.{length-words, written}
use Rattle.syntax.proofs.node.Nodes.put.Goals as goal

pub bounds-self-inside-at : goal.bounds-self-inside-at
bounds-self-inside-at c =
    let h : length (words_of c.self.inside.nodes) ≡ length c.args.self.now = ap length c.self.view_is in
    omega (arith, length-words c.self.inside.nodes, c.requires.0)

pub returns : goal.returns
returns c =
    let h : length (words_of c.self.inside.nodes) ≡ length c.args.self.now = ap length c.self.view_is in
    rw (sym c.self.view_is) (written c.self.inside.nodes c.args.at c.args.node (omega (arith, length-words c.self.inside.nodes, c.requires.0)))
