use native.Mathlib.Omega.{arith}
use Rattle.events.proofs.Nodes.{other}
use Rattle.events.proofs.Steps.{sum, not-sum, left_step, first-of}
use Rattle.events.proofs.first_token.Goals as goal

pub loop-j-smaller : goal.loop-j-smaller
loop-j-smaller c = (left_step (sum c.in-Times.is) c.node-node.ensures (c.loop-j.invariant.1 c.requires.tree c.requires.holds)).0

pub loop-j-preserved : goal.loop-j-preserved
loop-j-preserved c =
    let w = (left_step (sum c.in-Times.is) c.node-node.ensures (c.loop-j.invariant.1 c.requires.tree c.requires.holds)).0 in
    (omega (arith, w, c.loop-j.invariant.0), λ e h. (left_step (sum c.in-Times.is) c.node-node.ensures (c.loop-j.invariant.1 e h)).1)

pub returns-in_default : goal.returns-in_default
returns-in_default c = record { is = λ e h. first-of (not-sum (other c.in_default.not-Times) (other c.in_default.not-Plus) (other c.in_default.not-Minus)) c.node-node.ensures (c.loop-j.invariant.1 e h) }
