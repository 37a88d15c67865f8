use native.Mathlib.Omega.{arith}
use Rattle.known_steps.proofs.Making.{one-made}
use Rattle.known_steps.proofs.Working.{cmp-made}
use Rattle.known_steps.proofs.compare.Goals as goal

pub returns : goal.returns
returns c =
    one-made c.args.code.now c.args.mem.now c.args.mem.now c.args.p c.args.floor c.spend.result _ c.spend.ensures
    (cmp-made c.args.code.now c.args.mem.now c.args.p c.requires.0 (omega (arith, c.requires.3)) c.args.d c.in_ok-b.b.left c.in_ok-b.b.right c.in_ok-b.b.top c.in_ok-b.ensures c.args.c c.requires.2 c.holds.result c.holds.ensures)
    (omega (arith, c.requires.3))
