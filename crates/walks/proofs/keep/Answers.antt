use native.Mathlib.Omega.{arith}
use Rattle.machine.proofs.Tables.{room-less}
use Rattle.walks.proofs.Checkpoints.{sized-so}
use Rattle.walks.proofs.keep.Goals as goal

pub save-requires : goal.save-requires
save-requires c =
    let d = c.is_due.ensures.0 c.if-is_due.true in (
      c.requires.0,
      sized-so c.requires.0 (c.is_due.ensures.2 c.if-is_due.true),
      d.unforced,
      c.requires.3,
      room-less _ (omega (arith, d.fits)) c.requires.1,
      c.requires.4 (c.calls_main.ensures.0 c.if-calls_main.true),
    )
