use native.Mathlib.Omega.{arith}
use mir.Facts.{to_z-of_z}
use Rattle.printing.proofs.Puts.{and_then}
use Rattle.printing.proofs.Numbers.{integer-length}
use Rattle.lines.proofs.put_value.Goals as goal

pub returns : goal.returns
returns c =
    let w = rw (to_z-of_z c.ranges.z) at c.put_integer.ensures in
    (and_then c.put_bytes-p.ensures w, omega (arith, c.put_bytes-p.ensures.past, w.past, integer-length c.args.z c.ranges.z))
