use native.Mathlib.Omega.{arith}
use mir.Facts.{to_z-of_z}
use Rattle.std.proofs.lemmas.Int.{ints}
use Rattle.printing.proofs.Puts.{and_then, put_as}
use Rattle.printing.proofs.Numbers.{integer-plain, integer-minus}
use Rattle.printing.proofs.put_integer.Goals as goal

pub returns-then-z-lt0 : goal.returns-then-z-lt0
returns-then-z-lt0 c =
    let w = rw (c.unsigned_abs.ensures.value, to_z-of_z c.ranges.z) at c.put_natural.ensures in
    put_as (integer-minus c.args.z (grind (arith, ints))) (and_then c.put_bytes-p.ensures w)

pub returns : goal.returns
returns c =
    let w = rw (c.unsigned_abs-2.ensures.value, to_z-of_z c.ranges.z) at c.put_natural-2.ensures in
    put_as (integer-plain c.args.z (grind (arith, ints))) w
