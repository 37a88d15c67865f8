use native.Mathlib.Omega.{arith}
use Rattle.printing.proofs.Puts.{and_then}
use Rattle.lines.specs.Print.{acceptance}
use Rattle.lines.proofs.put_acceptance.Goals as goal

pub returns : goal.returns
unfolding acceptance
returns c = (and_then (and_then c.put_bytes-p.ensures c.put_offsets-q.ensures.0) c.put_bytes.ensures, omega (arith, c.put_bytes-p.ensures.past, c.put_offsets-q.ensures.1, c.put_bytes.ensures.past))
