use Rattle.printing.proofs.Puts.{and_then}
use Rattle.lines.specs.Print.{refusal}
use Rattle.lines.proofs.put_refusal.Goals as goal

pub returns : goal.returns
unfolding refusal
returns c = and_then (and_then (and_then (and_then c.put_bytes-p.ensures c.put_natural-q.ensures) c.put_bytes-s.ensures) c.put_natural-t.ensures) c.put_bytes.ensures
