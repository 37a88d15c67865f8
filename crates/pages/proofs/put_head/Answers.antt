use Rattle.printing.proofs.Puts.{and_then, put_as}
use Rattle.pages.proofs.Lines.{head-line}
use Rattle.pages.proofs.put_head.Goals as goal

pub returns : goal.returns
returns c = put_as (head-line _) (and_then (and_then (and_then (and_then c.put_bytes-p.ensures c.put_blanks-q.ensures) c.put_number-s.ensures) c.put_blanks-t.ensures) c.put_byte.ensures)
