use Rattle.printing.proofs.Puts.{and_then}
use Rattle.pages.specs.Pages.{right}
use Rattle.pages.proofs.put_right.Goals as goal

pub returns : goal.returns
unfolding right
returns c = and_then (rw c.saturating_sub.ensures at c.put_blanks-p.ensures) c.put_bytes.ensures
