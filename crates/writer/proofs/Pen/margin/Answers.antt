use mathlib.Core.Path.{refl, sym}
use Rattle.printing.proofs.Puts.{put_as}
use Rattle.writer.proofs.Bytes.{indent-blanks}
use Rattle.writer.proofs.Pen.margin.Goals as goal

pub returns : goal.returns
returns c = record { same = refl; put = put_as (sym (indent-blanks _)) c.put_blanks-self.ensures }
