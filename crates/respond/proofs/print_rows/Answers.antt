use Prim.Native.Nat.{◌*◌, ◌<◌}
use native.Mathlib.Omega.{arith}
use borrow.Author.Rules.{rules}
use lib.Seq.{length-take-le}
use Rattle.lines.proofs.Lines.{rows_of-front}
use Rattle.respond.proofs.Puts.{put-lines, put-sheet}
use Rattle.respond.proofs.print_rows.Goals as goal

pub returns-in-Lines : goal.returns-in-Lines
returns-in-Lines c =
    let m : c.args.found.moves < 4294967296 = search rules in
    let w = rw (rows_of-front c.args.found.written c.args.rows.now c.requires.1) at c.put_rows-p.ensures.0 in
    put-lines _ c.in-Lines.is _ _ _ _ c.requires.0 m w (omega (arith, c.put_rows-p.ensures.1, length-take-le (10 * c.args.found.written) c.args.rows.now c.requires.1)) c.put_last_line.ensures

pub put_pages-requires : goal.put_pages-requires
put_pages-requires c = omega (arith, c.requires.0, length-take-le (10 * c.args.found.written) c.args.rows.now c.requires.1)

pub returns-in-Sheet : goal.returns-in-Sheet
returns-in-Sheet c =
    let w = rw (rows_of-front c.args.found.written c.args.rows.now c.requires.1) at c.put_pages.ensures in
    put-sheet _ c.in-Sheet.is _ _ _ _ c.requires.0 w
