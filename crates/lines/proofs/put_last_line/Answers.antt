use mathlib.Core.Path.{sym}
use mathlib.Core.List.{◌++◌, append_assoc}
use Rattle.lexer.specs.Lex.{bytes}
use Rattle.printing.specs.Decimal.{natural}
use Rattle.printing.proofs.Puts.{and_then, put_as}
use Rattle.lines.specs.Print.{ending, line_end, last_line}
use Rattle.search.specs.Loop.{close_of}
use Rattle.lines.proofs.put_last_line.Goals as goal

pub returns : goal.returns
unfolding last_line
returns c = put_as (sym (append_assoc (ending (close_of c.args.close) ++ bytes " " ++ natural c.args.rows ++ bytes " rows " ++ natural c.args.moves) (bytes " moves") line_end)) (and_then (and_then (and_then (and_then (and_then (put_as c.ending_word.ensures c.put_bytes-p.ensures) c.put_bytes-q.ensures) c.put_natural-s.ensures) c.put_bytes-t.ensures) c.put_natural-u.ensures) c.put_bytes.ensures)
