use native.Mathlib.Omega.{arith}
use lib.ListN.{get_or}
use Rattle.machine.specs.Layout.{window_high, value_place}
use Rattle.settings.proofs.Entries.{wrote, raised-fits, raised}
use borrow.Author.Rules.{rules}
use Rattle.settings.proofs.raise.Goals as goal

pub returns : goal.returns
returns c =
    let v = get_or c.args.mem.now (value_place c.args.i) 0 in
    wrote c.args.mem.now (value_place c.args.i) c.word.result (omega (arith, c.requires.1))
    (raised c.word.result v (record { sfits = c.signed.type_inv })
    (raised-fits v (get_or c.args.mem.now (window_high c.args.i) 0) (record { sfits = c.signed.type_inv }) c.signed.ensures
    (search rules) c.requires.2) c.signed.ensures c.word.ensures)
