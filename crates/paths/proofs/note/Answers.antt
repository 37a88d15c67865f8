use Rattle.paths.proofs.Choice.{noting}
use Rattle.paths.proofs.note.Goals as goal

pub returns : goal.returns
returns c =
    rw (← c.from.ensures.0)
    (noting c.args.mem.now c.args.t c.from.result c.open_bit.result c.open_bit-2.result c.word_of.result c.word_of-2.result
    c.args.v c.args.w c.requires.0 c.from.ensures.2 c.open_bit.ensures c.open_bit-2.ensures c.word_of.ensures c.word_of-2.ensures)
