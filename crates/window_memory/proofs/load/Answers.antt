use Rattle.window_memory.proofs.Stored.{eight}
use Rattle.window_memory.proofs.load.Goals as goal

pub returns : goal.returns
returns c =
    cc (eight c.args.mem.now c.args.at)
