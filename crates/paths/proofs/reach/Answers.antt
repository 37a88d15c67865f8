use Rattle.intervals.specs.Meaning.{of_window}
use Rattle.paths.proofs.Narrowing.{reached}
use Rattle.paths.proofs.reach.Goals as goal

pub returns : goal.returns
returns c =
    reached c.args.mem.now c.store_pair.new.mem c.store_pair-2.new.mem (of_window c.args.w) c.args.k c.store_pair.ensures c.store_pair-2.ensures
