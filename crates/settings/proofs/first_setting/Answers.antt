use Rattle.settings.proofs.Turns.{first_of}
use Rattle.settings.proofs.first_setting.Goals as goal

pub returns : goal.returns
returns c = first_of c.args.mem.now _ c.args.k c.requires.0
    c.start_from.ensures
