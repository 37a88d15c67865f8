use mathlib.Core.Path.{ap, ◌∙◌}
use Rattle.std.specs.Option.{unwrap_or}
use lib.ListN.{length}
use Rattle.text_rules.specs.Spelling.{main_in}
use Rattle.text_rules.specs.Resolve.{main_of}
use Rattle.text_rules.proofs.Functions.{main-position}
use Rattle.text_rules.proofs.mains.main_number.Goals as goal

pub returns : goal.returns
returns c =
    c.unwrap_or.ensures
    ∙ ap (λ o. unwrap_or o (length c.as_slice-list.result.now)) c.first_main.ensures
    ∙ main-position (main_in c.args.source.now) c.as_slice-list.result.now
    ∙ ap (main_of (main_in c.args.source.now)) c.as_slice-list.ensures.heads
