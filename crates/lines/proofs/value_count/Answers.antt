use borrow.Author.Rules.{rules}
use mir.Syntax.{w32}
use mir.Val.{SFits}
use mir.Facts.{to_z-of_z}
use Rattle.lines.proofs.Lines.{count-clamped}
use Rattle.lines.proofs.value_count.Goals as goal

pub returns : goal.returns
returns c =
    let f : SFits w32 c.clamp.result = search rules in
    rw (to_z-of_z f) (count-clamped c.args.z c.clamp.result (rw (to_z-of_z c.ranges.z) at c.clamp.ensures.value))
