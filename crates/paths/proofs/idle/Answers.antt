use mir.Syntax.{w32}
use mir.Val.{SFits}
use Rattle.paths.proofs.Choice.{idle-at, idle-free, idle-other}
use borrow.Author.Rules.{rules}
use Rattle.paths.proofs.idle.Goals as goal

pub returns-in-Free : goal.returns-in-Free
returns-in-Free c =
    let l : SFits w32 c.args.r.low = search rules in
    let h : SFits w32 c.args.r.high = search rules in
    λ e. idle-at c.args.s _ c.args.r c.in-Free.is (idle-free c.in-Free.field-0 c.args.r l h e)

pub returns-in-Other : goal.returns-in-Other
returns-in-Other c =
    λ e. idle-at c.args.s _ c.args.r c.in-Other.is (idle-other c.in-Other.field-0 c.args.r)
