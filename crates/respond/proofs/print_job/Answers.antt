use native.Mathlib.Omega.{arith}
use borrow.Author.Rules.{rules}
use mir.Syntax.{w32}
use mir.Val.{SFits}
use mir.Facts.{to_z-of_z}
use lib.ListN.{length-replicate}
use lib.IntN.{pos}
use Rattle.printing.proofs.Puts.{put_as}
use Rattle.respond.proofs.Printed.{small-answer, same_lines}
use Rattle.respond.proofs.print_job.Goals as goal

pub print_listed-requires : goal.print_listed-requires
print_listed-requires c =
    let f : SFits w32 c.args.job.low = search rules in
    let g : SFits w32 c.args.job.high = search rules in
    (small-answer _ _ _ _ _ _ (to_z-of_z f) (to_z-of_z g) c.list-listed.ensures, omega (arith, c.rows-2-1.given, length-replicate 10000 (pos 0)))

pub returns : goal.returns
returns c =
    let f : SFits w32 c.args.job.low = search rules in
    let g : SFits w32 c.args.job.high = search rules in
    (put_as (same_lines _ _ _ _ _ _ (to_z-of_z f) (to_z-of_z g) c.list-listed.ensures c.args.layout) c.print_listed.ensures.0, c.print_listed.ensures.1)
