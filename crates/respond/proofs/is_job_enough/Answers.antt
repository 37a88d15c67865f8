use mathlib.Core.Path.{ap}
use mathlib.Core.Bool.{◌||◌}
use Rattle.std.specs.Prelude.{Option, is_some}
use Prim.Native.Nat.{ℕ, ◌+◌}
use borrow.Author.Rules.{rules}
use lib.Dec.{ltb}
use mir.Syntax.{w32}
use mir.Val.{SFits}
use mir.Facts.{to_z-of_z}
use Rattle.respond.proofs.is_job_enough.Goals as goal

pub returns-in-None : goal.returns-in-None
returns-in-None c =
    let f : SFits w32 c.args.job.low = search rules in
    let g : SFits w32 c.args.job.high = search rules in
    ap (λ (g : Option ℕ). is_some g || ltb (c.args.job.text + 2048) c.args.read) (rw (c.in-None.is, to_z-of_z f, to_z-of_z g) at c.refusal.ensures)

pub returns-in-Some : goal.returns-in-Some
returns-in-Some c =
    let f : SFits w32 c.args.job.low = search rules in
    let g : SFits w32 c.args.job.high = search rules in
    ap (λ (g : Option ℕ). is_some g || ltb (c.args.job.text + 2048) c.args.read) (rw (c.in-Some.is, to_z-of_z f, to_z-of_z g) at c.refusal.ensures)
