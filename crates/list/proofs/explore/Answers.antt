use mathlib.Core.Path.{ap, ◌∙◌}
use Prim.Native.Nat.{ℕ}
use lib.ListN.{replicate}
use mir.Syntax.{w32}
use mir.Val.{SFits}
use mir.Facts.{to_z-of_z}
use borrow.Author.Rules.{rules}
use Rattle.list.proofs.Searching.{searched}
use Rattle.list.proofs.explore.Goals as goal

pub returns : goal.returns
returns c =
    let l : SFits w32 c.args.terms.low = search rules in
    let h : SFits w32 c.args.terms.high = search rules in
    searched _ _ _ _ _ _ _ _ c.args.scratch.now _ c.run-answered.result (rw (to_z-of_z l, to_z-of_z h) at c.run-answered.ensures) (c.fill.ensures.after (λ y e. e) ∙ ap (λ (n : ℕ). replicate n 0) c.run-answered.auto.mem)
