use Prim.Native.Nat.{ℕ}
use mathlib.Core.Path.{◌≡◌, ap, ap₂, ◌∙◌}
use lib.IntN.{ℤ}
use mir.Syntax.{w32}
use mir.Val.{to_z, of_z, SFits}
use mir.Facts.{to_z-of_z}
use Rattle.semantics.specs.Search.{to}
use Rattle.paths.proofs.Table.{ranged}
use borrow.Author.Rules.{rules}
use Rattle.paths.proofs.write_range.Goals as goal

back : (z : ℤ) (x : ℕ) → SFits w32 z → x ≡ of_z w32 (to_z w32 (of_z w32 z)) → to_z w32 x ≡ z
back z x f e = ap (to_z w32) (e ∙ ap (of_z w32) (to_z-of_z f)) ∙ to_z-of_z f

pub returns : goal.returns
returns c =
    let l : SFits w32 c.range_at-w.result.low = search rules in
    let h : SFits w32 c.range_at-w.result.high = search rules in
    ranged c.args.mem.now c.args.k c.args.j c.word.result c.word-2.result c.requires.1
    (ap₂ to (back c.range_at-w.result.low c.word.result l c.word.ensures) (back c.range_at-w.result.high c.word-2.result h c.word-2.ensures)
    ∙ c.range_at-w.ensures)
