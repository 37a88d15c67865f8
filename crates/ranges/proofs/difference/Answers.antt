use mathlib.Core.Path.{refl}
use lib.IntN.{ℤ, ◌-ℤ◌}
use mir.Syntax.{w32, w64}
use mir.Val.{SFits}
use mir.Facts.{to_z-of_z}
use borrow.Author.Rules.{rules}
use Rattle.semantics.specs.Int.{sub}
use Rattle.semantics.specs.Search.{to, span, fitted}
use Rattle.ints.proofs.Read.{read₂}
use Rattle.intervals.specs.Meaning.{of_window}
use Rattle.ranges.proofs.Ranges.{span_filled}
use Rattle.ranges.proofs.difference.Goals as goal

pub fit-requires : goal.fit-requires
unfolding span
fit-requires c =
    let f₁ : SFits w32 c.args.v.low = search rules in
    let f₂ : SFits w32 c.args.w.high = search rules in
    let f₃ : SFits w32 c.args.v.high = search rules in
    let f₄ : SFits w32 c.args.w.low = search rules in
    let p = read₂ ◌-ℤ◌ f₁ f₂ refl refl c.minus.ensures in
    let q = read₂ ◌-ℤ◌ f₃ f₄ refl refl c.minus-2.ensures in
    let f : SFits w64 c.minus.result = record { sfits = c.minus.type_inv } in
    let h : SFits w64 c.minus-2.result = record { sfits = c.minus-2.type_inv } in
    rw (to_z-of_z f, to_z-of_z h, p, q) (span_filled sub (of_window c.args.v) (of_window c.args.w) c.requires.0 c.requires.1)

pub returns : goal.returns
unfolding span
returns c =
    let f₁ : SFits w32 c.args.v.low = search rules in
    let f₂ : SFits w32 c.args.w.high = search rules in
    let f₃ : SFits w32 c.args.v.high = search rules in
    let f₄ : SFits w32 c.args.w.low = search rules in
    let p = read₂ ◌-ℤ◌ f₁ f₂ refl refl c.minus.ensures in
    let q = read₂ ◌-ℤ◌ f₃ f₄ refl refl c.minus-2.ensures in
    let f : SFits w64 c.minus.result = record { sfits = c.minus.type_inv } in
    let h : SFits w64 c.minus-2.result = record { sfits = c.minus-2.type_inv } in
    read₂ (λ (x y : ℤ). fitted (to x y)) f h p q c.fit.ensures
