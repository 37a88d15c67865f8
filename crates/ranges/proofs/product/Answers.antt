use mathlib.Core.Path.{refl}
use lib.IntN.{ℤ, ◌*ℤ◌}
use mir.Syntax.{w32, w64}
use mir.Val.{SFits}
use mir.Facts.{to_z-of_z}
use borrow.Author.Rules.{rules}
use Rattle.semantics.specs.Int.{mul}
use Rattle.semantics.specs.Search.{to, min_z, max_z, span, fitted}
use Rattle.ints.proofs.Read.{read₂, read₄}
use Rattle.intervals.specs.Meaning.{of_window}
use Rattle.ranges.proofs.Ranges.{span_filled}
use Rattle.ranges.proofs.product.Goals as goal

pub fit-requires : goal.fit-requires
unfolding span
fit-requires c =
    let f₁ : SFits w32 c.args.v.low = search rules in
    let f₂ : SFits w32 c.args.v.high = search rules in
    let f₃ : SFits w32 c.args.w.low = search rules in
    let f₄ : SFits w32 c.args.w.high = search rules in
    let p = read₂ ◌*ℤ◌ f₁ f₃ refl refl c.times-a.ensures in
    let q = read₂ ◌*ℤ◌ f₁ f₄ refl refl c.times-b.ensures in
    let r = read₂ ◌*ℤ◌ f₂ f₃ refl refl c.times-c.ensures in
    let s = read₂ ◌*ℤ◌ f₂ f₄ refl refl c.times-d.ensures in
    let g₁ : SFits w64 c.times-a.result = record { sfits = c.times-a.type_inv } in
    let g₂ : SFits w64 c.times-b.result = record { sfits = c.times-b.type_inv } in
    let g₃ : SFits w64 c.times-c.result = record { sfits = c.times-c.type_inv } in
    let g₄ : SFits w64 c.times-d.result = record { sfits = c.times-d.type_inv } in
    let m = read₄ (λ (x y z u : ℤ). min_z (min_z x y) (min_z z u)) g₁ g₂ g₃ g₄ p q r s c.least_of.ensures in
    let n = read₄ (λ (x y z u : ℤ). max_z (max_z x y) (max_z z u)) g₁ g₂ g₃ g₄ p q r s c.most_of.ensures in
    let f : SFits w64 c.least_of.result = record { sfits = c.least_of.type_inv } in
    let h : SFits w64 c.most_of.result = record { sfits = c.most_of.type_inv } in
    rw (to_z-of_z f, to_z-of_z h, m, n) (span_filled mul (of_window c.args.v) (of_window c.args.w) c.requires.0 c.requires.1)

pub returns : goal.returns
unfolding span
returns c =
    let f₁ : SFits w32 c.args.v.low = search rules in
    let f₂ : SFits w32 c.args.v.high = search rules in
    let f₃ : SFits w32 c.args.w.low = search rules in
    let f₄ : SFits w32 c.args.w.high = search rules in
    let p = read₂ ◌*ℤ◌ f₁ f₃ refl refl c.times-a.ensures in
    let q = read₂ ◌*ℤ◌ f₁ f₄ refl refl c.times-b.ensures in
    let r = read₂ ◌*ℤ◌ f₂ f₃ refl refl c.times-c.ensures in
    let s = read₂ ◌*ℤ◌ f₂ f₄ refl refl c.times-d.ensures in
    let g₁ : SFits w64 c.times-a.result = record { sfits = c.times-a.type_inv } in
    let g₂ : SFits w64 c.times-b.result = record { sfits = c.times-b.type_inv } in
    let g₃ : SFits w64 c.times-c.result = record { sfits = c.times-c.type_inv } in
    let g₄ : SFits w64 c.times-d.result = record { sfits = c.times-d.type_inv } in
    let m = read₄ (λ (x y z u : ℤ). min_z (min_z x y) (min_z z u)) g₁ g₂ g₃ g₄ p q r s c.least_of.ensures in
    let n = read₄ (λ (x y z u : ℤ). max_z (max_z x y) (max_z z u)) g₁ g₂ g₃ g₄ p q r s c.most_of.ensures in
    let f : SFits w64 c.least_of.result = record { sfits = c.least_of.type_inv } in
    let h : SFits w64 c.most_of.result = record { sfits = c.most_of.type_inv } in
    read₂ (λ (x y : ℤ). fitted (to x y)) f h m n c.fit.ensures
