-- What a call says of its signed arguments, which it reads back from their bits, said of the numbers themselves.
use Rattle.std.proofs.Common.{◌≡◌, ℤ, ◌∙◌, ap₂, to_z-of_z, SFits, to_z, of_z}
use mir.Syntax.{Width}

pub read₂ : {A : Type 0} (f : ℤ → ℤ → A) {w : Width} {a b x y : ℤ} {r : A} → SFits w a → SFits w b → a ≡ x → b ≡ y → r ≡ f (to_z w (of_z w a)) (to_z w (of_z w b)) → r ≡ f x y
read₂ f g h p q e = e ∙ ap₂ f (to_z-of_z g ∙ p) (to_z-of_z h ∙ q)

pub read₄ : {A : Type 0} (f : ℤ → ℤ → ℤ → ℤ → A) {w : Width} {a b c d x y z u : ℤ} {r : A} → SFits w a → SFits w b → SFits w c → SFits w d → a ≡ x → b ≡ y → c ≡ z → d ≡ u → r ≡ f (to_z w (of_z w a)) (to_z w (of_z w b)) (to_z w (of_z w c)) (to_z w (of_z w d)) → r ≡ f x y z u
read₄ f {w} g h i j p q s t e = e ∙ (rw (to_z-of_z g, to_z-of_z h, to_z-of_z i, to_z-of_z j, p, q, s, t))
