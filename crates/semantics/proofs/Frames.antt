-- A frame has as many places as it was made with.
use Prim.Native.Nat.{ℕ, zero, suc}
use mathlib.Core.Path.{◌≡◌, refl, ap}
use mathlib.Core.List.{List, [], ◌∷◌}
use lib.ListN.{length}
use Rattle.semantics.specs.Does.{frame}

pub length-frame : {A : Type 0} (d : A) (n : ℕ) (vs : List A) → length (frame d n vs) ≡ n
unfolding frame
length-frame d zero vs = refl
length-frame d (suc n) [] = ap suc (length-frame d n [])
length-frame d (suc n) (v ∷ vs) = ap suc (length-frame d n vs)
