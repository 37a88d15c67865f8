-- The variables of the definition and of the machine: where the definition's frame holds a value, the machine's holds the same.
use Prim.Native.Nat.{ℕ, zero, suc}
use mathlib.Core.Option.{Option, none, some}
use mathlib.Core.List.{List, [], ◌∷◌, map}
use lib.ListN.{get_or, set}
use Rattle.semantics.specs.Program.{Address, slot}
use Rattle.semantics.specs.Does.{Frame, fetch, store, frame}

module _ {X : Type 0} where
  -- a place that holds nothing, beside any value, or a value beside itself
  pub data Has : Option X → X → Type 0 where
    nothing : {x : X} → Has none x
    same : {x : X} → Has (some x) x

  pub data Agrees : Frame X → List X → Type 0 where
    nil : Agrees [] []
    cons : {o : Option X} {x : X} {f : Frame X} {g : List X} → Has o x → Agrees f g → Agrees (o ∷ f) (x ∷ g)

  pub agrees-frame : (d : X) (n : ℕ) (vs : List X) → Agrees (frame none n (map some vs)) (frame d n vs)
  unfolding frame
  agrees-frame d zero vs = nil
  agrees-frame d (suc n) [] = cons nothing (agrees-frame d n [])
  agrees-frame d (suc n) (v ∷ vs) = cons same (agrees-frame d n vs)

  has-at : {f : Frame X} {g : List X} (d : X) (i : ℕ) → Agrees f g → Has (get_or f i none) (get_or g i d)
  has-at d i nil = nothing
  has-at d zero (cons h a) = h
  has-at d (suc i) (cons h a) = has-at d i a

  pub agrees-fetch : {f : Frame X} {g : List X} (d : X) (a : Address) → Agrees f g → Has (fetch none f a) (fetch d g a)
  agrees-fetch d (slot i) h = has-at d i h

  agrees-set : {f : Frame X} {g : List X} (v : X) (i : ℕ) → Agrees f g → Agrees (set f i (some v)) (set g i v)
  agrees-set v i nil = nil
  agrees-set v zero (cons h a) = cons same a
  agrees-set v (suc i) (cons h a) = cons h (agrees-set v i a)

  pub agrees-store : {f : Frame X} {g : List X} (a : Address) (v : X) → Agrees f g → Agrees (store f a (some v)) (store g a v)
  agrees-store (slot i) v h = agrees-set v i h

  agrees-none : {f : Frame X} {g : List X} (i : ℕ) → Agrees f g → Agrees (set f i none) g
  agrees-none i nil = nil
  agrees-none zero (cons h a) = cons nothing a
  agrees-none (suc i) (cons h a) = cons h (agrees-none i a)

  -- a declaration, which the machine passes over
  pub agrees-declare : {f : Frame X} {g : List X} (a : Address) → Agrees f g → Agrees (store f a none) g
  agrees-declare (slot i) h = agrees-none i h
