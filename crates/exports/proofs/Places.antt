-- A verdict's place fits a word.
use Prim.Native.Nat.{ℕ, ◌≤◌}
use mathlib.Core.Path.{◌≡◌, sym, subst}
use mathlib.Core.List.{List}
use Rattle.checker.specs.Check.{refused, checked}
use Rattle.checker.proofs.Small.{Within, low, checked-low}

low_of : {c p : ℕ} → Within 2048 (refused c p) → p ≤ 2048
low_of (low h) = h

pub low-place : (text : List ℕ) (c p : ℕ) → refused c p ≡ checked text → p ≤ 2048
low-place text c p e = low_of (subst (Within 2048) (sym e) (checked-low text))
