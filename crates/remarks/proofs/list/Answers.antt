use Prim.Native.Nat.{ℕ, ◌<◌}
use mathlib.Core.Path.{◌≡◌}
use native.Mathlib.Omega.{arith}
use native.Mathlib.Decide.{dec_lt}
use lib.ListN.{get_or, replicate, get_or-replicate, get_or-eq_default}
use Rattle.remarks.proofs.Marking.{callee-below}
use Rattle.remarks.proofs.Writing.{unreached}
use Rattle.remarks.proofs.list.Goals as goal

-- Marks from nothing, then what is not marked.
zero-words : (g : ℕ) → get_or {A = ℕ} (replicate 16 0) g 0 ≡ 0
zero-words g = go (dec_lt g 16)
  where
    go : Dec (g < 16) → get_or {A = ℕ} (replicate 16 0) g 0 ≡ 0
    go (yes h) = get_or-replicate 16 g 0 0 h
    go (no h) = get_or-eq_default {A = ℕ} (replicate 16 0) 0 {n = g} (omega (arith, h))

pub returns : goal.returns
returns c =
    unreached _ _ _ (callee-below _ _ 0 _) c.requires.0.main (rw c.main_number-main.ensures at c.reach.ensures) (rw c.as_slice.ensures.heads at c.write.ensures)
