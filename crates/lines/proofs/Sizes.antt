-- How long the printed lines are.
use Prim.Native.Nat.{ℕ, ◌≤◌, ◌<◌}
use native.Mathlib.Omega.{arith}
use lib.ListN.{length, length-append}
use Rattle.semantics.specs.Search.{Close, whole, cuts, full, spent}
use Rattle.lines.specs.Print.{ending, last_line, refusal}
use Rattle.printing.proofs.Numbers.{word-length}

ending-length : (c : Close) → length (ending c) ≤ 5
unfolding ending
ending-length whole = omega arith
ending-length cuts = omega arith
ending-length full = omega arith
ending-length spent = omega arith

-- the last line has at most 39 bytes, and a refusal's at most 33
pub last-length : (c : Close) (k m : ℕ) → k < 4294967296 → m < 4294967296 → length (last_line c k m) ≤ 39
unfolding last_line
last-length c k m h i = simp length-append (omega (arith, ending-length c, word-length k h, word-length m i))

pub refusal-length : (n p : ℕ) → n < 4294967296 → p < 4294967296 → length (refusal n p) ≤ 33
unfolding refusal
refusal-length n p h i = simp length-append (omega (arith, word-length n h, word-length p i))
