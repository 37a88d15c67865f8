use Prim.Native.Nat.{ℕ, ◌^◌, ◌≤◌, ◌<◌}
use lib.ListN.{get_or}
use Rattle.assignment.proofs.greatest.Given as goal

-- `greatest` keeps the greatest word so far.
abbrev pub invariant-loop-word : goal.invariant-loop-word
invariant-loop-word l = record { small : l.top < 2 ^ 32; most : (j : ℕ) → j < l.word-index → get_or l.words j 0 ≤ l.top }
