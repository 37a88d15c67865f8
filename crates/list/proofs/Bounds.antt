-- What list answers is small: the place of a refusal is at most 2,048, and each row written was a move.
use Prim.Native.Nat.{ℕ, ◌≤◌, ◌/◌}
use mathlib.Core.List.{List}
use Rattle.std.specs.Prelude.{Option, None, Some}
use native.Mathlib.Omega.{arith}
use lib.ListN.{length}
use lib.IntN.{ℤ}
use Rattle.checker.specs.Check as C
use Rattle.checker.specs.Check.{Verdict, checked}
use Rattle.checker.proofs.Small as W
use Rattle.checker.proofs.Small.{Within, checked-low}
use Rattle.semantics.specs.Search as S
use Rattle.semantics.specs.Search.{in_use}
use Rattle.semantics.proofs.Answer.{few-rows}
use Rattle.list.specs.List.{job_of, Answer, refused, listed, ground, answering, places, list}

abbrev pub Small : ℕ → Answer → Type 0
Small budget (refused n p) = p ≤ 2048
Small budget (listed r m c) = r ≤ budget

pub small-answer : (text : List ℕ) (low high : ℤ) (steps skip budget : ℕ) (rows : List ℤ) (scratch : List ℕ) → Small budget (list text low high steps skip budget rows scratch).answer
unfolding list S.listed
small-answer text low high steps skip budget rows scratch = go (ground (length scratch) low high steps) (checked text) (checked-low text)
  where
    go : (g : Option ℕ) (v : Verdict) → Within 2048 v → Small budget (answering rows scratch (S.listed in_use (job_of text low high steps) skip (places rows) budget) g v).answer
    go (Some n) v w = omega arith
    go None (C.refused n p) w = place w
      where
        place : Within 2048 (C.refused n p) → p ≤ 2048
        place (W.low h) = h
    go None C.accepted w = (few-rows S.whole (S.search in_use (job_of text low high steps)) skip (length rows / 10) budget).1
