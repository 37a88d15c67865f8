-- No run of an accepted text, whatever values are chosen and however its tests go, reads a variable that holds nothing; so every choice of values has a run. And what the own pairs of its program keep.
use Prim.Native.Nat.{ℕ, ◌≤◌}
use mathlib.Core.Path.{◌≡◌}
use mathlib.Core.List.{List}
use lib.IntN.{ℤ}
use lib.ListN.{length}
use Rattle.checker.specs.Check as C
use Rattle.checker.specs.Check.{kinds, source_of, value_in, checked, program_of}
use Rattle.syntax.specs.Abstract.{ast}
use Rattle.checker.proofs.Exactly.{read-so, exactly}
use Rattle.checker.proofs.Sure.{accepted-sure}
use Rattle.semantics.specs.Int.{Op, arith}
use Rattle.semantics.specs.Program.{Window}
use Rattle.semantics.specs.Does.{does, Sure}
use Rattle.semantics.specs.Run.{meaning}
use Rattle.semantics.proofs.Own.{Pairs}
use Rattle.semantics.proofs.Sure.{Reaches, every-choice}
use Rattle.text_rules.specs.Own.{owns}
use Rattle.text_rules.proofs.Pairs.{Each, resolved-pairs}
use Rattle.text_rules.proofs.OwnRules.{each-32, each-rises}
use Rattle.semantics.specs.Demand.{In32}
use Rattle.simulation.proofs.Placed.{Upward}
use Rattle.list.proofs.Values.{small-values}
use Rattle.list.specs.List.{program, job_of}

module _ (text : List ℕ) (e : checked text ≡ C.accepted) where
  -- its program is that of the tokens and the tree by which it keeps the rules
  program-so : program text ≡ program_of text ((exactly text).0 e).tokens ((exactly text).0 e).tree
  unfolding program
  program-so =
      let k = (exactly text).0 e in
      rw (k.lexes, program) (rw (read-so (kinds k.tokens) k.tree k.grammar, program))

  pub never_stuck : {X : Type 0} (num : ℤ → X) (work : Op → X → X → X) (most : ℕ) → Sure (does num work most (program text))
  never_stuck num work most = rw program-so (accepted-sure text e num work most)

  -- with any eight values, the first ones of them, as many as it reaches, have a run, which "returns, fails or is cut"
  pub always-runs : (low high : ℤ) (steps : ℕ) (vs : List ℤ) → 8 ≤ length vs → Reaches (meaning (job_of text low high steps)) vs
  always-runs low high steps vs h = every-choice (job_of text low high steps) (never_stuck (λ z. z) arith steps) vs h

  -- what holds of each own pair that the text gives holds of each of its program
  program-pairs : (P : Window → Type 0) → (let k = (exactly text).0 e in Each P (value_in (source_of text k.tokens)) (owns (ast k.tree))) → Pairs P (program text)
  unfolding program_of
  program-pairs P h = rw program-so (resolved-pairs P _ _ _ h)

  -- they lie in 32 bits, by rule 3, and go upward, by rule 18
  pub pairs-32 : Pairs In32 (program text)
  pairs-32 = let k = (exactly text).0 e in program-pairs In32 (each-32 (value_in (source_of text k.tokens)) (small-values text k.tokens k.lexes) (owns (ast k.tree)))

  pub pairs-upward : Pairs Upward (program text)
  pairs-upward = let k = (exactly text).0 e in program-pairs Upward (each-rises (value_in (source_of text k.tokens)) (owns (ast k.tree)) k.upward)
