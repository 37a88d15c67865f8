-- No run of a text that keeps the rules, whatever values are chosen and however its tests go, reads a variable that holds nothing.
use Prim.Native.Nat.{ℕ}
use mathlib.Core.Path.{◌≡◌}
use mathlib.Core.List.{List}
use lib.IntN.{ℤ}
use Rattle.syntax.specs.Abstract.{ast}
use Rattle.semantics.specs.Int.{Op}
use Rattle.semantics.specs.Does.{does, Sure}
use Rattle.text_rules.proofs.Sure.{program-sure}
use Rattle.checker.specs.Check.{accepted, checked, program_of}
use Rattle.checker.specs.Accepted.{KeepsRules}
use Rattle.checker.proofs.Exactly.{exactly}
use Rattle.checker.proofs.Resolving.{value, means, accepted-resolves}

pub kept-sure : (text : List ℕ) (k : KeepsRules text) {X : Type 0} (num : ℤ → X) (work : Op → X → X → X) (most : ℕ) → Sure (does num work most (program_of text k.tokens k.tree))
kept-sure text k num work most = program-sure (value text k) (means text k) (ast k.tree) (program_of text k.tokens k.tree) (accepted-resolves text k) k.assigned num work most

-- the same of a text that check accepts
pub accepted-sure : (text : List ℕ) (e : checked text ≡ accepted) {X : Type 0} (num : ℤ → X) (work : Op → X → X → X) (most : ℕ)
    → Sure (does num work most (program_of text ((exactly text).0 e).tokens ((exactly text).0 e).tree))
accepted-sure text e num work most = kept-sure text ((exactly text).0 e) num work most
