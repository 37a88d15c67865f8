-- What it means that a text keeps the grammar, and which token is the first that does not fit (document 01, number 4).
-- Both speak of trees and their tokens alone; that the readers decide this is proved in proofs/Grammar.
use Rattle.std.specs.Prelude.{ℕ, suc, ◌<◌, ◌≡◌, List, [], ◌∷◌, ◌++◌, length, get_or, take}
use Rattle.syntax.specs.Token.{k_end}
use Rattle.syntax.specs.Tree.{Tree, prog, onto, numbered}

-- the kinds of the tokens of a whole text: the last is the end, and no other
pub record Tokens (ks : List ℕ) : Type 0 where
  pub filled : 0 < length ks
  pub ends : (a : ℕ) → suc a ≡ length ks → get_or ks a 0 ≡ k_end
  pub only : (a : ℕ) → a < length ks → get_or ks a 0 ≡ k_end → suc a ≡ length ks

-- the text is the program t, and each number in t is that of its token
pub record KeepsGrammar (ks : List ℕ) (t : Tree prog) : Type 0 where
  pub tokens : ks ≡ onto t (k_end ∷ [])
  pub numbers : t ≡ numbered 0 t

-- "the first token that no program could have there": some program begins with the tokens before token m, and none with these and token m
pub record First-bad (ks : List ℕ) (m : ℕ) : Type 0 where
  pub inside : m < length ks
  pub program : Tree prog
  pub rest : List ℕ
  pub begins : onto program (k_end ∷ []) ≡ take m ks ++ rest
  pub none : (t : Tree prog) (more : List ℕ) → onto t (k_end ∷ []) ≡ take m ks ++ get_or ks m k_end ∷ more → ⊥
