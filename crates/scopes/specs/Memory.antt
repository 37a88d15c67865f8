-- The scope as the code holds it: the declarations that can be seen, and where the open blocks begin among them.
use Rattle.std.specs.Prelude.{ℕ, ◌^◌, ◌≤◌, ◌<◌, ◌≡◌, List, [], ◌∷◌, length, map, take, drop, reverse}
use Rattle.text_rules.specs.Names.{Declared, variable, seen}
use Rattle.text_rules.specs.Scopes.{Scope, scope}
use Rattle.scopes.specs.declared.scope.Declaration as C

-- the declaration that a value of the code stands for
abbrev pub as_declared : C.Declaration → Declared
as_declared d = variable d.name d.slot

-- the blocks, the innermost first: ds are the declarations, the earliest first, and the numbers say where the blocks begin among them, the innermost first
unfoldable pub blocks_of : List Declared → List ℕ → List (List Declared)
blocks_of ds [] = []
blocks_of ds (s ∷ ss) = reverse (drop s ds) ∷ blocks_of (take s ds) ss

-- what the declarations, the beginnings of the blocks, the outermost first, and the next number mean
abbrev pub scope_of : List C.Declaration → List ℕ → ℕ → Scope
scope_of ds ss n = scope (blocks_of (map as_declared ds) (reverse ss)) n

-- the blocks lie one after the other, and end before the declaration `end`
abbrev pub Ordered : ℕ → List ℕ → Type 0
Ordered end [] = Unit
Ordered end (s ∷ ss) = (s ≤ end) × Ordered s ss

-- and no declaration stands before the first of them
abbrev pub Packed : ℕ → List ℕ → Type 0
Packed end [] = end ≡ 0
Packed end (s ∷ ss) = (s ≤ end) × Packed s ss

-- there is room for m blocks and for m declarations, and some of it is left
pub record Room (m : ℕ) (s : Scope) : Type 0 where
  pub size : m < 2 ^ 32
  pub blocks : length s.blocks < m
  pub seen : length (seen s.blocks) < m
  pub next : s.next < 2 ^ 32
