-- A group of sixteen variables, from `base` on. The variables outside it count as assigned.
use Rattle.std.specs.Prelude.{ℕ, ◌+◌, ◌-◌, Bool, true, false, cond, ◌&&◌, List, [], ◌∷◌, leb, ltb, get_or}

abbrev pub group_size : ℕ
group_size = 16

-- the variable v is in the group
unfoldable pub among : ℕ → ℕ → Bool
among base v = leb base v && ltb v (base + group_size)

-- what f says of a variable of the group
unfoldable pub within : ℕ → (ℕ → Bool) → ℕ → Bool
within base f v = cond (among base v) (f v) true

-- what the array of a group says
abbrev pub only : ℕ → List Bool → ℕ → Bool
only base set = within base (λ v. get_or set (v - base) false)

-- the tokens of a list whose variable is in the group, if `means i` is the variable of token i
unfoldable pub of_group : (ℕ → ℕ) → ℕ → List ℕ → List ℕ
of_group means base [] = []
of_group means base (i ∷ is) = cond (among base (means i)) (i ∷ of_group means base is) (of_group means base is)
