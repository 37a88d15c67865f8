-- What the answers of the code mean.
use Rattle.std.specs.Prelude.{ℕ, Option, None, Some}
use Rattle.code.specs.declared.Address.{Address}
use Rattle.scopes.specs.declared.lookup.Sought.{Sought}

-- the number of an address
abbrev pub number_of : Option Address → Option ℕ
number_of None = None
number_of (Some a) = Some a.0

-- the slot that a lookup has found
abbrev pub slot_of : Sought → Option ℕ
slot_of s = number_of s.found

-- what was found, as a number
abbrev pub or_zero : Option ℕ → ℕ
or_zero None = 0
or_zero (Some n) = n
