-- Cells by their two words.
use Rattle.std.specs.Prelude.{ℕ, zero, suc}
use Rattle.std.specs.Int.{w32}
use Rattle.std.proofs.Common.{to_z}
use Rattle.machine.specs.declared.Value.{Value}
use Rattle.machine.specs.declared.Value.TheVariants.{Known, Open}

-- the value of a cell with these two words
abbrev pub value_as : ℕ → ℕ → Value
value_as zero x = Known (to_z w32 x)
value_as (suc n) x = Open x
