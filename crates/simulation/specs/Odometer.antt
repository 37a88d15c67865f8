-- The settings one after another, as an odometer counts: "all settings of the path's free variables in their windows .. last variable fastest, each upward".
use Rattle.std.specs.Prelude.{Bool, true, false, ◌&&◌, List, [], ◌∷◌, ℤ}
use Rattle.std.proofs.Math.Option.{Option, none, some}
use Rattle.std.proofs.Math.IntN.{suc_ℤ}
use Rattle.std.specs.Int.Signed.{lt_z, le_z}
use Rattle.semantics.specs.Program.{Window}

-- every window has a number; otherwise there is no setting
unfoldable pub filled : List Window → Bool
filled [] = true
filled (w ∷ ws) = le_z w.low w.high && filled ws

-- the first setting: each variable at its window's low end
unfoldable pub lowest : List Window → List ℤ
lowest [] = []
lowest (w ∷ ws) = w.low ∷ lowest ws

-- the setting after this one, if there is one: the last variable that is below its window's high end goes up by one, and those behind it start anew
abbrev pub carried : Bool → List Window → ℤ → Option (List ℤ) → Option (List ℤ)
carried below ws v (some s) = some (v ∷ s)
carried true ws v none = some (suc_ℤ v ∷ lowest ws)
carried false ws v none = none

unfoldable pub after : List Window → List ℤ → Option (List ℤ)
after [] s = none
after (w ∷ ws) [] = none
after (w ∷ ws) (v ∷ s) = carried (lt_z v w.high) ws v (after ws s)
