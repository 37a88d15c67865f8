-- What deciding answers, in the words of `semantics`.
use Rattle.std.specs.Prelude.{Bool, Option as Answer, Some, None}
use Rattle.std.proofs.Math.Option.{Option, none, some}

-- "If the two ranges decide a comparison, it is decided."
abbrev pub of_decided : Answer Bool → Option Bool
of_decided (Some b) = some b
of_decided None = none
