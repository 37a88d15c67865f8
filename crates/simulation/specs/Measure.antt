-- How far a path is from its end.
use Rattle.std.specs.Prelude.{ℕ, suc, ◌+◌, ◌-◌, ◌*◌, length}
use Rattle.semantics.specs.Search.{Value}
use Rattle.simulation.specs.Code.{Code}
use Rattle.simulation.specs.Machine.{Machine}
use Rattle.simulation.specs.Path.{State}

-- it falls with each silent move: a jump goes forward, and a return leaves a caller less
abbrev pub silents : {X : Type 0} → Code → Machine X → ℕ
silents c m = length m.callers * suc (length c.entries) + (length c.entries - m.pc)

-- no more silent moves than this follow one another: at most 32 calls nest
abbrev pub most_silents : Code → ℕ
most_silents c = 32 * suc (length c.entries) + length c.entries

-- it falls with each turn
abbrev pub turns_left : Code → Machine Value → State → ℕ
turns_left c m s = s.steps * suc (most_silents c) + silents c m

-- more turns than a path of at most `most` steps can have
abbrev pub most_turns : Code → ℕ → ℕ
most_turns c most = suc most * suc (most_silents c)
