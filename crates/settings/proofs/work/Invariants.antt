use mathlib.Core.Path.{◌≡◌}
use lib.ListN.{length}
use Rattle.settings.specs.Table.{Worked, Renumbered}
use Rattle.settings.proofs.work.Given as goal

abbrev pub invariant-loop-j : goal.invariant-loop-j
invariant-loop-j l = (length l.mem ≡ length l.initial.mem) × Worked l.mem l.j l.k × Renumbered l.initial.mem l.mem
