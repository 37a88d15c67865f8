use Prim.Native.Nat.{◌/◌}
use mathlib.Core.Path.{◌≡◌}
use lib.ListN.{length}
use Rattle.intervals.specs.Meaning.{of_window}
use Rattle.walks.specs.Walk.{Begins}
use Rattle.search.proofs.Searching.{Between}
use Rattle.search.proofs.run.Given as goal

abbrev pub invariant-loop-next : goal.invariant-loop-next
invariant-loop-next l = Between l.code (of_window l.job) l.limit l.skip (length l.initial.rows / 10) l.budget l.initial.mem l.initial.rows l.mem l.rows l.path.forced l.path.tally × Begins l.code (of_window l.job) l.mem l.path.forced l.path.stack × (l.path.stack.limit ≡ l.limit)

abbrev pub decreases-loop-next : goal.decreases-loop-next
decreases-loop-next l = l.path.tally.budget
