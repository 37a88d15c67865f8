use mathlib.Core.Path.{◌≡◌}
use lib.ListN.{length}
use Rattle.simulation.specs.Measure.{turns_left}
use Rattle.intervals.specs.Meaning.{of_window}
use Rattle.machine.specs.Memory.{machine_at}
use Rattle.paths.specs.Point.{state_at}
use Rattle.walks.proofs.Walking.{WalkedTo}
use Rattle.walks.proofs.walk.Given as goal

abbrev pub invariant-loop-o : goal.invariant-loop-o
invariant-loop-o l = WalkedTo l.code (of_window l.job) l.initial.s.limit l.budget (machine_at l.initial.mem l.initial.p.run) (state_at l.initial.mem l.initial.p) l.mem l.p l.s l.left × (length l.mem ≡ length l.initial.mem)

abbrev pub decreases-loop-o : goal.decreases-loop-o
decreases-loop-o l = turns_left l.code (machine_at l.mem l.p.run) (state_at l.mem l.p)
