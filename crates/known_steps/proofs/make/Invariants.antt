use mathlib.Core.Path.{◌≡◌}
use Prim.Native.Nat.{◌≤◌}
use lib.ListN.{length}
use Rattle.simulation.specs.Measure.{turns_left}
use Rattle.machine.specs.Memory.{machine_at}
use Rattle.paths.specs.Point.{state_at, Going}
use Rattle.known_steps.specs.Turns.{Turns}
use Rattle.known_steps.proofs.make.Given as goal

abbrev pub invariant-loop-next : goal.invariant-loop-next
invariant-loop-next l = Turns l.code l.initial.mem l.initial.p l.mem l.p × Going l.mem l.p × (l.floor ≤ l.p.steps) × (length l.mem ≡ length l.initial.mem)

abbrev pub decreases-loop-next : goal.decreases-loop-next
decreases-loop-next l = turns_left l.code (machine_at l.mem l.p.run) (state_at l.mem l.p)
