use Prim.Native.Nat.{◌≤◌, ◌-◌}
use mathlib.Core.Path.{◌≡◌}
use Rattle.simulation.specs.Odometer.{filled}
use Rattle.machine.specs.Memory.{windows_in}
use Rattle.settings.specs.Table.{window_at}
use Rattle.settings.proofs.Turns.{tab}
use Rattle.settings.proofs.filled.Given as goal

abbrev pub invariant-loop-i : goal.invariant-loop-i
invariant-loop-i l = (l.i ≤ l.k) × (filled (windows_in l.mem l.k) ≡ filled (tab (window_at l.mem) l.i (l.k - l.i)))
