use Prim.Native.Nat.{ℕ, ◌≤◌, ◌<◌}
use mathlib.Core.Path.{◌≡◌}
use Rattle.settings.proofs.Turns.{Top}
use Rattle.settings.proofs.next_setting.Given as goal

abbrev pub invariant-loop-i : goal.invariant-loop-i
invariant-loop-i l = (l.i ≤ l.k) × (l.mem ≡ l.initial.mem) × ((j : ℕ) → l.i ≤ j → j < l.k → Top l.mem j)
