use Prim.Native.Nat.{ℕ, ◌≤◌, ◌<◌}
use lib.ListN.{get_or}
use mathlib.Core.List.{map}
use Rattle.machine.specs.Layout.{frame_cells}
use Rattle.simulation.specs.Code.{act, fail}
use Rattle.simulation.specs.Cells.{Fills}
use Rattle.code.specs.Meaning.{as_entry}
use Rattle.walks.proofs.cells.in_use.Given as goal

abbrev pub invariant-loop-entry : goal.invariant-loop-entry
invariant-loop-entry l = ((i : ℕ) → i < l.entry-index → Fills l.n (get_or (map as_entry l.entries) i (act fail))) × (l.n ≤ frame_cells)
