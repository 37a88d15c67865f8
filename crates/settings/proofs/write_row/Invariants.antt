use Prim.Native.Nat.{◌≤◌}
use mathlib.Core.Path.{◌≡◌}
use lib.ListN.{length}
use Rattle.machine.specs.Memory.{setting_in}
use Rattle.settings.specs.Rows.{row_with}
use Rattle.settings.proofs.Sheet.{Wording}
use Rattle.settings.proofs.write_row.Given as goal

abbrev pub invariant-loop-j : goal.invariant-loop-j
invariant-loop-j l = (l.j ≤ 10) × (length l.rows ≡ length l.initial.rows) × Wording l.initial.rows l.rows l.n l.j (row_with l.res (setting_in l.mem l.k))
