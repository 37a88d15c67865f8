use Prim.Native.Nat.{◌*◌, ◌-◌, ◌/◌, ◌≤◌, ◌<◌}
use mathlib.Core.Path.{◌≡◌}
use lib.ListN.{length, drop}
use Rattle.printing.specs.Written.{Put}
use Rattle.lines.specs.Written.{rows_of}
use Rattle.pages.proofs.Sheet.{full_pages}
use Rattle.pages.proofs.put_pages.Given as goal

abbrev pub invariant-loop-rest : goal.invariant-loop-rest
invariant-loop-rest l = record {
  behind : l.rest ≡ drop (10 * (58 * (l.number - 1))) l.rows;
  numbered : 1 ≤ l.number;
  within : 58 * (l.number - 1) ≤ length l.rows / 10;
  needed : 0 < l.number - 1 → 58 * (l.number - 1) < length l.rows / 10;
  written : Put l.initial.out 0 (full_pages (l.number - 1) (rows_of l.rows)) l.out l.p;
}

abbrev pub decreases-loop-rest : goal.decreases-loop-rest
decreases-loop-rest l = length l.rest
