use mathlib.Core.Path.{subst}
use native.Mathlib.Omega.{arith}
use lib.IntN.{ℤ}
use mir.Facts.{to_z-of_z}
use Rattle.machine.specs.Memory.{setting_in}
use Rattle.settings.specs.Rows.{row_with, Written}
use Rattle.settings.proofs.Entries.{setting-length}
use Rattle.settings.proofs.Counting.{placed-skip, placed-full, placed_row}
use Rattle.settings.proofs.place.Goals as goal

pub returns-then-t-gt0 : goal.returns-then-t-gt0
returns-then-t-gt0 c =
    placed-skip c.args.rows.now c.args.t (row_with c.args.res (setting_in c.args.mem.now c.args.k)) c.if-t-gt0.true

pub returns-then-t-eq0 : goal.returns-then-t-eq0
returns-then-t-eq0 c =
    placed-full c.args.rows.now c.args.t (row_with c.args.res (setting_in c.args.mem.now c.args.k)) (omega (arith, c.if-t-gt0.false)) c.if-t-eq0.true

pub returns : goal.returns
returns c =
    placed_row c.args.rows.now c.args.t (row_with c.args.res (setting_in c.args.mem.now c.args.k)) c.write_row.new.rows
    (omega (arith, setting-length c.args.mem.now c.args.k, c.requires.0))
    (omega (arith, c.if-t-gt0.false)) c.if-t-eq0.false
    (subst (λ (z : ℤ). Written c.args.rows.now c.write_row.new.rows c.args.t.written (row_with z (setting_in c.args.mem.now c.args.k)))
    (to_z-of_z c.ranges.res) c.write_row.ensures)
