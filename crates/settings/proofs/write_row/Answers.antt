use Prim.Native.Nat.{ℕ}
use mathlib.Core.Path.{subst}
use native.Mathlib.Omega.{arith}
use lib.IntN.{ℤ}
use mir.Syntax.{w32}
use mir.Val.{to_z, of_z}
use mir.Facts.{to_z-of_z}
use Rattle.machine.specs.Memory.{setting_in}
use Rattle.settings.specs.Rows.{row_with}
use Rattle.settings.proofs.Entries.{setting-length}
use Rattle.settings.proofs.Sheet.{Wording, written}
use Rattle.settings.proofs.write_row.Goals as goal

pub returns : goal.returns
returns c =
    written c.args.rows.now c.loop-j.rows c.args.n (row_with c.args.res (setting_in c.args.mem.now c.args.k)) (omega (arith, setting-length c.args.mem.now c.args.k, c.requires.0))
    (subst (λ (z : ℤ). Wording c.args.rows.now c.loop-j.rows c.args.n 10 (row_with z (setting_in c.args.mem.now c.args.k))) (to_z-of_z c.ranges.res)
    (subst (λ (j : ℕ). Wording c.args.rows.now c.loop-j.rows c.args.n j (row_with (to_z w32 (of_z w32 c.args.res)) (setting_in c.args.mem.now c.args.k))) (omega arith) c.loop-j.invariant.2))
