use mathlib.Core.Path.{◌∙◌}
use native.Mathlib.Omega.{arith}
use lib.IntN.{pos}
use mir.Syntax.{w32}
use mir.Facts.{to_z-of_z}
use Rattle.machine.specs.Memory.{setting_in}
use Rattle.settings.proofs.Entries.{setting-length}
use Rattle.settings.proofs.Sheet.{word-second, word-later}
use Rattle.settings.proofs.row_word.Goals as goal

pub returns-in-1 : goal.returns-in-1
returns-in-1 c =
    to_z-of_z {w = w32} {z = pos c.args.k} (record { sfits = omega (arith, c.requires.0) })
    ∙ word-second c.args.res (setting_in c.args.mem.now c.args.k) c.args.j c.args.k c.in-1.is (setting-length c.args.mem.now c.args.k)

pub returns-in_default : goal.returns-in_default
returns-in_default c =
    to_z-of_z {w = w32} (record { sfits = c.value.type_inv }) ∙ c.value.ensures ∙ word-later c.args.res (setting_in c.args.mem.now c.args.k) c.args.j (omega arith) c.requires.2
