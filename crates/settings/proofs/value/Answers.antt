use mir.Syntax.{w32}
use mathlib.Core.Path.{◌∙◌}
use native.Mathlib.Omega.{arith}
use mir.Facts.{to_z-of_z}
use Rattle.settings.proofs.Entries.{setting-at, setting-none}
use Rattle.settings.proofs.value.Goals as goal

pub returns-then-i-k : goal.returns-then-i-k
returns-then-i-k c =
    to_z-of_z {w = w32} (record { sfits = c.signed.type_inv }) ∙ c.signed.ensures ∙ setting-at c.args.mem.now c.args.k c.args.i c.if-i-k.true

pub returns : goal.returns
returns c =
    setting-none c.args.mem.now c.args.k c.args.i (omega arith)
