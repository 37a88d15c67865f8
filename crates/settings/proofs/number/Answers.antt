use mir.Syntax.{w32}
use mathlib.Core.Path.{◌∙◌}
use native.Mathlib.Omega.{arith}
use mir.Facts.{to_z-of_z}
use Rattle.settings.proofs.Entries.{number-there, number-none}
use Rattle.settings.proofs.number.Goals as goal

pub returns-then-i-n : goal.returns-then-i-n
returns-then-i-n c =
    to_z-of_z {w = w32} (record { sfits = c.signed-then-i-n.type_inv }) ∙ c.signed-then-i-n.ensures ∙ number-there c.args.mem.now c.args.n c.args.kind c.args.x c.if-kind-eq0.false c.if-i-n.true

pub returns : goal.returns
returns c =
    number-none c.args.mem.now c.args.n c.args.kind c.args.x c.if-kind-eq0.false (omega arith)
