use mir.Syntax.{w32}
use mathlib.Core.Path.{sym, ap₂, ◌∙◌}
use mir.Facts.{to_z-of_z}
use native.Mathlib.Omega.{arith}
use Rattle.semantics.specs.Search.{to}
use Rattle.paths.proofs.Table.{windows-get, windows-none}
use Rattle.paths.proofs.window_of.Goals as goal

pub returns-then-i-k : goal.returns-then-i-k
returns-then-i-k c =
    ap₂ to (to_z-of_z {w = w32} (record { sfits = c.signed.type_inv }) ∙ c.signed.ensures) (to_z-of_z {w = w32} (record { sfits = c.signed-then-i-k.type_inv }) ∙ c.signed-then-i-k.ensures)
    ∙ sym (windows-get c.args.mem.now c.args.k c.args.i c.requires.0 c.if-i-k.true)

pub returns : goal.returns
returns c =
    sym (windows-none c.args.mem.now c.args.k c.args.i (omega arith))
