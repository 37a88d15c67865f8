use mir.Syntax.{w32}
use mathlib.Core.Path.{sym, ap₂, ◌∙◌}
use mir.Facts.{to_z-of_z}
use native.Mathlib.Omega.{arith}
use Rattle.semantics.specs.Search.{to}
use Rattle.paths.proofs.Table.{ranges-get, ranges-none}
use Rattle.paths.proofs.node_range.Goals as goal

pub returns-then-i-n : goal.returns-then-i-n
returns-then-i-n c =
    ap₂ to (to_z-of_z {w = w32} (record { sfits = c.signed.type_inv }) ∙ c.signed.ensures) (to_z-of_z {w = w32} (record { sfits = c.signed-then-i-n.type_inv }) ∙ c.signed-then-i-n.ensures)
    ∙ sym (ranges-get c.args.mem.now c.args.n c.args.i c.if-i-n.true)

pub returns : goal.returns
returns c =
    sym (ranges-none c.args.mem.now c.args.n c.args.i (omega arith))
