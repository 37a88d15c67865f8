use mathlib.Core.Path.{◌∙◌, ap, sym}
use native.Mathlib.Omega.{arith}
use mir.Syntax.{w32}
use mir.Facts.{to_z-of_z}
use Rattle.simulation.specs.Nodes.{number_in}
use Rattle.machine.specs.Memory.{numbers_in}
use Rattle.machine.specs.Terms.{cell_of}
use Rattle.machine.specs.declared.Value.{Value}
use Rattle.settings.proofs.Entries.{word-there, word_none}
use Rattle.settings.proofs.result.Goals as goal

pub returns-then-j-n : goal.returns-then-j-n
returns-then-j-n c =
    to_z-of_z {w = w32} (record { sfits = c.signed.type_inv }) ∙ c.signed.ensures ∙ word-there c.args.mem.now c.args.n c.in-Open.j c.if-j-n.true
    ∙ ap (λ (v : Value). number_in (numbers_in c.args.mem.now c.args.n) (cell_of v)) (sym c.in-Open.is)

pub returns-else-j-n : goal.returns-else-j-n
returns-else-j-n c =
    word_none c.args.mem.now c.args.n c.in-Open.j (omega arith) ∙ ap (λ (v : Value). number_in (numbers_in c.args.mem.now c.args.n) (cell_of v)) (sym c.in-Open.is)
