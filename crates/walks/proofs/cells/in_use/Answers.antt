use mathlib.Core.Path.{sym, subst}
use mathlib.Core.List.{map, []}
use native.Mathlib.Omega.{arith}
use Rattle.code.specs.Meaning.{as_entry}
use Rattle.std.proofs.lemmas.List.{get_or-map, length-map}
use Rattle.simulation.specs.Cells.{Fills}
use Rattle.walks.proofs.InUse.{uses-so, one_more}
use Rattle.walks.proofs.cells.in_use.Goals as goal

pub returns : goal.returns
returns c = (λ starts. uses-so (record { entries = map as_entry c.args.entries.now; starts = starts }) c.loop-entry.n (λ i l. c.loop-entry.invariant.0 i (omega (arith, l, c.loop-entry-test.false, length-map c.args.entries.now as_entry))), c.loop-entry.invariant.1)

pub loop-entry-preserved : goal.loop-entry-preserved
loop-entry-preserved c = (
  one_more (record { entries = map as_entry c.args.entries.now; starts = [] }) c.loop-entry.entry-index c.loop-entry.n c.filled.result c.max-n.result c.loop-entry.invariant.0
      (subst (Fills c.filled.result) (sym (get_or-map as_entry c.args.entries.now c.loop-entry.entry-index _ _ c.loop-entry-test.true)) c.filled.ensures.1)
      (omega (arith, c.max-n.ensures)) (omega (arith, c.max-n.ensures)),
  omega (arith, c.max-n.ensures, c.filled.ensures.0, c.loop-entry.invariant.1),
)
