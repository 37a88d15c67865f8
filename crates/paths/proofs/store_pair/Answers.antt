use mathlib.Core.Path.{◌≡◌, ap, ap₂, ◌∙◌}
use mathlib.Core.List.{List, [], ◌∷◌}
use lib.IntN.{ℤ}
use lib.ListN.{length, set}
use mir.Syntax.{w32}
use mir.Val.{to_z, of_z, SFits}
use mir.Facts.{to_z-of_z}
use Rattle.semantics.specs.Search.{to}
use Rattle.intervals.specs.Meaning.{of_window}
use Rattle.paths.proofs.Narrowing.{ends, stored}
use borrow.Author.Rules.{rules}
use Rattle.paths.proofs.store_pair.Goals as goal

pub returns : goal.returns
returns c =
    let l : SFits w32 c.args.w.low = search rules in
    let h : SFits w32 c.args.w.high = search rules in
    let p : List ℤ = to_z w32 (of_z w32 c.args.w.low) ∷ to_z w32 (of_z w32 c.args.w.high) ∷ [] in
    let n : length c.with_pair.result ≡ 8 = search rules in
    stored c.args.mem.now c.put.new.mem c.args.at c.with_pair.result c.args.k p (of_window c.args.w) c.requires.0 c.requires.1 c.put.ensures
    (c.with_pair.ensures ∙ ap (λ (l : List (List ℤ)). set l c.args.k p) c.load-ws.ensures)
    (ap₂ to (to_z-of_z l) (to_z-of_z h)) n (ends c.with_pair.result c.with_pair.type_inv.0 c.with_pair.type_inv.1.1)
