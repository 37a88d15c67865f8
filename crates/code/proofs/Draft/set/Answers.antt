use Prim.Native.Nat.{◌<◌}
use native.Mathlib.Omega.{arith}
use mathlib.Core.Path.{◌≡◌, sym, ap, ◌∙◌}
use lib.ListN.{length, take}
use lib.Seq.{take-set-lt}
use Rattle.std.proofs.lemmas.List.{map-set, length-map, length-take-le}
use Rattle.simulation.specs.Code.{Code}
use Rattle.code.specs.Meaning.{as_entry}
use Rattle.code.proofs.Draft.set.Goals as goal

pub returns-clause-entries : goal.returns-clause-entries
returns-clause-entries c =
    let all = c.self.inside.entries in
    let count = c.self.inside.count in
    let e = ap (λ (d : Code). d.entries) c.self.view_is in
    let k : length c.args.self.now.entries ≡ count = sym (ap length e) ∙ length-map (take count all) as_entry ∙ length-take-le count all (omega arith) in
    let n : c.args.at < count = omega (arith, c.requires.0) in
    rw (take-set-lt count all c.args.at c.exact.result n, map-set as_entry (take count all) c.args.at c.exact.result, c.exact.ensures.0, e)
