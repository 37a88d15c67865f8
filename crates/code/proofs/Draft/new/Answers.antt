use mathlib.Core.Path.{refl}
use native.Mathlib.Omega.{arith}
use Rattle.std.proofs.lemmas.List.Elements.{All-replicate}
use Rattle.code.specs.Meaning.{Exact}
use Rattle.code.specs.declared.Entry.TheVariants.{Fail}
use Rattle.code.proofs.Draft.new.Goals as goal

pub invariant_of-result : goal.invariant_of-result
invariant_of-result c = (omega arith, refl, refl, All-replicate Exact 2052 Fail tt)
