use Rattle.std.specs.Prelude.{Ok}
use mathlib.Core.Path.{subst, sym}
use Rattle.settings.specs.declared.Tally.{Tally}
use Rattle.settings.specs.Tries.{Charged}
use Rattle.settings.proofs.Counting.{charges, charged-none, charged-one}
use Rattle.settings.proofs.Tally.charge.Goals as goal

pub returns-then-self-eq0 : goal.returns-then-self-eq0
returns-then-self-eq0 c = charged-none c.args.self c.if-self-eq0.true

pub returns : goal.returns
returns c =
    subst (λ (u : Tally). Charged c.args.self (charges c.args.self) (Ok u)) (sym c.spend.ensures) (charged-one c.args.self c.if-self-eq0.false)
