use mathlib.Core.Path.{refl, sym, ap, ◌∙◌}
use Rattle.text_rules.specs.Scan.{least}
use Rattle.text_rules.specs.Rules.{mains, with_parameters}
use Rattle.text_rules.specs.Spelling.{main_in}
use Rattle.text_rules.proofs.Functions.{main-start, main-turn, main-end}
use Rattle.breaches.proofs.mains.mains_with.Goals as goal

pub loop-head-init : goal.loop-head-init
loop-head-init c = main-start _ _

pub loop-head-preserved : goal.loop-head-preserved
loop-head-preserved c = main-turn _ _ _ _ _ c.loop-head-test.true refl c.main_with-best.ensures ∙ c.loop-head.invariant

pub returns : goal.returns
returns c =
    sym (main-end _ _ _ _ c.loop-head-test.false)
    ∙ c.loop-head.invariant
    ∙ ap (λ hs. least (with_parameters (mains (main_in c.args.source.now) hs))) c.as_slice-head-items.ensures.heads
