use mathlib.Core.Path.{ap, ◌∙◌}
use Rattle.ints.specs.Meaning.{of_comparison}
use Rattle.paths.specs.declared.Point.{Point}
use Rattle.paths.specs.Point.{flagging}
use Rattle.paths.proofs.Comparing.{said, compared-so, chosen-so}
use Rattle.paths.proofs.compare.Goals as goal

pub returns-in-Some : goal.returns-in-Some
returns-in-Some c =
    let k = of_comparison c.args.c in
    compared-so c.args.mem.now c.args.p k c.args.v c.args.w c.requires.0 c.requires.1 c.in-Some.o c.flag.result
    (said k c.decide.result _ c.range_of-a.result c.range_of-b.result _ _
    c.in-Some.is c.decide.ensures c.range_of-a.ensures
    c.range_of-b.ensures) c.flag.ensures

pub returns-in-None : goal.returns-in-None
returns-in-None c =
    let k = of_comparison c.args.c in
    chosen-so c.args.mem.now c.args.p k c.args.v c.args.w c.requires.0 c.requires.1 c.choose-o.new.mem c.choose-o.result c.flag-in-None.result
    c.choose-o.auto.mem (said k c.decide.result _
    c.range_of-a.result
    c.range_of-b.result _ _ c.in-None.is
    c.decide.ensures
    c.range_of-a.ensures
    c.range_of-b.ensures) c.choose-o.ensures
    (c.flag-in-None.ensures ∙ ap (λ (q : Point). flagging q c.choose-o.result) c.count.ensures)
