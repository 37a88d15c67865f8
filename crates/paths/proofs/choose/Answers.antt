use mathlib.Core.Path.{sym, ◌∙◌, subst}
use Rattle.semantics.specs.Int.{Cmp}
use Rattle.ints.specs.Meaning.{of_comparison}
use Rattle.paths.specs.Choice.{Undecided}
use Rattle.paths.proofs.Choosing.{other-both, noted-tables, noted-undecided, chose-so}
use Rattle.paths.proofs.choose.Goals as goal

pub narrow-requires : goal.narrow-requires
narrow-requires c =
    let o = other-both c.take-o.ensures c.note.ensures in (
      noted-tables c.args.p.choices o c.args.p.windows c.args.p.run.nodes (c.note.auto.mem
          ∙ c.take-o.auto.mem) c.requires.0.tables,
      subst (λ (d : Cmp). Undecided c.note.new.mem c.args.p.run.nodes d c.args.v c.args.w) (sym c.holding-held.ensures)
          (noted-undecided c.args.p.choices o c.args.p.run.nodes (of_comparison c.args.c) c.take-o.result
          c.args.v c.args.w c.requires.2),
    )

pub returns : goal.returns
returns c =
    chose-so c.args.mem.now c.take-o.new.mem
    c.note.new.mem c.narrow.new.mem c.args.p (of_comparison c.args.c)
    (of_comparison c.holding-held.result) c.args.v c.args.w
    c.take-o.result
    c.take-o.ensures c.note.ensures
    c.narrow.ensures c.holding-held.ensures c.requires.0 c.requires.2
