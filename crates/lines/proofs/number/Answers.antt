use native.Mathlib.Omega.{arith}
use borrow.Author.Rules.{rules}
use mathlib.Core.Path.{◌≡◌, ap, ◌∙◌}
use lib.ListN.{get_or, length}
use Rattle.lines.specs.JobLine.{minus}
use Rattle.lines.proofs.Words.{whole-rest, with-minus, without-minus, no_number}
use Rattle.lines.proofs.number.Goals.{in_default-via-then-word-lt1, in_default-via-else-word-lt1+in_default-1}
use Rattle.lines.proofs.number.Goals as goal

pub returns-in-45 : goal.returns-in-45
returns-in-45 c =
    let f : get_or c.args.word.now 0 0 ≡ 45 = search rules in
    c.minus.ensures ∙ ap minus (whole-rest c.args.word.now 1) ∙ with-minus c.args.word.now (omega arith) f

pub returns-in_default : goal.returns-in_default
returns-in_default c = elim c.in_default.branch [
  | in_default-via-then-word-lt1 w ↦
      let f : length c.args.word.now ≡ 0 = search rules in
      c.plain.ensures ∙ no_number c.args.word.now f
  | in_default-via-else-word-lt1+in_default-1 w ↦
      let f : ¬ (get_or c.args.word.now 0 0 ≡ 45) = search rules in
      c.plain.ensures ∙ without-minus c.args.word.now f
]
