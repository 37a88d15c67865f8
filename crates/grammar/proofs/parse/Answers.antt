use mathlib.Core.Path.{refl, ◌∙◌}
use Rattle.std.proofs.Common.{rules}
use Rattle.grammar.proofs.Steps.{added-length}
use Rattle.grammar.proofs.Whole.{begin-ready, no-funs-at, whole-stop, whole-tree, whole-bad, same-nodes, same-length}
use Rattle.syntax.specs.Tree.{no_funs}
use Rattle.grammar.proofs.parse.Goals as goal

pub returns-in_err-next-clause-answer : goal.returns-in_err-next-clause-answer
returns-in_err-next-clause-answer c = let s = c.functions.ensures.same ∙ c.add-none.ensures.same in same-nodes (search rules) (whole-bad (begin-ready refl c.requires c.add-none.ensures) (c.in_err-next.ensures.after no_funs (no-funs-at refl c.requires c.add-none.ensures)) refl c.from_residual.ensures)

pub returns-in_err-next-clause-kept : goal.returns-in_err-next-clause-kept
returns-in_err-next-clause-kept c = let s = c.functions.ensures.same ∙ c.add-none.ensures.same in same-length _ (search rules) ((c.in_err-next.ensures.after no_funs (no-funs-at refl c.requires c.add-none.ensures)).long ∙ added-length c.add-none.ensures)

pub returns-in_err-expect-clause-answer : goal.returns-in_err-expect-clause-answer
returns-in_err-expect-clause-answer c = let s = c.functions.ensures.same ∙ c.add-none.ensures.same in same-nodes (search rules) (whole-stop (begin-ready refl c.requires c.add-none.ensures) (c.in_ok-next.ensures.after no_funs (no-funs-at refl c.requires c.add-none.ensures)) refl c.in_err-expect.ensures c.from_residual-in_err-expect.ensures)

pub returns-in_err-expect-clause-kept : goal.returns-in_err-expect-clause-kept
returns-in_err-expect-clause-kept c = let s = c.functions.ensures.same ∙ c.add-none.ensures.same in same-length _ (search rules) ((c.in_ok-next.ensures.after no_funs (no-funs-at refl c.requires c.add-none.ensures)).long ∙ added-length c.add-none.ensures)

pub returns-clause-answer : goal.returns-clause-answer
returns-clause-answer c = let s = c.functions.ensures.same ∙ c.add-none.ensures.same in same-nodes (search rules) (whole-tree (begin-ready refl c.requires c.add-none.ensures) (c.in_ok-next.ensures.after no_funs (no-funs-at refl c.requires c.add-none.ensures)) refl c.in_ok-expect.ensures)

pub returns-clause-kept : goal.returns-clause-kept
returns-clause-kept c = let s = c.functions.ensures.same ∙ c.add-none.ensures.same in same-length _ (search rules) ((c.in_ok-next.ensures.after no_funs (no-funs-at refl c.requires c.add-none.ensures)).long ∙ added-length c.add-none.ensures)
