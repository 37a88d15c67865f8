use mathlib.Core.Path.{ap, ◌∙◌}
use native.Mathlib.Omega.{arith}
use lib.ListN.{length}
use Rattle.checker.proofs.Passing.{passed}
use Rattle.checker.proofs.Settling.{is-bad, is-tree, can-walk, few-tokens, own-tokens, settles-bad, settles-refused, settles-tree}
use Rattle.checker.proofs.settle.Goals as goal

pub inspect-requires : goal.inspect-requires
inspect-requires c =
    (can-walk c.requires.0 c.requires.1 (is-tree c.in-Ok.ensures.answer) (c.parse.ensures.kept ∙ c.requires.2), c.requires.0.filled, c.requires.1, c.requires.3)

pub returns-in-Err : goal.returns-in-Err
returns-in-Err c = rw c.refusal.ensures (settles-bad _ _ _ _ _ (is-bad c.in-Err.ensures.answer))

pub returns-in_err-inspect-in-Ok : goal.returns-in_err-inspect-in-Ok
returns-in_err-inspect-in-Ok c =
    let read = is-tree c.in-Ok.ensures.answer in
    rw (passed _ c.from_residual.ensures.1)
    (settles-refused _ _ _ _ _ read (few-tokens c.requires.0 c.requires.1 read) (own-tokens c.requires.0 c.requires.1 read) c.in_err-inspect-in-Ok.ensures)

pub returns-in_ok-inspect-in-Ok : goal.returns-in_ok-inspect-in-Ok
returns-in_ok-inspect-in-Ok c =
    let read = is-tree c.in-Ok.ensures.answer in
    settles-tree _ _ _ _ _ read (few-tokens c.requires.0 c.requires.1 read) (own-tokens c.requires.0 c.requires.1 read) (c.parse.ensures.kept ∙ c.requires.2) (omega (arith, c.inspect.auto.slots, ap length c.requires.3)) c.in_ok-inspect-in-Ok.ensures
