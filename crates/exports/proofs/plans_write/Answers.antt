use native.Mathlib.Omega.{arith}
use Rattle.std.specs.Prelude.{Ok, Err}
use lib.ListN.{length-set}
use Rattle.writer.proofs.Answered.{low-place, low-length}
use Rattle.exports.proofs.Styles.{write-short, write-out}
use Rattle.exports.proofs.plans_write.Goals as goal

pub returns-then-words-lt3 : goal.returns-then-words-lt3
returns-then-words-lt3 c = write-short _ _ _ c.if-words-lt3.true

pub overflow_cast-answer : goal.overflow_cast-answer
overflow_cast-answer c = omega (arith, low-place _ _ (rw c.in-Err.is at c.write.ensures))

pub bounds-answer-1 : goal.bounds-answer-1
bounds-answer-1 c = simp length-set (omega arith)

pub bounds-answer-1-in-Ok : goal.bounds-answer-1-in-Ok
bounds-answer-1-in-Ok c = simp length-set (omega arith)

pub overflow_cast-answer-in-Ok : goal.overflow_cast-answer-in-Ok
overflow_cast-answer-in-Ok c = omega (arith, low-length _ _ (rw c.in-Ok.is at c.write.ensures))

pub bounds-answer-2-in-Ok : goal.bounds-answer-2-in-Ok
bounds-answer-2-in-Ok c = simp length-set (omega arith)

pub returns-in-Err : goal.returns-in-Err
returns-in-Err c = rw c.from.ensures (write-out _ _ c.args.answer.now (Err _) _ (rw c.in-Err.is at c.write.ensures) c.if-words-lt3.false)

pub returns-in-Ok : goal.returns-in-Ok
returns-in-Ok c = write-out _ _ c.args.answer.now (Ok _) _ (rw c.in-Ok.is at c.write.ensures) c.if-words-lt3.false
