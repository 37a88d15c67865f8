use native.Mathlib.Omega.{arith}
use Rattle.std.specs.Prelude.{Ok, Err}
use lib.ListN.{length-set}
use Rattle.remarks.proofs.Answered.{low-remark, low_count}
use Rattle.exports.proofs.Remarks.{remarks-short, remarks-out}
use Rattle.exports.proofs.plans_remarks.Goals as goal

pub returns-then-answer-lt3 : goal.returns-then-answer-lt3
returns-then-answer-lt3 c = remarks-short _ _ _ c.if-answer-lt3.true

pub overflow_cast-answer : goal.overflow_cast-answer
overflow_cast-answer c = omega (arith, low-remark _ _ _ (rw c.in-Err.is at c.remarks.ensures))

pub bounds-answer-1 : goal.bounds-answer-1
bounds-answer-1 c = simp length-set (omega arith)

pub bounds-answer-1-in-Ok : goal.bounds-answer-1-in-Ok
bounds-answer-1-in-Ok c = simp length-set (omega arith)

pub overflow_cast-answer-in-Ok : goal.overflow_cast-answer-in-Ok
overflow_cast-answer-in-Ok c = omega (arith, low_count _ _ (rw c.in-Ok.is at c.remarks.ensures))

pub bounds-answer-2-in-Ok : goal.bounds-answer-2-in-Ok
bounds-answer-2-in-Ok c = simp length-set (omega arith)

pub returns-in-Err : goal.returns-in-Err
returns-in-Err c = rw c.from.ensures (remarks-out _ _ c.args.answer.now (Err _) _ (rw c.in-Err.is at c.remarks.ensures) c.if-answer-lt3.false)

pub returns-in-Ok : goal.returns-in-Ok
returns-in-Ok c = remarks-out _ _ c.args.answer.now (Ok _) _ (rw c.in-Ok.is at c.remarks.ensures) c.if-answer-lt3.false
