use native.Mathlib.Omega.{arith}
use borrow.Author.Tests.{lt-ltb, le-ltb}
use Rattle.exports.proofs.Places.{low-place}
use Rattle.exports.proofs.plans_check.Goals as goal

pub returns-then-answer-lt2 : goal.returns-then-answer-lt2
returns-then-answer-lt2 c = rw (lt-ltb _ _ c.if-answer-lt2.true)

pub overflow_cast-answer : goal.overflow_cast-answer
overflow_cast-answer c = omega (arith, low-place _ _ _ (rw c.in-Err.is at c.check.ensures))

pub returns-in-Ok : goal.returns-in-Ok
returns-in-Ok c = rw (le-ltb _ _ c.if-answer-lt2.false, ← (rw c.in-Ok.is at c.check.ensures))

pub returns-in-Err : goal.returns-in-Err
returns-in-Err c = rw (le-ltb _ _ c.if-answer-lt2.false, c.from-reason.ensures, ← (rw c.in-Err.is at c.check.ensures))
