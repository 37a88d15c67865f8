use Rattle.std.proofs.Common.{rules}
use native.Mathlib.Omega.{arith}
use Rattle.writer.proofs.Answered.{low-place, printed-number, printed-whole}
use Rattle.writer.proofs.print.Goals as goal

pub overflow_cast-refusal : goal.overflow_cast-refusal
overflow_cast-refusal c = omega (arith, low-place _ _ c.in-Err.ensures)

pub returns-in-Err : goal.returns-in-Err
returns-in-Err c = printed-number _ _ (search rules) c.from-number.ensures c.in-Err.ensures (search rules) c.put_refusal.ensures

pub returns-in-Ok : goal.returns-in-Ok
returns-in-Ok c = printed-whole _ _ (search rules) c.in-Ok.ensures
