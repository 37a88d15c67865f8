use native.Mathlib.Omega.{arith}
use Rattle.exports.proofs.put_listed.Goals as goal

pub overflow_cast-refusal : goal.overflow_cast-refusal
overflow_cast-refusal c = omega (arith, rw c.in-Err.is at c.requires.1)

pub overflow_cast-found : goal.overflow_cast-found
overflow_cast-found c = omega (arith, rw c.in-Ok.is at c.requires.1)

pub returns-in-Err : goal.returns-in-Err
returns-in-Err c = rw c.in-Err.is (rw c.from-number.ensures at c.put_words-in-Err.ensures)

pub returns-in-Ok : goal.returns-in-Ok
returns-in-Ok c = rw c.in-Ok.is (rw c.ending_number-ending.ensures at c.put_words.ensures)
