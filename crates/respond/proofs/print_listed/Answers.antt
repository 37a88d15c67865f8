use native.Mathlib.Omega.{arith}
use borrow.Author.Rules.{rules}
use Rattle.respond.proofs.Puts.{put_refused}
use Rattle.respond.proofs.print_listed.Goals as goal

pub overflow_cast-refusal : goal.overflow_cast-refusal
overflow_cast-refusal c = omega (arith, (rw c.in-Err.is at c.requires.0).near)

pub print_rows-requires : goal.print_rows-requires
print_rows-requires c =
    let s = rw c.in-Ok.is at c.requires.0 in
    (s.few, omega (arith, s.few, c.requires.1))

pub returns-in-Ok : goal.returns-in-Ok
returns-in-Ok c = rw c.in-Ok.is c.print_rows.ensures

pub returns-in-Err : goal.returns-in-Err
returns-in-Err c =
    let w = rw c.from-number.ensures at c.put_refusal.ensures in
    rw c.in-Err.is (put_refused c.args.layout _ _ c.args.rows.now (search rules) (omega (arith, (rw c.in-Err.is at c.requires.0).near)) w)
