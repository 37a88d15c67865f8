use Prim.Native.Nat.{◌≤◌}
use native.Mathlib.Omega.{arith}
use lib.ListN.{length}
use borrow.Author.Rules.{rules}
use Rattle.std.proofs.lemmas.List.{length-take}
use Rattle.remarks.proofs.Answered.{low-remark, low_count}
use Rattle.verdicts.proofs.Saying.{said-refused, said-accepted}
use Rattle.verdicts.proofs.verdict.Goals as goal

pub overflow_cast-refusal : goal.overflow_cast-refusal
overflow_cast-refusal c = omega (arith, low-remark _ _ _ (rw c.in-Err.is at c.remarks.ensures))

pub slice_bounds-offsets-end : goal.slice_bounds-offsets-end
slice_bounds-offsets-end c =
    let few : c.in-Ok.count ≤ 16 = low_count _ _ (rw c.in-Ok.is at c.remarks.ensures) in
    search rules

pub slice_bounds-put_acceptance-end-in-Ok : goal.slice_bounds-put_acceptance-end-in-Ok
slice_bounds-put_acceptance-end-in-Ok c =
    let few : c.in-Ok.count ≤ 16 = low_count _ _ (rw c.in-Ok.is at c.remarks.ensures) in
    search rules

pub returns-in-Err : goal.returns-in-Err
returns-in-Err c =
    let a = rw c.in-Err.is at c.remarks.ensures in
    let room : 201 ≤ length c.args.out.now = search rules in
    let w = rw c.from-number.ensures at c.put_refusal.ensures in
    said-refused _ _ a (search rules) (omega (arith, low-remark _ _ _ a)) room w

pub returns-in-Ok : goal.returns-in-Ok
returns-in-Ok c =
    let a = rw c.in-Ok.is at c.remarks.ensures in
    let room : 201 ≤ length c.args.out.now = search rules in
    said-accepted _ _ a (omega (arith, low_count _ _ a)) room c.put_acceptance.ensures.0 (omega (arith, c.put_acceptance.ensures.1, length-take c.in-Ok.count c.remarks.new.offsets))
