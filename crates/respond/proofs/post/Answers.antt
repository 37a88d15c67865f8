use Prim.Native.Nat.{◌≤◌}
use native.Mathlib.Omega.{arith}
use lib.ListN.{length}
use Rattle.printing.proofs.Puts.{put_as, put_whole}
use Rattle.respond.proofs.Printed.{as-posted}
use borrow.Author.Rules.{rules}
use Rattle.respond.proofs.post.Goals as goal

pub returns : goal.returns
returns c =
    let h : 87480 ≤ length c.args.out.now = search rules in
    put_whole 87480 (put_as (as-posted _) c.print_answer.ensures.0) c.print_answer.ensures.1 (omega arith) h
