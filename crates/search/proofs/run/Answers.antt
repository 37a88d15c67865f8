use Prim.Native.Nat.{◌/◌}
use native.Mathlib.Omega.{arith}
use mathlib.Core.Path.{refl, ap}
use lib.ListN.{length}
use Rattle.intervals.specs.Meaning.{of_window}
use Rattle.search.specs.Loop.{ahead}
use Rattle.search.proofs.Rounds.{uses-of, begins-first, round-as, resumes-as}
use Rattle.search.proofs.Searching.{between_first, between-less, between_next, between-over}
use Rattle.search.proofs.run.Goals as goal

pub loop-next-init : goal.loop-next-init
loop-next-init c = (
  between_first c.args.code.now (of_window c.args.job) c.args.limit c.args.skip (length c.args.rows.now / 10) c.args.budget c.args.mem.now c.args.rows.now,
  begins-first c.args.code.now (of_window c.args.job) c.args.mem.now c.args.limit c.in_use.result c.requires.0 (uses-of c.args.code.now _ c.in_use.result c.entries.ensures c.in_use.ensures),
  refl,
)

pub loop-next-smaller : goal.loop-next-smaller
loop-next-smaller c =
    let h = round-as c.args.code.now (of_window c.args.job) c.loop-next.path.stack.limit c.args.limit c.loop-next.mem c.round.new.mem c.loop-next.rows c.round.new.rows c.loop-next.path.forced c.loop-next.path.tally (ahead c.round.result) c.loop-next.invariant.2 c.round.ensures.0 in
    between-less c.args.code.now (of_window c.args.job) c.args.limit c.args.skip (length c.args.rows.now / 10) c.args.budget c.args.mem.now c.args.rows.now c.loop-next.mem c.loop-next.rows c.loop-next.path.forced
    c.loop-next.path.tally c.loop-next.invariant.0 c.round.new.mem c.round.new.rows (ahead c.round.result) h c.in-Ok.next.forced c.in-Ok.next.tally (ap ahead c.in-Ok.is)

pub loop-next-preserved : goal.loop-next-preserved
loop-next-preserved c =
    let h = round-as c.args.code.now (of_window c.args.job) c.loop-next.path.stack.limit c.args.limit c.loop-next.mem c.round.new.mem c.loop-next.rows c.round.new.rows c.loop-next.path.forced c.loop-next.path.tally (ahead c.round.result) c.loop-next.invariant.2 c.round.ensures.0 in
    let g = resumes-as c.args.code.now (of_window c.args.job) c.round.new.mem c.loop-next.path.stack.limit c.args.limit c.round.result c.in-Ok.next c.in-Ok.is c.loop-next.invariant.2 c.round.ensures.1 in (
      between_next c.args.code.now (of_window c.args.job) c.args.limit c.args.skip (length c.args.rows.now / 10) c.args.budget c.args.mem.now c.args.rows.now c.loop-next.mem c.loop-next.rows c.loop-next.path.forced
          c.loop-next.path.tally c.loop-next.invariant.0 c.round.new.mem c.round.new.rows (ahead c.round.result) h c.in-Ok.next.forced c.in-Ok.next.tally (ap ahead c.in-Ok.is) c.round.auto.mem c.round.auto.rows,
      g.0,
      g.1,
    )

pub returns-in-Err : goal.returns-in-Err
returns-in-Err c =
    let h = round-as c.args.code.now (of_window c.args.job) c.loop-next.path.stack.limit c.args.limit c.loop-next.mem c.round.new.mem c.loop-next.rows c.round.new.rows c.loop-next.path.forced c.loop-next.path.tally (ahead c.round.result) c.loop-next.invariant.2 c.round.ensures.0 in
    between-over c.args.code.now (of_window c.args.job) c.args.limit c.args.skip (length c.args.rows.now / 10) c.args.budget c.args.mem.now c.args.rows.now c.loop-next.mem c.loop-next.rows c.loop-next.path.forced
    c.loop-next.path.tally c.loop-next.invariant.0 (omega arith) c.round.new.mem c.round.new.rows (ahead c.round.result) h c.in-Err.answered (ap ahead c.in-Err.is) c.round.auto.rows
