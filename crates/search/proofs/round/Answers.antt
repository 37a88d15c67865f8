use Rattle.std.specs.Prelude.{Ok, Err, Some, None}
use Rattle.std.proofs.lemmas.Result.{err_from_is_err_and}
use lib.ListN.{length}
use Rattle.intervals.specs.Meaning.{of_window}
use Rattle.machine.specs.Memory.{outcomes_in}
use Rattle.walks.specs.Walk.{end_of}
use Rattle.search.proofs.Rounds.{walked_as, paying-fair, room-few, round-ended, round-spent}
use Rattle.search.proofs.round.Goals as goal

pub leaving-paid-requires : goal.leaving-paid-requires
leaving-paid-requires c =
    let x = c.args.code.now in
    let w = walked_as x (of_window c.args.job) c.args.path.stack.limit c.args.path.tally.budget (outcomes_in c.args.mem.now 0 c.args.path.forced) c.run_path.new.mem c.run_path.result (Some c.in-Some.ended) c.in-Some.is c.run_path.ensures in
    (w.0.rest, c.requires.2.sum)

pub finish-requires : goal.finish-requires
finish-requires c =
    let x = c.args.code.now in
    let w = walked_as x (of_window c.args.job) c.args.path.stack.limit c.args.path.tally.budget (outcomes_in c.args.mem.now 0 c.args.path.forced) c.run_path.new.mem c.run_path.result (Some c.in-Some.ended) c.in-Some.is c.run_path.ensures in (
      w.0.standing,
      room-few c.args.mem.now c.run_path.new.mem c.in-Some.ended.point.choices c.args.path.stack.limit w.0.few c.run_path.auto.mem c.requires.0.stacked.room,
      paying-fair c.args.path.tally c.leaving-paid.result c.in-Some.ended.left (length c.args.rows.now) c.leaving-paid.ensures w.0.rest c.requires.2,
    )

pub returns-in_default : goal.returns-in_default
returns-in_default c =
    let x = c.args.code.now in
    let job = of_window c.args.job in
    let w = walked_as x job c.args.path.stack.limit c.args.path.tally.budget (outcomes_in c.args.mem.now 0 c.args.path.forced) c.run_path.new.mem c.run_path.result None c.in_default.is c.run_path.ensures in
    (round-spent x job c.args.path.stack.limit c.args.mem.now c.run_path.new.mem c.args.rows.now c.args.path.forced c.args.path.tally w c.leaving.result c.leaving.ensures _ c.close.ensures, tt)

pub returns-in_err-forced : goal.returns-in_err-forced
returns-in_err-forced c =
    let x = c.args.code.now in
    let job = of_window c.args.job in
    let w = walked_as x job c.args.path.stack.limit c.args.path.tally.budget (outcomes_in c.args.mem.now 0 c.args.path.forced) c.run_path.new.mem c.run_path.result (Some c.in-Some.ended) c.in-Some.is c.run_path.ensures in
    let f = err_from_is_err_and c.from_residual.result c.from_residual.ensures.1 in
    rw (f.1, f.2)
    (round-ended x job c.args.path.stack.limit c.args.mem.now c.run_path.new.mem c.finish.new.mem c.args.rows.now c.finish.new.rows c.args.path.forced c.args.path.tally (end_of c.run_path.new.mem c.in-Some.ended.point c.in-Some.ended.end) c.in-Some.ended.point c.in-Some.ended.stack c.in-Some.ended.left w.0 c.leaving-paid.result c.leaving-paid.ensures (Err c.in_err-forced.field-0.0) c.finish.auto.mem c.in_err-forced.ensures)

pub returns : goal.returns
returns c =
    let x = c.args.code.now in
    let job = of_window c.args.job in
    let w = walked_as x job c.args.path.stack.limit c.args.path.tally.budget (outcomes_in c.args.mem.now 0 c.args.path.forced) c.run_path.new.mem c.run_path.result (Some c.in-Some.ended) c.in-Some.is c.run_path.ensures in
    round-ended x job c.args.path.stack.limit c.args.mem.now c.run_path.new.mem c.finish.new.mem c.args.rows.now c.finish.new.rows c.args.path.forced c.args.path.tally (end_of c.run_path.new.mem c.in-Some.ended.point c.in-Some.ended.end) c.in-Some.ended.point c.in-Some.ended.stack c.in-Some.ended.left w.0 c.leaving-paid.result c.leaving-paid.ensures (Ok (c.in_ok-forced.forced, c.in_ok-forced.tally)) c.finish.auto.mem c.in_ok-forced.ensures
