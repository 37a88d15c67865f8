use Rattle.std.specs.Prelude.{Ok, Err}
use Rattle.std.proofs.lemmas.Result.{err_from_is_err_and}
use Rattle.search.proofs.Backs.{finished-return, over-stopped}
use Rattle.search.proofs.at_return.Goals as goal

pub returns-in_err-u : goal.returns-in_err-u
returns-in_err-u c =
    let e = c.in_err-u.field-0.0 in
    let f = err_from_is_err_and c.from_residual.result c.from_residual.ensures.1 in
    rw (f.1, f.2)
    (finished-return c.args.mem.now c.trials.new.mem c.trials.new.mem c.args.p c.args.t (Err e) _ c.in_err-u.ensures.1 (over-stopped c.trials.new.mem c.args.p.choices e) c.args.v c.args.rows.now
    c.trials.new.rows c.in_err-u.ensures.0)

pub returns : goal.returns
returns c =
    finished-return c.args.mem.now c.trials.new.mem c.go_back.new.mem c.args.p c.args.t (Ok c.in_ok-u.u) c.go_back.result c.in_ok-u.ensures.1 c.go_back.ensures c.args.v c.args.rows.now
    c.trials.new.rows c.in_ok-u.ensures.0
