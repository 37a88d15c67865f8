use mathlib.Core.Path.{refl}
use Rattle.std.specs.Prelude.{Ok, Err}
use Rattle.std.proofs.lemmas.Result.{err_from_is_err_and}
use Rattle.search.proofs.Backs.{ended-backed, forced-backed}
use Rattle.search.proofs.go_back.Goals as goal

pub returns-in_default : goal.returns-in_default
returns-in_default c =
    ended-backed c.args.mem.now c.take_back.new.mem c.args.n c.args.t c.take_back.result c.take_back.ensures c.in_default.is c.ended-ending.result c.ended-ending.ensures _ c.close.ensures

pub returns-in_err-charged : goal.returns-in_err-charged
returns-in_err-charged c =
    let e = c.in_err-charged.field-0.0 in
    let f = err_from_is_err_and c.from_residual.result c.from_residual.ensures.1 in
    rw (f.1, f.2)
    (forced-backed c.args.mem.now c.take_back.new.mem c.args.n c.args.t c.take_back.result c.take_back.ensures c.in-Some.forced c.in-Some.is (Err e) c.in_err-charged.ensures (Err e) refl _ refl)

pub returns : goal.returns
returns c =
    forced-backed c.args.mem.now c.take_back.new.mem c.args.n c.args.t c.take_back.result c.take_back.ensures c.in-Some.forced c.in-Some.is (Ok c.in_ok-charged.charged) c.in_ok-charged.ensures (Ok c.in_ok-charged.charged) refl _ refl
