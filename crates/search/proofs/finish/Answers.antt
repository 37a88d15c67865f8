use mathlib.Core.Path.{sym, subst}
use Rattle.walks.specs.declared.End.{End}
use Rattle.walks.specs.Walk.{end_of}
use Rattle.search.specs.Loop.{Finished}
use Rattle.search.proofs.Backs.{finished-fail}
use Rattle.search.proofs.finish.Goals as goal

pub returns-in-Returned : goal.returns-in-Returned
returns-in-Returned c =
    subst (λ (e : End). Finished c.args.mem.now c.at_return.new.mem c.args.rows.now c.at_return.new.rows (end_of c.args.mem.now c.args.p e) c.args.p c.args.t c.at_return.result) (sym c.in-Returned.is) c.at_return.ensures

pub returns-in-Failed : goal.returns-in-Failed
returns-in-Failed c =
    subst (λ (e : End). Finished c.args.mem.now c.go_back.new.mem c.args.rows.now c.args.rows.now (end_of c.args.mem.now c.args.p e) c.args.p c.args.t c.go_back.result) (sym c.in-Failed.is)
    (finished-fail c.args.mem.now c.go_back.new.mem c.args.p c.args.t c.go_back.result c.go_back.ensures c.args.rows.now)

pub returns-in-Cut : goal.returns-in-Cut
returns-in-Cut c =
    subst (λ (e : End). Finished c.args.mem.now c.at_cut.new.mem c.args.rows.now c.args.rows.now (end_of c.args.mem.now c.args.p e) c.args.p c.args.t c.at_cut.result) (sym c.in-Cut.is) (c.at_cut.ensures c.args.rows.now)
