use native.Mathlib.Omega.{arith}
use Rattle.exports.proofs.Pages.{page-out}
use Rattle.exports.proofs.plans_page.Goals as goal

pub returns : goal.returns
returns c = page-out c.args.rows.now c.args.page c.args.ending c.args.out.now c.rows_on_page-shown.result (omega arith) c.rows_on_page-shown.ensures c.ending_of.ensures c.put_page.ensures
