use native.Mathlib.Omega.{arith}
use mathlib.Core.Path.{refl, ◌∙◌}
use Rattle.search.specs.Loop.{close_of}
use Rattle.printing.proofs.Puts.{and_then, put_as, put-none}
use Rattle.pages.proofs.Sheet.{full_pages}
use Rattle.pages.proofs.Pages.{one_more, all-pages, next-page, left-length}
use Rattle.pages.proofs.put_pages.Goals as goal

pub loop-rest-init : goal.loop-rest-init
unfolding full_pages
loop-rest-init c = record { behind = refl; numbered = omega arith; within = omega arith; needed = λ h. omega arith; written = put-none _ _ (omega arith) (omega arith) }

pub loop-rest-preserved : goal.loop-rest-preserved
loop-rest-preserved c =
    let i = c.loop-rest.invariant in
    let ws = c.args.rows.now in
    let rest = c.loop-rest.rest.now in
    let n = left-length ws rest c.loop-rest.number i.behind i.numbered in
    let w = rw c.split_at.ensures.front at c.put_page-p.ensures in
    record {
      behind = c.split_at.ensures.back ∙ next-page ws rest c.loop-rest.number i.behind i.numbered;
      numbered = omega arith;
      within = omega (arith, n, i.numbered, c.loop-rest-test.true);
      needed = λ h. omega (arith, n, i.numbered, c.loop-rest-test.true);
      written = put_as (one_more ws rest c.loop-rest.number i.behind i.numbered c.loop-rest-test.true) (and_then i.written w);
    }

pub returns : goal.returns
returns c =
    let i = c.loop-rest.invariant in
    put_as (all-pages c.args.rows.now c.loop-rest.rest.now c.loop-rest.number i.behind i.numbered (close_of c.args.close) i.within i.needed c.loop-rest-test.false) (and_then i.written c.put_page.ensures)
