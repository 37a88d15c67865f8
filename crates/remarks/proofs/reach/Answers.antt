use native.Mathlib.Omega.{arith}
use lib.ListN.{length-set}
use Rattle.remarks.proofs.Marking.{fewer, follows, marking-start, marking-turn, marking-end}
use Rattle.remarks.proofs.reach.Goals as goal

pub loop-g-init : goal.loop-g-init
loop-g-init c = marking-start _ _ c.args.reached.now c.requires.1 c.requires.2

pub offset_bounds-reached-g : goal.offset_bounds-reached-g
offset_bounds-reached-g c = omega (arith, c.requires.0, (follows c.in-Some.ensures).below)

pub bounds-reached-g : goal.bounds-reached-g
bounds-reached-g c = omega (arith, c.requires.0, c.loop-g.invariant.sized, length-set c.args.reached.now c.args.main 1, (follows c.in-Some.ensures).below)

pub loop-g-smaller : goal.loop-g-smaller
loop-g-smaller c =
    let f = follows c.in-Some.ensures in
    fewer _ _ (omega (arith, c.requires.0, c.loop-g.invariant.sized, length-set c.args.reached.now c.args.main 1, f.below)) f.is.free

pub loop-g-preserved : goal.loop-g-preserved
loop-g-preserved c =
    let f = follows c.in-Some.ensures in
    marking-turn c.loop-g.invariant f.is (omega (arith, c.requires.0, c.loop-g.invariant.sized, length-set c.args.reached.now c.args.main 1, f.below))

pub returns : goal.returns
returns c = marking-end c.loop-g.invariant c.in_default.ensures
