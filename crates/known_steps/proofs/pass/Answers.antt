use native.Mathlib.Omega.{arith}
use Rattle.known_steps.proofs.Passing.{turns-fewer, moves-less}
use Rattle.known_steps.proofs.pass.Goals as goal

pub left_of-requires : goal.left_of-requires
left_of-requires c =
    (turns-fewer c.args.code.now c.args.mem.now c.args.p c.requires _ c.make-q.result c.make-q.ensures.0, omega (arith, c.floor_of.ensures.1, moves-less c.args.p.forced c.args.p.steps c.floor_of.result c.make-q.result.steps c.make-q.ensures.2))

pub returns : goal.returns
returns c =
    record {
      turns = c.make-q.ensures.0;
      going = c.make-q.ensures.1;
      fewer = turns-fewer c.args.code.now c.args.mem.now c.args.p c.requires _ c.make-q.result c.make-q.ensures.0;
      covers = omega (arith, c.floor_of.ensures.1, moves-less c.args.p.forced c.args.p.steps c.floor_of.result c.make-q.result.steps c.make-q.ensures.2);
      rest = c.left_of.ensures;
    }
