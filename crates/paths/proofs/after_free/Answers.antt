use mathlib.Core.Path.{subst}
use native.Mathlib.Omega.{arith}
use Rattle.intervals.specs.Meaning.{of_window}
use Rattle.machine.specs.Terms.{Room}
use Rattle.machine.proofs.Tables.{room-same}
use Rattle.paths.proofs.Growing.{reached-ranging}
use Rattle.paths.proofs.Turning.{free-cut, ninth-cut, free_on}
use Rattle.paths.proofs.Stays.{stays-none, stays_then, stays-pairs, stays-range}
use Rattle.paths.proofs.after_free.Goals as goal
use Rattle.paths.proofs.after_free.Goals.{then-p-eq0-via-then-p-eq0, then-p-eq0-via-else-p-eq0+then-p-eq-UNKNOWNS}

pub returns-then-p-eq0 : goal.returns-then-p-eq0
returns-then-p-eq0 c = (
  λ job o q next e. elim c.then-p-eq0.branch [
    | then-p-eq0-via-then-p-eq0 w ↦ free-cut c.args.mem.now c.args.p job o next w.if-p-eq0.true c.requires.0
    | then-p-eq0-via-else-p-eq0+then-p-eq-UNKNOWNS w ↦ ninth-cut c.args.mem.now c.args.p job o next w.if-p-eq-UNKNOWNS.true c.requires.0
  ],
  stays-none,
)

pub write_range-requires : goal.write_range-requires
write_range-requires c = (
  omega (arith, c.if-p-eq-UNKNOWNS.false, c.requires.0.tables.count),
  room-same c.reach.auto.mem (subst (Room c.args.mem.now) c.requires.2 c.requires.1.few),
  reached-ranging c.args.mem.now c.reach.new.mem (of_window c.args.w) c.args.p.windows c.args.p.run.nodes c.requires.0.tables
      c.reach.ensures c.requires.4,
)

pub returns : goal.returns
returns c = (
  λ job o q next e. free_on c.args.mem.now c.args.p c.reach.new.mem
      c.write_range.new.mem c.args.run (of_window c.args.w) c.declare.result c.requires.0 c.requires.1 c.requires.2 c.requires.3 c.requires.4
      (omega (arith, c.if-p-eq0.false))
      (omega (arith, c.if-p-eq-UNKNOWNS.false, c.requires.0.tables.count))
      c.reach.auto.mem c.write_range.auto.mem
      c.reach.ensures c.write_range.ensures c.declare.ensures job o q next e,
  stays_then (stays-pairs c.args.p.run.nodes c.args.p.choices c.reach.ensures.other) (stays-range c.args.p.run.nodes c.args.p.run.nodes c.args.p.choices c.write_range.ensures.other),
)
