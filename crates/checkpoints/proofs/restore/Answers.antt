use native.Mathlib.Omega.{arith}
use mathlib.Core.Path.{ap}
use Prim.Native.Nat.{◌-◌}
use Rattle.machine.proofs.Tables.{room-less}
use Rattle.checkpoints.specs.Words.{forced}
use Rattle.checkpoints.proofs.Again.{reaches-so, ranges-asked, restored-so}
use Rattle.checkpoints.proofs.restore.Goals as goal

-- src/lib.rt:257:5
pub all_ranges-requires : goal.all_ranges-requires
all_ranges-requires c =
    let r = reaches-so c.args.cells c.args.mem.now c.args.w c.point_at-p.result c.requires.1 c.point_at-p.ensures.0 c.requires.0 in
    let q = ranges-asked c.args.cells c.args.mem.now c.args.w c.point_at-p.result c.requires.1 c.point_at-p.ensures.0 c.restore_pairs.new.mem (c.args.w - c.size_of-n.result) c.restore_pairs.ensures (omega (arith, c.size_of-n.ensures, r.1)) c.restore_pairs.auto.mem c.requires.0 in
    (q.0, room-less _ (omega arith) q.1, q.2)

-- src/lib.rt:249:1
pub returns : goal.returns
returns c =
    let r = reaches-so c.args.cells c.args.mem.now c.args.w c.point_at-p.result c.requires.1 c.point_at-p.ensures.0 c.requires.0 in
    restored-so c.args.cells c.args.mem.now c.args.w c.point_at-p.result c.requires.1 c.point_at-p.ensures.0 c.restore_pairs.new.mem (c.args.w - c.size_of-n.result) c.restore_pairs.ensures (omega (arith, c.size_of-n.ensures, r.1)) c.restore_pairs.auto.mem
    c.all_ranges.new.mem c.args.k _ c.all_ranges.ensures c.all_ranges.auto.mem (ap (forced c.point_at-p.result) c.saturating_sub.ensures)
