use Rattle.intervals.specs.Meaning.{of_window}
use Rattle.walks.proofs.Beginning.{checkpoints-left, uses-left, cells_left, room-left, some-forced, some_left, first-stands, first_walks, ends-here, space-here, again-stands, again_walks}
use Rattle.walks.proofs.run_path.Goals as goal

-- src/lib.rt:177:9
pub walk_copied-requires : goal.walk_copied-requires
walk_copied-requires c =
    let x = c.args.code.now in
    let job = of_window c.args.job in
    let room = room-left x job c.args.mem.now c.args.forced c.args.stack c.requires.0 c.saturating_sub.result c.saturating_sub.ensures c.drop_after-s.result c.drop_after-s.ensures in
    let uses = uses-left x job c.args.mem.now c.args.forced c.args.stack c.requires.0 c.saturating_sub.result c.saturating_sub.ensures c.drop_after-s.result c.drop_after-s.ensures in
    let cells = cells_left x job c.args.mem.now c.args.forced c.args.stack c.requires.0 c.saturating_sub.result c.saturating_sub.ensures c.drop_after-s.result c.drop_after-s.ensures in
    (first-stands x job c.args.mem.now c.first-p.new.mem c.drop_after-s.result c.first-p.result.run c.args.forced c.first-p.ensures.0 c.first-p.auto.mem room uses cells c.if-s-eq0.true c.first-p.result c.first-p.ensures.1, c.requires.1)

-- src/lib.rt:177:9
pub returns-then-s-eq0 : goal.returns-then-s-eq0
returns-then-s-eq0 c =
    let x = c.args.code.now in
    let job = of_window c.args.job in
    let room = room-left x job c.args.mem.now c.args.forced c.args.stack c.requires.0 c.saturating_sub.result c.saturating_sub.ensures c.drop_after-s.result c.drop_after-s.ensures in
    let uses = uses-left x job c.args.mem.now c.args.forced c.args.stack c.requires.0 c.saturating_sub.result c.saturating_sub.ensures c.drop_after-s.result c.drop_after-s.ensures in
    let cells = cells_left x job c.args.mem.now c.args.forced c.args.stack c.requires.0 c.saturating_sub.result c.saturating_sub.ensures c.drop_after-s.result c.drop_after-s.ensures in
    first_walks x job c.args.mem.now c.first-p.new.mem c.drop_after-s.result c.first-p.result.run c.args.forced c.first-p.ensures.0 c.first-p.auto.mem room uses cells c.if-s-eq0.true c.first-p.result c.first-p.ensures.1 c.args.stack.limit c.args.budget c.walk_copied.new.mem c.walk_copied.result c.drop_after-s.ensures.limit c.walk_copied.ensures

-- src/lib.rt:179:9
pub restore-q-requires : goal.restore-q-requires
restore-q-requires c =
    let x = c.args.code.now in
    let job = of_window c.args.job in
    let room = room-left x job c.args.mem.now c.args.forced c.args.stack c.requires.0 c.saturating_sub.result c.saturating_sub.ensures c.drop_after-s.result c.drop_after-s.ensures in
    let uses = uses-left x job c.args.mem.now c.args.forced c.args.stack c.requires.0 c.saturating_sub.result c.saturating_sub.ensures c.drop_after-s.result c.drop_after-s.ensures in
    let cells = cells_left x job c.args.mem.now c.args.forced c.args.stack c.requires.0 c.saturating_sub.result c.saturating_sub.ensures c.drop_after-s.result c.drop_after-s.ensures in
    let ms = checkpoints-left x job c.args.mem.now c.args.forced c.args.stack c.requires.0 c.saturating_sub.result c.saturating_sub.ensures c.drop_after-s.result c.drop_after-s.ensures in
    let some = some-forced x job c.args.mem.now c.args.forced c.args.stack c.requires.0 c.saturating_sub.result c.saturating_sub.ensures c.drop_after-s.result c.drop_after-s.ensures c.if-s-eq0.false in
    let l = some_left x job c.args.mem.now c.args.forced c.args.stack c.requires.0 c.saturating_sub.result c.saturating_sub.ensures c.drop_after-s.result c.drop_after-s.ensures c.if-s-eq0.false in
    (ends-here x job c.args.mem.now c.drop_after-s.result c.args.forced c.requires.0.nodes c.requires.0.windows some ms room uses cells l, cells, space-here x job c.args.mem.now c.drop_after-s.result c.args.forced c.requires.0.nodes c.requires.0.windows some ms room uses cells l)

-- src/lib.rt:180:5
pub walk_copied-requires-2 : goal.walk_copied-requires-2
walk_copied-requires-2 c =
    let x = c.args.code.now in
    let job = of_window c.args.job in
    let room = room-left x job c.args.mem.now c.args.forced c.args.stack c.requires.0 c.saturating_sub.result c.saturating_sub.ensures c.drop_after-s.result c.drop_after-s.ensures in
    let uses = uses-left x job c.args.mem.now c.args.forced c.args.stack c.requires.0 c.saturating_sub.result c.saturating_sub.ensures c.drop_after-s.result c.drop_after-s.ensures in
    let cells = cells_left x job c.args.mem.now c.args.forced c.args.stack c.requires.0 c.saturating_sub.result c.saturating_sub.ensures c.drop_after-s.result c.drop_after-s.ensures in
    let ms = checkpoints-left x job c.args.mem.now c.args.forced c.args.stack c.requires.0 c.saturating_sub.result c.saturating_sub.ensures c.drop_after-s.result c.drop_after-s.ensures in
    let some = some-forced x job c.args.mem.now c.args.forced c.args.stack c.requires.0 c.saturating_sub.result c.saturating_sub.ensures c.drop_after-s.result c.drop_after-s.ensures c.if-s-eq0.false in
    let l = some_left x job c.args.mem.now c.args.forced c.args.stack c.requires.0 c.saturating_sub.result c.saturating_sub.ensures c.drop_after-s.result c.drop_after-s.ensures c.if-s-eq0.false in
    (again-stands x job c.args.mem.now c.drop_after-s.result c.args.forced c.requires.0.nodes c.requires.0.windows some ms room uses cells l c.restore-q.new.mem c.restore-q.result c.restore-q.auto.mem c.restore-q.ensures, c.requires.1)

-- src/lib.rt:162:1
pub returns : goal.returns
returns c =
    let x = c.args.code.now in
    let job = of_window c.args.job in
    let room = room-left x job c.args.mem.now c.args.forced c.args.stack c.requires.0 c.saturating_sub.result c.saturating_sub.ensures c.drop_after-s.result c.drop_after-s.ensures in
    let uses = uses-left x job c.args.mem.now c.args.forced c.args.stack c.requires.0 c.saturating_sub.result c.saturating_sub.ensures c.drop_after-s.result c.drop_after-s.ensures in
    let cells = cells_left x job c.args.mem.now c.args.forced c.args.stack c.requires.0 c.saturating_sub.result c.saturating_sub.ensures c.drop_after-s.result c.drop_after-s.ensures in
    let ms = checkpoints-left x job c.args.mem.now c.args.forced c.args.stack c.requires.0 c.saturating_sub.result c.saturating_sub.ensures c.drop_after-s.result c.drop_after-s.ensures in
    let some = some-forced x job c.args.mem.now c.args.forced c.args.stack c.requires.0 c.saturating_sub.result c.saturating_sub.ensures c.drop_after-s.result c.drop_after-s.ensures c.if-s-eq0.false in
    let l = some_left x job c.args.mem.now c.args.forced c.args.stack c.requires.0 c.saturating_sub.result c.saturating_sub.ensures c.drop_after-s.result c.drop_after-s.ensures c.if-s-eq0.false in
    again_walks x job c.args.mem.now c.drop_after-s.result c.args.forced c.requires.0.nodes c.requires.0.windows some ms room uses cells l c.restore-q.new.mem c.restore-q.result c.restore-q.auto.mem c.restore-q.ensures c.args.stack.limit c.args.budget c.walk_copied-2.new.mem c.walk_copied-2.result c.drop_after-s.ensures.limit c.walk_copied-2.ensures
