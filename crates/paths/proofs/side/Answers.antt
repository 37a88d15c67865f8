use mathlib.Core.Path.{ap₂}
use borrow.Author.Rules.{rules}
use mir.Syntax.{w32}
use mir.Val.{SFits}
use mir.Facts.{to_z-of_z}
use Rattle.semantics.specs.Search.{to}
use Rattle.machine.specs.Memory.{nodes_in, windows_in}
use Rattle.paths.proofs.Choice.{within-open, stands_at, side-known, side-free, side-op}
use Rattle.paths.proofs.side.Goals as goal

pub returns-then-mem-j-eq-FREE : goal.returns-then-mem-j-eq-FREE
returns-then-mem-j-eq-FREE c =
    let l = within-open c.args.v c.in-Open.j c.args.n c.in-Open.is c.requires.1 in
    stands_at c.args.mem.now c.args.k c.args.n _ _ _ c.in-Open.is (side-free c.args.mem.now c.args.k c.args.n c.in-Open.j c.requires.0 l c.if-mem-j-eq-FREE.true)

pub returns-in-Known : goal.returns-in-Known
returns-in-Known c =
    let f : SFits w32 c.in-Known.z = search rules in
    stands_at c.args.mem.now c.args.k c.args.n _ _ _ c.in-Known.is (side-known (windows_in c.args.mem.now c.args.k) (nodes_in c.args.mem.now c.args.n) _ c.in-Known.z (ap₂ to (to_z-of_z f) (to_z-of_z f)))

pub returns-else-mem-j-eq-FREE : goal.returns-else-mem-j-eq-FREE
returns-else-mem-j-eq-FREE c =
    let l = within-open c.args.v c.in-Open.j c.args.n c.in-Open.is c.requires.1 in
    stands_at c.args.mem.now c.args.k c.args.n _ _ _ c.in-Open.is
    (side-op c.args.mem.now c.args.k c.args.n c.in-Open.j c.node_range.result c.requires.0 l c.if-mem-j-eq-FREE.false c.node_range.ensures)
