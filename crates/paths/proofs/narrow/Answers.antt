use Prim.Native.Nat.{◌≤◌}
use mathlib.Core.Path.{◌≡◌, ap, ◌∙◌}
use mathlib.Core.List.{List}
use native.Mathlib.Omega.{arith}
use lib.IntN.{ℤ}
use lib.ListN.{length}
use Rattle.semantics.specs.Search.{decided}
use Rattle.ints.specs.Meaning.{of_comparison}
use Rattle.intervals.specs.Meaning.{of_pairs}
use Rattle.narrowing.specs.Meaning.{range_of}
use Rattle.machine.specs.Layout.{tables_place}
use Rattle.machine.proofs.Tables.{room-same}
use Rattle.paths.proofs.Narrowing.{ends, side-placed, sides-undecided, narrowed_none, put_some, narrowed-so}
use borrow.Author.Rules.{rules}
use Rattle.paths.proofs.narrow.Goals as goal

pub returns-then-idle-2 : goal.returns-then-idle-2
returns-then-idle-2 c =
    narrowed_none c.args.mem.now c.args.k c.args.n c.requires.0 (of_comparison c.args.c) c.args.v c.args.w c.side-a.result
    c.side-b.result c.requires.1
    c.side-a.ensures c.side-b.ensures
    c.range_of.result c.range_of-then-idle.result c.range_of.ensures
    c.range_of-then-idle.ensures (c.idle.ensures c.if-idle.true) (c.idle-then-idle.ensures c.if-idle-2.true)

pub narrowed-requires : goal.narrowed-requires
narrowed-requires c =
    record {
      among_eight = (
        side-placed c.args.mem.now c.args.k c.args.n c.requires.0 c.side-a.result c.args.v
            c.side-a.ensures,
        side-placed c.args.mem.now c.args.k c.args.n c.requires.0 c.side-b.result c.args.w
            c.side-b.ensures,
      );
      undecided = ap (λ (l : List (List ℤ)). decided (of_comparison c.args.c) (range_of (of_pairs l) c.side-a.result)
          (range_of (of_pairs l) c.side-b.result)) c.load-ws.ensures
          ∙ sides-undecided c.args.mem.now c.args.k c.args.n c.requires.0 (of_comparison c.args.c) c.args.v c.args.w c.side-a.result
          c.side-b.result c.requires.1 c.side-a.ensures
          c.side-b.ensures;
    }

pub all_ranges-requires : goal.all_ranges-requires
all_ranges-requires c =
    let n : length c.narrowed.result ≡ 8 = search rules in
    let l : tables_place ≤ length c.args.mem.now = omega (arith, c.requires.0.room.words) in (
      c.requires.0.count,
      room-same c.put.auto.mem c.requires.0.room,
      put_some c.args.mem.now c.args.k c.args.n c.requires.0 (of_comparison c.args.c) c.args.v c.args.w
          c.side-a.result
          c.side-b.result c.requires.1
          c.side-a.ensures
          c.side-b.ensures c.put.new.mem
          c.load-ws.result c.narrowed.result l c.put.ensures c.load-ws.ensures
          c.narrowed.ensures n (ends c.narrowed.result c.narrowed.type_inv.0 c.narrowed.type_inv.1.1),
    )

pub returns : goal.returns
returns c =
    let n : length c.narrowed.result ≡ 8 = search rules in
    let l : tables_place ≤ length c.args.mem.now = omega (arith, c.requires.0.room.words) in
    narrowed-so c.args.mem.now c.args.k c.args.n c.requires.0 (of_comparison c.args.c) c.args.v c.args.w
    c.side-a.result
    c.side-b.result c.requires.1
    c.side-a.ensures
    c.side-b.ensures
    c.put.new.mem c.load-ws.result c.narrowed.result l
    c.put.ensures c.load-ws.ensures
    c.narrowed.ensures n
    (ends c.narrowed.result c.narrowed.type_inv.0 c.narrowed.type_inv.1.1)
    c.all_ranges.new.mem (c.all_ranges.auto.mem ∙ c.put.auto.mem) c.all_ranges.ensures
