use mathlib.Core.Path.{refl, sym, subst}
use native.Mathlib.Omega.{arith}
use Rattle.machine.specs.Memory.{nodes_in, windows_in}
use Rattle.paths.specs.Table.{Ranging}
use Rattle.paths.proofs.Table.{anew-none, anew-more, ranging}
use Rattle.paths.proofs.all_ranges.Goals as goal

pub loop-j-init : goal.loop-j-init
loop-j-init c = (anew-none _ _, omega arith, refl)

pub write_range-requires : goal.write_range-requires
write_range-requires c = (
  c.requires.0,
  record { words = omega (arith, c.requires.1.words, c.loop-j.invariant.2); small = omega (arith, c.requires.1.small) },
  subst Ranging (sym c.loop-j.invariant.0.is) (ranging (windows_in c.args.mem.now c.args.k) (nodes_in c.args.mem.now c.loop-j.j) c.requires.2),
)

pub loop-j-preserved : goal.loop-j-preserved
loop-j-preserved c =
    (anew-more c.args.mem.now c.loop-j.mem c.write_range.new.mem c.args.k c.loop-j.j c.loop-j.invariant.0 c.write_range.ensures, omega arith, omega (arith, c.write_range.auto.mem, c.loop-j.invariant.2))
