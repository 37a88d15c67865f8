-- How much a machine holds, so that the step limit says how long the memory must be; and the memory at the start of a path.
use mathlib.Core.Path.{◌≡◌, refl, sym, ap, subst}
use mathlib.Core.List.{List, []}
use mathlib.Core.Bool.{false}
use Prim.Native.Nat.{ℕ, zero, suc, ◌+◌, ◌-◌, ◌*◌, ◌≤◌}
use native.Mathlib.Omega.{arith}
use lib.ListN.{length, get_or}
use lib.IntN.{pos}
use Rattle.semantics.specs.Does.{frame}
use Rattle.semantics.specs.Search.{known}
use Rattle.simulation.specs.Machine.{machine}
use Rattle.simulation.specs.Nodes.{Cell, Within, meaning}
use Rattle.simulation.proofs.Bounds.{held_by, held, Sound}
use Rattle.machine.specs.Layout.{frame_cells, cell_place, caller_base, tables_place}
use Rattle.machine.specs.Memory.{cell_at, nodes_in, temps, frame_at, callers, machine_at}
use Rattle.machine.specs.Terms.{Stacked, Ready, Blank, Started}
use Rattle.machine.specs.declared.Run.{Run}
use Rattle.machine.proofs.Moves.{reads}
use Rattle.machine.proofs.Arguments.{zero-cells}

-- ---- temporaries

module _ {X : Type 0} (f : Cell → X) (m : List ℕ) where
  temps-length : (i n : ℕ) → length (temps f m i n) ≡ n
  unfolding temps
  temps-length i zero = refl
  temps-length i (suc n) = ap suc (temps-length i n)

  held-callers : (d top : ℕ) → Stacked m d top → held_by (callers f m d top) ≡ top + d
  unfolding callers
  held-callers zero top h = omega arith
  held-callers (suc d) top h =
      let k : get_or m (caller_base d) 0 ≤ top = h.0 in
      let i : held_by (callers f m d (get_or m (caller_base d) 0)) ≡ get_or m (caller_base d) 0 + d = held-callers d (get_or m (caller_base d) 0) h.1 in
      omega (arith, temps-length (get_or m (caller_base d) 0) (top - get_or m (caller_base d) 0))

-- the temporaries and callers that the machine holds are those of the memory
pub held-is : (m : List ℕ) (r : Run) → Ready m r → held (machine_at m r) ≡ r.top + r.depth
held-is m r h = omega (arith, temps-length (meaning (nodes_in m r.nodes)) m r.base (r.top - r.base), held-callers (meaning (nodes_in m r.nodes)) m r.depth r.base h.stack, h.low)

-- so after k steps there are at most k temporaries
pub tops-le : (m : List ℕ) (r : Run) (k : ℕ) → Ready m r → Sound k (machine_at m r) → r.top + r.depth ≤ k
tops-le m r k h s = omega (arith, s.few, held-is m r h)

-- ---- the start

abbrev fresh : Run
fresh = record { pc = 0; flag = false; base = 0; top = 0; depth = 0; nodes = 0 }

pub started : (m m₂ : List ℕ) → tables_place ≤ length m → length m₂ ≡ length m → Blank m m₂ 0 frame_cells → Started m m₂ fresh
unfolding temps callers
started m m₂ l len b = record {
  is = λ c i. machine 0 false [] (sym first i) [] 32;
  ready = record {
    deep = omega arith;
    low = omega arith;
    tops = record { words = omega arith; small = omega arith };
    few = record { words = omega arith; small = omega arith };
    stack = refl;
    framed = λ i g. subst (λ (j : ℕ). Within 0 (cell_at m₂ j)) {x = 0 + 2 * i} {y = cell_place i} (omega arith) (subst (Within 0) (sym (b.cell i (omega arith))) tt);
    held = λ i g. absurd (omega arith);
  };
  other = b.other;
  top = refl;
  none = refl;
}
  where
    first : frame (known (pos 0)) 16 [] ≡ frame_at (meaning (nodes_in m₂ 0)) m₂ 0
    first = zero-cells (meaning (nodes_in m₂ 0)) (reads (nodes_in m₂ 0)) m₂ 0 16 (λ k g. b.cell k g)
