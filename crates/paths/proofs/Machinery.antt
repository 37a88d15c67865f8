-- The machine stays where the words on which it stands do.
use mathlib.Core.Path.{◌≡◌, refl, sym, ap, ap₂, ◌∙◌, subst}
use mathlib.Core.Bool.{Bool}
use mathlib.Core.List.{List, ◌∷◌}
use Prim.Native.Nat.{ℕ, zero, suc, ◌+◌, ◌-◌, ◌*◌, ◌≤◌, ◌<◌}
use native.Mathlib.Omega.{arith}
use lib.ListN.{length, get_or}
use Rattle.simulation.specs.Machine.{machine}
use Rattle.simulation.specs.Nodes.{Cell, Within, meaning}
use Rattle.machine.specs.Layout.{frame_cells, frame_place, caller_place, caller_base, windows_place, temp_place}
use Rattle.machine.specs.Memory.{cell_read_as, cell_at, nodes_in, cells, temps, callers, machine_in, machine_at}
use Rattle.machine.specs.Terms.{Stacked, Ready, flagged}
use Rattle.machine.specs.declared.Run.{Run}
use Rattle.machine.proofs.Tables.{room-same}
use Rattle.paths.specs.Point.{Machinery}
use Rattle.paths.proofs.Table.{node-same, nodes-same}

pub machinery-then : {m m₁ m₂ : List ℕ} → Machinery m m₁ → Machinery m₁ m₂ → Machinery m m₂
machinery-then a b = record { low = λ k l. b.low k l ∙ a.low k l; tables = λ k j x y. b.tables k j x y ∙ a.tables k j x y }

module _ {m m' : List ℕ} (s : Machinery m m') where
  low-cell : (i : ℕ) → i + 1 < windows_place → cell_at m' i ≡ cell_at m i
  low-cell i l = ap₂ cell_read_as (s.low i (omega arith)) (s.low (i + 1) l)

  held-cell : (j : ℕ) → cell_at m' (temp_place j) ≡ cell_at m (temp_place j)
  held-cell j = ap₂ cell_read_as (s.tables (temp_place j) j (omega arith) (omega arith)) (s.tables (temp_place j + 1) j (omega arith) (omega arith))

  pub nodes-stay : (n : ℕ) → nodes_in m' n ≡ nodes_in m n
  nodes-stay n = nodes-same m m' n (λ j l. node-same m m' j (λ i x y. s.tables i j (omega arith) (omega arith)))

  stacked-stays : (d b : ℕ) → d ≤ 32 → Stacked m d b → Stacked m' d b
  stacked-stays zero b l h = h
  stacked-stays (suc d) b l h = rw (s.low (caller_base d) (omega arith)) (h.0, stacked-stays d (get_or m (caller_base d) 0) (omega arith) h.1)

  module _ {X : Type 0} (f : Cell → X) where
    cells_stay : (i k : ℕ) → i + 2 * k ≤ windows_place → cells f m' i k ≡ cells f m i k
    unfolding cells
    cells_stay i zero l = refl
    cells_stay i (suc k) l = ap₂ (λ (x : X) (xs : List X). x ∷ xs) (ap f (low-cell i (omega arith))) (cells_stay (i + 2) k (omega arith))

    temps-stay : (i k : ℕ) → temps f m' i k ≡ temps f m i k
    unfolding temps
    temps-stay i zero = refl
    temps-stay i (suc k) = ap₂ (λ (x : X) (xs : List X). x ∷ xs) (ap f (held-cell (i + k))) (temps-stay i k)

    callers-stay : (d top : ℕ) → d ≤ 32 → callers f m' d top ≡ callers f m d top
    unfolding callers
    callers-stay zero top l = refl
    callers-stay (suc d) top l =
        let b = get_or m (caller_base d) 0 in
        rw (s.low (caller_place d) (omega arith), s.low (caller_base d) (omega arith))
        (λ i. record { pc = get_or m (caller_place d) 0; temps = temps-stay b (top - b) i; frame = cells_stay (frame_place d) frame_cells (omega arith) i } ∷ callers-stay d b (omega arith) i)

    machine-in : (r : Run) → r.depth ≤ 32 → machine_in f m' r ≡ machine_in f m r
    machine-in r l = λ i. machine r.pc r.flag (temps-stay r.base (r.top - r.base) i) (cells_stay (frame_place r.depth) frame_cells (omega arith) i)
        (callers-stay r.depth r.base l i) (32 - r.depth)

  pub machine-stays : (r : Run) → r.depth ≤ 32 → machine_at m' r ≡ machine_at m r
  machine-stays r l = ap (λ ns. machine_in (meaning ns) m' r) (nodes-stay r.nodes) ∙ machine-in (meaning (nodes_in m r.nodes)) r l

  pub ready-stays : (r : Run) → length m' ≡ length m → Ready m r → Ready m' r
  ready-stays r e h = record {
    deep = h.deep;
    low = h.low;
    tops = room-same e h.tops;
    few = room-same e h.few;
    stack = stacked-stays r.depth r.base h.deep h.stack;
    framed = λ i l. subst (Within r.nodes) (sym (low-cell (2 * i) (omega (arith, h.deep)))) (h.framed i l);
    held = λ i l. subst (Within r.nodes) (sym (held-cell i)) (h.held i l);
  }

pub ready-flagged : {m : List ℕ} {r : Run} (b : Bool) → Ready m r → Ready m (flagged r b)
ready-flagged b h = record { deep = h.deep; low = h.low; tops = h.tops; few = h.few; stack = h.stack; framed = h.framed; held = h.held }
