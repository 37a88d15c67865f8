-- What the machine says of cells, said of the memory's words: those that the code does not use are blank, and so is the first frame.
use mathlib.Core.Path.{◌≡◌, refl, sym, ap, ◌∙◌, subst}
use mathlib.Core.Bool.{Bool, true, false}
use mathlib.Core.Logic.{⊎_elim}
use mathlib.Core.List.{List}
use Prim.Native.Nat.{ℕ, zero, suc, ◌+◌, ◌-◌, ◌*◌, ◌/◌, ◌%◌, ◌^◌, ◌≤◌, ◌<◌}
use native.Mathlib.Omega.{arith}
use lib.ListN.{length, get_or}
use lib.IntN.{pos, negsuc}
use lib.Dec.{ltb}
use mir.Val.{sel}
use Rattle.semantics.specs.Program.{Window}
use Rattle.semantics.specs.Search.{Value, known}
use Rattle.simulation.specs.Code.{Code}
use Rattle.simulation.specs.Nodes.{Cell, Node, meaning, Within}
use Rattle.simulation.specs.Cells.{Uses, Blank, Blanks, CallsMain, BlankStart}
use Rattle.simulation.proofs.Nodes.{IsOpen, meaning-open}
use Rattle.simulation.proofs.Cells.{spares-comes, start-comes}
use Rattle.machine.specs.Layout.{frame_cells, cell_words, frame_place, variable_place, cell_place, caller_place}
use Rattle.machine.specs.Memory.{cell_read_as, cell_at, nodes_in, cells, frame_at, callers}
use Rattle.machine.specs.Terms.{Ready}
use Rattle.machine.proofs.Tables.{nodes-length}
use Rattle.machine.proofs.Stays.{three}
use Rattle.paths.specs.declared.Point.{Point}
use Rattle.checkpoints.specs.Live.{Slim, Unused}
use Rattle.checkpoints.proofs.Places.{either}
use Rattle.walks.specs.Checkpoints.{ComesTo}

-- ---- cells

zero_number : (t : Bool) (b k : ℕ) → known (sel t (pos b) (negsuc k)) ≡ known (pos 0) → b ≡ 0
zero_number true b k e = cc
zero_number false b k e = let z : ◌≡◌ {A = ℕ} 0 1 = cc in absurd (omega arith)

-- a cell that stands for 0 has no other word than 0
zero-cell : (ns : List Node) (a b : ℕ) → Within (length ns) (cell_read_as a b) → meaning ns (cell_read_as a b) ≡ known (pos 0) → (a ≡ 0) × (b ≡ 0)
unfolding meaning
zero-cell ns zero b h e = (refl, zero_number (ltb b (2 ^ 31)) b (2 ^ 32 - suc b) e)
zero-cell ns (suc a) b h e = absurd (subst IsOpen e (meaning-open ns b h))

cells_at : (f : Cell → Value) (m : List ℕ) (i n j : ℕ) → j < n → get_or (cells f m i n) j (known (pos 0)) ≡ f (cell_at m (i + 2 * j))
unfolding cells
cells_at f m i zero j l = absurd (omega arith)
cells_at f m i (suc n) zero l = ap (λ (x : ℕ). f (cell_at m x)) {x = i} {y = i + 2 * 0} (omega arith)
cells_at f m i (suc n) (suc j) l = cells_at f m (i + 2) n j (omega arith) ∙ ap (λ (x : ℕ). f (cell_at m x)) {x = i + 2 + 2 * j} {y = i + 2 * suc j} (omega arith)

blanks_at : (f : Cell → Value) (m : List ℕ) (n d top : ℕ) → Blanks n (callers f m d top) → (j : ℕ) → j < d → Blank n (frame_at f m j)
unfolding callers
blanks_at f m n zero top h j l = absurd (omega arith)
blanks_at f m n (suc d) top h j l = ⊎_elim (λ e. subst (λ (j : ℕ). Blank n (frame_at f m j)) (sym e) h.0) (λ g. ⊎_elim (λ g. blanks_at f m n d _ h.1 j g) (λ g. absurd (omega arith)) g) (three j d)

-- the first frame is that of the start
start-at : (f : Cell → Value) (m : List ℕ) (i d top : ℕ) → BlankStart i (frame_at f m d) (callers f m d top) → Blank 0 (frame_at f m 0)
unfolding callers
start-at f m i zero top h = h.1
start-at f m i (suc d) top h = start-at f m (get_or m (caller_place d) 0) d _ h

-- ---- words

module _ (c : Code) (job : Window) (limit : ℕ) (m : List ℕ) (p : Point) (comes : ComesTo c job limit m p) (ready : Ready m p.run) where
  abbrev f : Cell → Value
  f = meaning (nodes_in m p.run.nodes)

  -- the two words of a cell that is blank
  blank-words : (n j a : ℕ) → Blank n (frame_at f m j) → j ≤ p.run.depth → n ≤ a → a < frame_cells → (get_or m (variable_place j a) 0 ≡ 0) × (get_or m (variable_place j a + 1) 0 ≡ 0)
  blank-words n j a h l g k = zero-cell (nodes_in m p.run.nodes) (get_or m (variable_place j a) 0) (get_or m (variable_place j a + 1) 0)
      (subst (λ (k : ℕ). Within k (cell_at m (variable_place j a))) (sym (nodes-length m p.run.nodes))
      (subst (λ (x : ℕ). Within p.run.nodes (cell_at m x)) {x = cell_place (frame_cells * j + a)} {y = variable_place j a} (omega arith) (ready.framed (frame_cells * j + a) (omega arith))))
      (sym (cells_at f m (frame_place j) frame_cells a k) ∙ h.rest a g)

  blank-word : (n j a b : ℕ) → Blank n (frame_at f m j) → j ≤ p.run.depth → n ≤ a → a < frame_cells → b < cell_words → get_or m (variable_place j a + b) 0 ≡ 0
  blank-word n j a b h l g k = either (λ (b : ℕ). get_or m (variable_place j a + b) 0 ≡ 0) (ap (λ (x : ℕ). get_or m x 0) {x = variable_place j a + 0} {y = variable_place j a} (omega arith) ∙ (blank-words n j a h l g k).0) (blank-words n j a h l g k).1 b

  -- where a path comes, no cell of a frame that the code does not use holds anything but 0
  slim-so : (n : ℕ) → Uses c n → Slim n m p.run.depth
  slim-so n uses = record { rest = λ j a b l. blank-word n j a b (frames j l) l }
    where
      frames : (j : ℕ) → j ≤ p.run.depth → Blank n (frame_at f m j)
      frames j l =
          let s = spares-comes c n uses comes in
          ⊎_elim (λ e. subst (λ (j : ℕ). Blank n (frame_at f m j)) (sym e) s.frame) (λ g. ⊎_elim (λ g. blanks_at f m n p.run.depth p.run.base s.callers j g) (λ g. absurd (omega arith)) g) (three j p.run.depth)

  -- and no cell of the first frame does, if the code begins with the call of main
  pub unused-so : (n : ℕ) → Uses c n → CallsMain c → Unused n m p.run.depth
  unused-so n uses calls-main = record {
    first = λ x l. subst (λ (y : ℕ). get_or m y 0 ≡ 0) {x = variable_place 0 (x / 2) + x % 2} {y = x} (omega arith) (blank-word 0 0 (x / 2) (x % 2) blank (omega arith) (omega arith) (omega arith) (omega arith));
    slim = slim-so n uses;
  }
    where
      blank : Blank 0 (frame_at f m 0)
      blank = start-at f m p.run.pc p.run.depth p.run.base (start-comes c calls-main comes)
