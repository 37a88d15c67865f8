-- What stays of a machine where most words stay: after a temporary was added, after a variable was written, and in the next frame.
use mathlib.Core.Path.{◌≡◌, refl, sym, ap, ap₂, ◌∙◌, subst}
use mathlib.Core.List.{List, ◌∷◌}
use mathlib.Core.Logic.{⊎_elim, ◌≢◌, ◌⊎◌, inl, inr}
use Prim.Native.Nat.{ℕ, zero, suc, ◌+◌, ◌-◌, ◌*◌, ◌≤◌, ◌<◌}
use native.Mathlib.Omega.{arith}
use native.Mathlib.Decide.{dec_lt}
use lib.ListN.{set}
use Rattle.simulation.specs.Nodes.{Cell, Within}
use Rattle.machine.specs.Layout.{frame_cells, cell_place, windows_place, temp_place}
use Rattle.machine.specs.Memory.{cell_at, cells, temps, frame_at, callers}
use Rattle.machine.specs.Terms.{Ready, Other, Kept, Put, topped}
use Rattle.machine.specs.declared.Run.{Run}
use Rattle.machine.proofs.Tables.{Same, within_more, frame-cell, temp-cell, cells_same, frame_same, temps-same, callers-same, room-less}

pub three : (x y : ℕ) → (x ≡ y) ⊎ ((x < y) ⊎ (y < x))
three x y = go (dec_lt x y) (dec_lt y x)
  where
    go : Dec (x < y) → Dec (y < x) → (x ≡ y) ⊎ ((x < y) ⊎ (y < x))
    go (yes a) b = inr (inl a)
    go (no a) (yes b) = inr (inr b)
    go (no a) (no b) = inl (omega arith)

pub is-or-not : (x y : ℕ) → (x ≡ y) ⊎ (x ≢ y)
is-or-not x y = ⊎_elim (λ e. inl e) (λ h. inr (⊎_elim (λ l. omega arith) (λ l. omega arith) h)) (three x y)

pub topped-ready : (m : List ℕ) (r : Run) (top : ℕ) → Ready m r → r.base ≤ top → top ≤ r.top → Ready m (topped r top)
topped-ready m r top h a b = record { deep = h.deep; low = a; tops = room-less top b h.tops; few = h.few; stack = h.stack; framed = h.framed; held = λ i l. h.held i (omega arith) }

-- ---- which words stay

pub kept-none : {m : List ℕ} {n : ℕ} → Kept m m n
kept-none = record { fixed = λ k a b. refl; tables = λ k j a b. refl; noded = λ k j h a b. refl }

pub kept_then : {m m₁ m₂ : List ℕ} {n : ℕ} → Kept m m₁ n → Kept m₁ m₂ n → Kept m m₂ n
kept_then a b = record {
  fixed = λ k p q. b.fixed k p q ∙ a.fixed k p q;
  tables = λ k j p q. b.tables k j p q ∙ a.tables k j p q;
  noded = λ k j h p q. b.noded k j h p q ∙ a.noded k j h p q;
}

-- a write into the frames or the callers
pub kept_low : {m m' : List ℕ} {i j : ℕ} (n : ℕ) → Other m m' i j → j ≤ windows_place → Kept m m' n
kept_low n o l = record {
  fixed = λ k a b. o.outside k (λ p q. omega arith);
  tables = λ k j a b. o.outside k (λ p q. omega arith);
  noded = λ k j h a b. o.outside k (λ p q. omega arith);
}

-- a temporary
pub kept-temp : {m m' : List ℕ} {v : Cell} (t n : ℕ) → Put m m' (temp_place t) v → Kept m m' n
kept-temp t n p = record {
  fixed = λ k a b. p.other.outside k (λ u v. omega arith);
  tables = λ k j a b. p.other.outside k (λ u v. omega arith);
  noded = λ k j h a b. p.other.outside k (λ u v. omega arith);
}

-- ---- what stays of the machine

module _ (m m' : List ℕ) (r : Run) (d t n : ℕ) (s : Same m m' d r.depth t r.nodes) (ready : Ready m r) (small : t ≤ r.top) (more : r.nodes ≤ n) where
  pub held_stays : (i : ℕ) → i < t → Within n (cell_at m' (temp_place i))
  held_stays i l = subst (Within n) (sym (temp-cell s i l)) (within_more r.nodes n more (cell_at m (temp_place i)) (ready.held i (omega arith)))

  pub framed-stays : (i : ℕ) → i < frame_cells * d → i < frame_cells * r.depth + frame_cells → Within n (cell_at m' (cell_place i))
  framed-stays i l g = subst (Within n) (sym (frame-cell s (cell_place i) (omega arith))) (within_more r.nodes n more (cell_at m (cell_place i)) (ready.framed i g))

  module _ {X : Type 0} (f f' : Cell → X) (agree : (v : Cell) → Within r.nodes v → f' v ≡ f v) where
    pub temps-stay : (u : ℕ) → r.base ≤ u → u ≤ t → temps f m r.base (u - r.base) ≡ temps f' m' r.base (u - r.base)
    temps-stay u a b = temps-same s f f' agree r.base (u - r.base) (omega arith) (λ j l. ready.held j (omega arith))

    pub frame-stays : r.depth < d → frame_at f m r.depth ≡ frame_at f' m' r.depth
    frame-stays l = frame_same s f f' agree r.depth l ready.framed

    pub callers-stay : r.depth ≤ d → r.base ≤ t → callers f m r.depth r.base ≡ callers f' m' r.depth r.base
    callers-stay l b = callers-same s f f' agree r.depth r.base l (omega arith) b ready.stack (λ j g. ready.framed j (omega arith)) (λ j g. ready.held j (omega arith))

-- ---- a cell of a frame

pub cells-set : {X : Type 0} (m m' : List ℕ) (n : ℕ) (f f' : Cell → X) → ((v : Cell) → Within n v → f' v ≡ f v) → (v : Cell) (i k a : ℕ) → a < k → cell_at m' (i + 2 * a) ≡ v
    → ((j : ℕ) → j < k → j ≢ a → cell_at m' (i + 2 * j) ≡ cell_at m (i + 2 * j)) → ((j : ℕ) → j < k → Within n (cell_at m (i + 2 * j))) → set (cells f m i k) a (f' v) ≡ cells f' m' i k
unfolding cells
cells-set m m' n f f' agree v i zero a l e q h = absurd (omega arith)
cells-set m m' n f f' agree v i (suc k) zero l e q h =
    ap₂ (λ x l. x ∷ l) (ap f' (sym e) ∙ ap (λ (j : ℕ). f' (cell_at m' j)) {x = i + 2 * 0} {y = i} (omega arith))
    (cells_same m m' n f f' agree (i + 2) k
    (λ j g. subst (λ (x : ℕ). cell_at m' x ≡ cell_at m x) {x = i + 2 * suc j} {y = i + 2 + 2 * j} (omega arith) (q (suc j) (omega arith) (omega arith)))
    (λ j g. subst (λ (x : ℕ). Within n (cell_at m x)) {x = i + 2 * suc j} {y = i + 2 + 2 * j} (omega arith) (h (suc j) (omega arith))))
cells-set m m' n f f' agree v i (suc k) (suc a) l e q h =
    let e₀ : cell_at m' i ≡ cell_at m i = subst (λ (j : ℕ). cell_at m' j ≡ cell_at m j) {x = i + 2 * 0} {y = i} (omega arith) (q 0 (omega arith) (omega arith)) in
    let w : Within n (cell_at m i) = subst (λ (j : ℕ). Within n (cell_at m j)) {x = i + 2 * 0} {y = i} (omega arith) (h 0 (omega arith)) in
    ap₂ (λ x l. x ∷ l) (sym (ap f' e₀ ∙ agree (cell_at m i) w))
    (cells-set m m' n f f' agree v (i + 2) k a (omega arith) (ap (cell_at m') {x = i + 2 + 2 * a} {y = i + 2 * suc a} (omega arith) ∙ e)
    (λ j g z. subst (λ (x : ℕ). cell_at m' x ≡ cell_at m x) {x = i + 2 * suc j} {y = i + 2 + 2 * j} (omega arith) (q (suc j) (omega arith) (omega arith)))
    (λ j g. subst (λ (x : ℕ). Within n (cell_at m x)) {x = i + 2 * suc j} {y = i + 2 + 2 * j} (omega arith) (h (suc j) (omega arith))))
