-- The memory's tables: what stays where words stay, and what is written.
use mathlib.Core.Path.{◌≡◌, refl, sym, ap, ap₂, ◌∙◌, subst}
use mathlib.Core.List.{List, [], ◌∷◌, ◌++◌}
use mathlib.Core.Logic.{⊎_elim, ◌≢◌}
use Prim.Native.Nat.{ℕ, zero, suc, ◌+◌, ◌-◌, ◌*◌, ◌≤◌, ◌<◌}
use native.Mathlib.Nat.{eq-or-lt_of_le, le_trans}
use native.Mathlib.Numerals.{add-one}
use native.Mathlib.Omega.{arith}
use lib.ListN.{length, get_or, set, length-set, length-append}
use lib.Seq.{get_or-set_same, get_or-set_other}
use Rattle.simulation.specs.Nodes.{Cell, Known, Open, meaning, Within}
use Rattle.simulation.proofs.Nodes.{meaning-grows}
use Rattle.machine.specs.Layout.{frame_cells, frame_place, variable_place, cell_place, callers_place, caller_place, caller_base, temp_place, temp_end, node_place, node_left, node_right}
use Rattle.machine.specs.Memory.{cell_read_as, cell_at, node_as, node_at, nodes_in, cells, temps, frame_at, callers}
use Rattle.machine.specs.Terms.{Room, Stacked, Kept, Put, Noded}

-- ---- nodes

pub nodes-length : (m : List ℕ) (n : ℕ) → length (nodes_in m n) ≡ n
unfolding nodes_in
nodes-length m zero = refl
nodes-length m (suc n) = length-append (nodes_in m n) (node_at m n ∷ []) ∙ ap (λ k. k + 1) (nodes-length m n) ∙ add-one n

node_kept : {m m' : List ℕ} {n : ℕ} → Kept m m' n → (j : ℕ) → j < n → node_at m' j ≡ node_at m j
node_kept s j h = rw (s.noded (node_place j) j h (omega arith) (omega arith), s.noded (node_left j) j h (omega arith) (omega arith), s.noded (node_right j) j h (omega arith) (omega arith))

-- the first nodes stay
pub nodes-kept : {m m' : List ℕ} {n : ℕ} → Kept m m' n → (j : ℕ) → j ≤ n → nodes_in m' j ≡ nodes_in m j
unfolding nodes_in
nodes-kept s zero h = refl
nodes-kept s (suc j) h = ap₂ (λ l x. l ++ x ∷ []) (nodes-kept s j (omega arith)) (node_kept s j h)

pub within_more : (n n' : ℕ) → n ≤ n' → (v : Cell) → Within n v → Within n' v
within_more n n' l (Known z) h = h
within_more n n' l (Open j) h = omega arith

-- a cell that the first n nodes are enough for means the same with more of them
meaning-more : (m : List ℕ) (n n' : ℕ) → n ≤ n' → (v : Cell) → Within n v → meaning (nodes_in m n') v ≡ meaning (nodes_in m n) v
unfolding nodes_in
meaning-more m n zero l v h = ap (λ (k : ℕ). meaning (nodes_in m k) v) {x = zero} {y = n} (omega arith)
meaning-more m n (suc n') l v h = ⊎_elim
    (λ e. ap (λ (k : ℕ). meaning (nodes_in m k) v) {x = suc n'} {y = n} (sym e))
    (λ g. meaning-grows (nodes_in m n') (node_at m n' ∷ []) v (within_more n (length (nodes_in m n')) (omega (arith, nodes-length m n')) v h) ∙ meaning-more m n n' (omega arith) v h)
    (eq-or-lt_of_le {n = n} {m = suc n'} l)

-- what was written keeps its meaning
pub meaning-kept : {m m' : List ℕ} {n : ℕ} → Kept m m' n → (n' : ℕ) → n ≤ n' → (v : Cell) → Within n v → meaning (nodes_in m' n') v ≡ meaning (nodes_in m n) v
meaning-kept {m} {m'} {n} s n' l v h = meaning-more m' n n' l v h ∙ ap (λ l. meaning l v) (nodes-kept s n (omega arith))

-- ---- room

pub room-same : {m m' : List ℕ} {n : ℕ} → length m' ≡ length m → Room m n → Room m' n
room-same e r = record { words = omega (arith, r.words); small = r.small }

pub room-less : {m : List ℕ} {n : ℕ} (k : ℕ) → k ≤ n → Room m n → Room m k
room-less k l r = record { words = omega (arith, r.words); small = omega (arith, r.small) }

-- ---- d frames, c callers and t temporaries, which n nodes are enough for, are as they were

pub record Same (m m' : List ℕ) (d c t n : ℕ) : Type 0 where
  pub d-fits : d ≤ 33
  pub c-fits : c ≤ 32
  pub frames : (k : ℕ) → k < frame_place d → get_or m' k 0 ≡ get_or m k 0
  pub saved : (k : ℕ) → callers_place ≤ k → k < caller_place c → get_or m' k 0 ≡ get_or m k 0
  pub held : (k j : ℕ) → j < t → temp_place j ≤ k → k < temp_end j → get_or m' k 0 ≡ get_or m k 0

module _ {m m' : List ℕ} {d c t n : ℕ} (s : Same m m' d c t n) where
  pub frame-cell : (i : ℕ) → i + 1 < frame_place d → cell_at m' i ≡ cell_at m i
  frame-cell i h = ap₂ cell_read_as (s.frames i (omega arith)) (s.frames (i + 1) h)

  pub temp-cell : (j : ℕ) → j < t → cell_at m' (temp_place j) ≡ cell_at m (temp_place j)
  temp-cell j h = ap₂ cell_read_as (s.held (temp_place j) j h (omega arith) (omega arith)) (s.held (temp_place j + 1) j h (omega arith) (omega arith))

  pub stacked-same : (e b : ℕ) → e ≤ c → Stacked m e b → Stacked m' e b
  stacked-same zero b l h = h
  stacked-same (suc e) b l h = rw (s.saved (caller_base e) (omega arith) (omega arith)) (h.0, stacked-same e (get_or m (caller_base e) 0) (omega arith) h.1)

-- cells that stay, if f' reads as f the cells that n nodes are enough for
pub cells_same : {X : Type 0} (m m' : List ℕ) (n : ℕ) (f f' : Cell → X) → ((v : Cell) → Within n v → f' v ≡ f v) → (i k : ℕ) → ((j : ℕ) → j < k → cell_at m' (i + 2 * j) ≡ cell_at m (i + 2 * j))
    → ((j : ℕ) → j < k → Within n (cell_at m (i + 2 * j))) → cells f m i k ≡ cells f' m' i k
unfolding cells
cells_same m m' n f f' agree i zero q h = refl
cells_same m m' n f f' agree i (suc k) q h =
    let e : cell_at m' i ≡ cell_at m i = subst (λ (j : ℕ). cell_at m' j ≡ cell_at m j) {x = i + 2 * 0} {y = i} (omega arith) (q 0 (omega arith)) in
    let w : Within n (cell_at m i) = subst (λ (j : ℕ). Within n (cell_at m j)) {x = i + 2 * 0} {y = i} (omega arith) (h 0 (omega arith)) in
    ap₂ (λ x l. x ∷ l) (sym (ap f' e ∙ agree (cell_at m i) w))
    (cells_same m m' n f f' agree (i + 2) k
    (λ j l. subst (λ (x : ℕ). cell_at m' x ≡ cell_at m x) {x = i + 2 * suc j} {y = i + 2 + 2 * j} (omega arith) (q (suc j) (omega arith)))
    (λ j l. subst (λ (x : ℕ). Within n (cell_at m x)) {x = i + 2 * suc j} {y = i + 2 + 2 * j} (omega arith) (h (suc j) (omega arith))))

-- what the tables stand for, if f' reads as f the cells that n nodes are enough for
module _ {m m' : List ℕ} {d c t n : ℕ} (s : Same m m' d c t n) {X : Type 0} (f f' : Cell → X) (agree : (v : Cell) → Within n v → f' v ≡ f v) where
  pub frame_same : (e : ℕ) → e < d → ((j : ℕ) → j < frame_cells * e + frame_cells → Within n (cell_at m (cell_place j))) → frame_at f m e ≡ frame_at f' m' e
  frame_same e l h = cells_same m m' n f f' agree (frame_place e) frame_cells (λ j k. frame-cell s (variable_place e j) (omega arith))
      (λ j k. subst (λ (i : ℕ). Within n (cell_at m i)) {x = cell_place (frame_cells * e + j)} {y = variable_place e j} (omega arith) (h (frame_cells * e + j) (omega arith)))

  pub temps-same : (i k : ℕ) → i + k ≤ t → ((j : ℕ) → j < t → Within n (cell_at m (temp_place j))) → temps f m i k ≡ temps f' m' i k
  unfolding temps
  temps-same i zero l h = refl
  temps-same i (suc k) l h = ap₂ (λ x l. x ∷ l) (sym (ap f' (temp-cell s (i + k) (omega arith)) ∙ agree (cell_at m (temp_place (i + k))) (h (i + k) (omega arith)))) (temps-same i k (omega arith) h)

  pub callers-same : (e top : ℕ) → e ≤ d → e ≤ c → top ≤ t → Stacked m e top → ((j : ℕ) → j < frame_cells * e → Within n (cell_at m (cell_place j)))
      → ((j : ℕ) → j < t → Within n (cell_at m (temp_place j))) → callers f m e top ≡ callers f' m' e top
  unfolding callers
  callers-same zero top l z k b g h = refl
  callers-same (suc e) top l z k b g h =
      let c₁ : get_or m (caller_base e) 0 ≤ top = b.0 in
      let p = temps-same (get_or m (caller_base e) 0) (top - get_or m (caller_base e) 0) (omega arith) h in
      let q = frame_same e (omega arith) (λ j u. g j (omega arith)) in
      let r = callers-same e (get_or m (caller_base e) 0) (omega arith) (omega arith) (le_trans c₁ k) b.1 (λ j u. g j (omega arith)) h in
      rw (s.saved (caller_place e) (omega arith) (omega arith), s.saved (caller_base e) (omega arith) (omega arith)) (λ i. record { pc = get_or m (caller_place e) 0; temps = p i; frame = q i } ∷ r i)

-- ---- writing

-- two words
module _ (m : List ℕ) (i a b : ℕ) (h : i + 1 < length m) where
  abbrev m₁ : List ℕ
  m₁ = set m i a

  abbrev m₂ : List ℕ
  m₂ = set m₁ (i + 1) b

  unwritten : (k : ℕ) → k ≢ i → k ≢ i + 1 → get_or m₂ k 0 ≡ get_or m k 0
  unwritten k p q = get_or-set_other m₁ (i + 1) k b 0 q ∙ get_or-set_other m i k a 0 p

  pub put_two : (v : Cell) → cell_read_as a b ≡ v → Put m m₂ i v
  put_two v e = record {
    other = record { outside = λ k l. unwritten k (λ e. l (omega arith) (omega arith)) (λ e. l (omega arith) (omega arith)) };
    cell = ap₂ cell_read_as (get_or-set_other m₁ (i + 1) i b 0 (omega arith) ∙ get_or-set_same m i a 0 (omega arith)) (get_or-set_same m₁ (i + 1) b 0 (simp length-set (omega arith))) ∙ e;
  }

-- a node
module _ (m : List ℕ) (n k x y : ℕ) (h : Room m (n + 1)) where
  abbrev n₁ : List ℕ
  n₁ = set m (node_place n) k

  abbrev n₂ : List ℕ
  n₂ = set n₁ (node_place n + 1) x

  abbrev n₃ : List ℕ
  n₃ = set n₂ (node_place n + 2) y

  apart : (j : ℕ) → j ≢ node_place n → j ≢ node_place n + 1 → j ≢ node_place n + 2 → get_or n₃ j 0 ≡ get_or m j 0
  apart j a b c = get_or-set_other n₂ (node_place n + 2) j y 0 c ∙ get_or-set_other n₁ (node_place n + 1) j x 0 b ∙ get_or-set_other m (node_place n) j k 0 a

  first : get_or n₃ (node_place n) 0 ≡ k
  first = get_or-set_other n₂ (node_place n + 2) (node_place n) y 0 (omega arith) ∙ get_or-set_other n₁ (node_place n + 1) (node_place n) x 0 (omega arith)
      ∙ get_or-set_same m (node_place n) k 0 (omega (arith, h.words))

  second : get_or n₃ (node_left n) 0 ≡ x
  second = ap (λ (k : ℕ). get_or n₃ k 0) {x = node_left n} {y = node_place n + 1} (omega arith) ∙ get_or-set_other n₂ (node_place n + 2) (node_place n + 1) y 0 (omega arith)
      ∙ get_or-set_same n₁ (node_place n + 1) x 0 (simp length-set (omega (arith, h.words)))

  third : get_or n₃ (node_right n) 0 ≡ y
  third = ap (λ (k : ℕ). get_or n₃ k 0) {x = node_right n} {y = node_place n + 2} (omega arith) ∙ get_or-set_same n₂ (node_place n + 2) y 0 (simp length-set (omega (arith, h.words)))

  pub noded : Noded m n₃ n (node_as k x y)
  noded = record {
    other = record { outside = λ j l. apart j (λ e. l (omega arith) (omega arith)) (λ e. l (omega arith) (omega arith)) (λ e. l (omega arith) (omega arith)) };
    node = rw (first, second, third);
  }
