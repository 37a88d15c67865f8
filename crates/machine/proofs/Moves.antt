-- An operation, an assignment, a declaration, and a return to a caller.
use mathlib.Core.Path.{◌≡◌, refl, sym, ap, ap₂, ◌∙◌, subst}
use mathlib.Core.Bool.{Bool}
use mathlib.Core.List.{List, [], ◌∷◌, ◌++◌}
use mathlib.Core.Logic.{⊎_elim, ◌≢◌}
use Prim.Native.Nat.{ℕ, zero, suc, ◌+◌, ◌-◌, ◌*◌, ◌≤◌, ◌<◌}
use native.Mathlib.Nat.{eq-or-lt_of_le}
use native.Mathlib.Omega.{arith}
use lib.ListN.{length, get_or}
use Rattle.semantics.specs.Int.{Op}
use Rattle.semantics.specs.Program.{slot}
use Rattle.semantics.specs.Does.{store}
use Rattle.semantics.specs.Search as search
use Rattle.simulation.specs.Code.{Code, Act}
use Rattle.simulation.specs.Machine.{machine, Doing}
use Rattle.simulation.specs.Nodes as nodes
use Rattle.simulation.specs.Nodes.{Cell, Node, unknown, operation, Within, meaning, working}
use Rattle.simulation.proofs.Nodes.{working-ok, working-grows, adding-ok}
use Rattle.machine.specs.Layout.{frame_cells, frame_place, variable_place, cell_place, caller_place, caller_base, temp_place, node_place, node_left, node_right, node_end}
use Rattle.machine.specs.Memory.{Sym, cell_read_as, cell_at, node_at, nodes_in, temps, frame_at, callers, machine_at}
use Rattle.machine.specs.Terms.{cell_of, Room, Ready, Other, Kept, Put, Noded, Worked, Formed, Reads, Taking, Paired, Goes, acts, storing, Asked}
use Rattle.machine.specs.declared.Value.{Value}
use Rattle.machine.specs.declared.Run.{Run}
use Rattle.machine.proofs.Tables.{Same, nodes-length, nodes-kept, meaning-kept, within_more, frame-cell, temp-cell, stacked-same, frame_same, temps-same, callers-same, room-same, room-less}
use Rattle.machine.proofs.Operands.{kept-node}
use Rattle.machine.proofs.Stays.{three, is-or-not, kept_then, kept_low, kept-temp, held_stays, framed-stays, temps-stay, frame-stays, callers-stay, cells-set}

pub reads : (ns : List Node) → Reads (meaning ns)
unfolding meaning
reads ns z = refl

-- ---- an operation

module _ (c : Code) (m m₁ m₂ : List ℕ) (r : Run) (o : Op) (d : ℕ) (x y v : Value) (t n : ℕ)
    (ready : Ready m r) (room : Room m (r.top + 1)) (nodes-room : Room m (r.nodes + 1)) (len : length m₂ ≡ length m)
    (p : Paired c m r d x y t) (w : Worked m m₁ r.nodes o x y v n) (q : Put m₁ m₂ (temp_place t) (cell_of v)) where
  abbrev f₀ : Cell → Sym
  f₀ = meaning (nodes_in m r.nodes)

  abbrev f₂ : Cell → Sym
  f₂ = meaning (nodes_in m₂ n)

  word : (k : ℕ) → (node_place r.nodes ≤ k → k < node_end r.nodes → ⊥) → (temp_place t ≤ k → k < temp_place t + 2 → ⊥) → get_or m₂ k 0 ≡ get_or m k 0
  word k a b = q.other.outside k b ∙ w.other.outside k a

  same : Same m m₂ (r.depth + 1) r.depth t r.nodes
  same = record {
    d-fits = omega (arith, ready.deep);
    c-fits = ready.deep;
    frames = λ k l. word k (λ a b. omega (arith, ready.deep)) (λ a b. omega (arith, ready.deep));
    saved = λ k g l. word k (λ a b. omega (arith, ready.deep)) (λ a b. omega (arith, ready.deep));
    held = λ k j h g l. word k (λ a b. omega arith) (λ a b. omega arith);
  }

  same_kept : Kept m m₂ r.nodes
  same_kept = kept_then (kept-node m m₁ r.nodes w.other) (kept-temp t r.nodes q)

  agree : (u : Cell) → Within r.nodes u → f₂ u ≡ f₀ u
  agree u h = meaning-kept same_kept n w.more u h

  nodes-are : nodes_in m₂ n ≡ (working o (cell_of x) (cell_of y) (nodes_in m r.nodes)).nodes
  nodes-are = nodes-kept (kept-temp t n q) n (omega arith) ∙ w.nodes

  in-length : (u : Cell) → Within r.nodes u → Within (length (nodes_in m r.nodes)) u
  in-length u h = subst (λ (k : ℕ). Within k u) (sym (nodes-length m r.nodes)) h

  value-is : search.work o (f₀ (cell_of x)) (f₀ (cell_of y)) ≡ f₂ (cell_at m₂ (temp_place t))
  value-is = sym (ap f₂ (q.cell ∙ w.is) ∙ ap (λ l. meaning l (working o (cell_of x) (cell_of y) (nodes_in m r.nodes)).cell) nodes-are
      ∙ working-ok o (cell_of x) (cell_of y) (nodes_in m r.nodes) (in-length (cell_of x) p.left) (in-length (cell_of y) p.right))

  value-within : Within n (cell_at m₂ (temp_place t))
  value-within = subst (Within n) (sym (q.cell ∙ w.is))
      (subst (λ (k : ℕ). Within k (working o (cell_of x) (cell_of y) (nodes_in m r.nodes)).cell) (ap length (sym nodes-are) ∙ nodes-length m₂ n)
      (working-grows o (cell_of x) (cell_of y) (nodes_in m r.nodes)).within)

  temps-are : search.work o (f₀ (cell_of x)) (f₀ (cell_of y)) ∷ temps f₀ m r.base (t - r.base) ≡ temps f₂ m₂ r.base (t + 1 - r.base)
  unfolding temps
  temps-are =
      ap₂ (λ s l. s ∷ l)
      (value-is ∙ ap (λ i. f₂ (cell_at m₂ (temp_place i))) {x = t} {y = r.base + (t - r.base)} (omega (arith, p.low)))
      (temps-stay m m₂ r (r.depth + 1) t n same ready p.high w.more f₀ f₂ agree t p.low (omega arith))
      ∙ ap (temps f₂ m₂ r.base) {x = suc (t - r.base)} {y = t + 1 - r.base} (omega (arith, p.low))

  operated-formed : (j : ℕ) → r.nodes ≤ j → j < n → Formed j (node_at m₂ j)
  operated-formed j a b = subst (λ (k : ℕ). Formed k (node_at m₂ j)) j-is (subst (Formed r.nodes) (sym here) (p.left, p.right))
    where
      j-is : r.nodes ≡ j
      j-is = omega (arith, w.one)

      here : node_at m₂ j ≡ operation o (cell_of x) (cell_of y)
      here = rw (q.other.outside (node_place j) (λ a b. omega arith), q.other.outside (node_left j) (λ a b. omega arith), q.other.outside (node_right j) (λ a b. omega arith)) (w.node j a b)

  pub operated : Goes Doing.step 1 (acts c m r (Act.operate o d)) m r.nodes m₂ (record { pc = r.pc + 1; flag = r.flag; base = r.base; top = t + 1; depth = r.depth; nodes = n })
  operated = record {
    is = ap (λ t. Doing.step (machine (suc r.pc) r.flag (search.work o t.first t.second ∷ t.rest) (frame_at f₀ m r.depth) (callers f₀ m r.depth r.base) (32 - r.depth)))
        (p.is f₀ (reads (nodes_in m r.nodes)))
        ∙ (λ i. Doing.step (machine (pc-is i) r.flag (temps-are i) (f i) (g i) (32 - r.depth)));
    ready = record {
      deep = ready.deep;
      low = omega (arith, p.low);
      tops = room-same len (room-less (t + 1) (omega (arith, p.high)) room);
      few = room-same len (room-less n w.one nodes-room);
      stack = stacked-same same r.depth r.base (omega arith) ready.stack;
      framed = λ i l. framed-stays m m₂ r (r.depth + 1) t n same ready p.high w.more i (omega arith) l;
      held = λ i l. ⊎_elim (λ e. subst (λ (i : ℕ). Within n (cell_at m₂ (temp_place i))) (sym e) value-within) (λ g. held_stays m m₂ r (r.depth + 1) t n same ready p.high w.more i g)
          (eq-or-lt_of_le {n = i} {m = t} (omega arith));
    };
    kept = same_kept;
    more = w.more;
    grows = w.one;
    formed = operated-formed;
  }
    where
      pc-is : suc r.pc ≡ r.pc + 1
      pc-is = omega arith

      f : frame_at f₀ m r.depth ≡ frame_at f₂ m₂ r.depth
      f = frame-stays m m₂ r (r.depth + 1) t n same ready p.high w.more f₀ f₂ agree (omega arith)

      g : callers f₀ m r.depth r.base ≡ callers f₂ m₂ r.depth r.base
      g = callers-stay m m₂ r (r.depth + 1) t n same ready p.high w.more f₀ f₂ agree (omega arith) p.low

-- ---- a variable

-- v was put into place a of the frame, after a node may have been made
module _ (m m₁ m₂ : List ℕ) (r : Run) (t n a : ℕ) (v : Cell) (ready : Ready m r) (low : r.base ≤ t) (small : t ≤ r.top) (more : r.nodes ≤ n) (n_room : Room m n)
    (len : length m₂ ≡ length m) (l : a < 16)
    (o : Other m m₁ (node_place r.nodes) (node_end r.nodes)) (p : Put m₁ m₂ (variable_place r.depth a) v) (w : Within n v) where
  abbrev varied : Run
  varied = record { pc = r.pc + 1; flag = r.flag; base = r.base; top = t; depth = r.depth; nodes = n }

  abbrev h₀ : Cell → Sym
  h₀ = meaning (nodes_in m r.nodes)

  abbrev h₂ : Cell → Sym
  h₂ = meaning (nodes_in m₂ n)

  word_same : (k : ℕ) → (node_place r.nodes ≤ k → k < node_end r.nodes → ⊥) → (variable_place r.depth a ≤ k → k < variable_place r.depth a + 2 → ⊥) → get_or m₂ k 0 ≡ get_or m k 0
  word_same k g h = p.other.outside k h ∙ o.outside k g

  pub varied-kept : Kept m m₂ r.nodes
  varied-kept = kept_then (kept-node m m₁ r.nodes o) (kept_low r.nodes p.other (omega (arith, ready.deep)))

  varied-same : Same m m₂ r.depth r.depth r.top r.nodes
  varied-same = record {
    d-fits = omega (arith, ready.deep);
    c-fits = ready.deep;
    frames = λ k g. word_same k (λ x y. omega (arith, ready.deep)) (λ x y. omega arith);
    saved = λ k g h. word_same k (λ x y. omega (arith, ready.deep)) (λ x y. omega (arith, ready.deep));
    held = λ k j h g i. word_same k (λ x y. omega arith) (λ x y. omega (arith, ready.deep));
  }

  varied-agree : (u : Cell) → Within r.nodes u → h₂ u ≡ h₀ u
  varied-agree u h = meaning-kept varied-kept n more u h

  cell_other : (j : ℕ) → j < frame_cells * r.depth + frame_cells → j ≢ frame_cells * r.depth + a → cell_at m₂ (cell_place j) ≡ cell_at m (cell_place j)
  cell_other j g z = ⊎_elim
      (λ e. absurd (z e))
      (λ h. ⊎_elim
      (λ h. ap₂ cell_read_as (word_same (2 * j) (λ x y. omega (arith, ready.deep)) (λ x y. omega arith)) (word_same (2 * j + 1) (λ x y. omega (arith, ready.deep)) (λ x y. omega arith)))
      (λ h. ap₂ cell_read_as (word_same (2 * j) (λ x y. omega (arith, ready.deep)) (λ x y. omega arith)) (word_same (2 * j + 1) (λ x y. omega (arith, ready.deep)) (λ x y. omega arith)))
      h)
      (three j (frame_cells * r.depth + a))

  frame-set : store (frame_at h₀ m r.depth) (slot a) (h₂ v) ≡ frame_at h₂ m₂ r.depth
  frame-set = cells-set m m₂ r.nodes h₀ h₂ varied-agree v (frame_place r.depth) frame_cells a l p.cell
      (λ j g z. subst (λ (x : ℕ). cell_at m₂ x ≡ cell_at m x) {x = cell_place (frame_cells * r.depth + j)} {y = variable_place r.depth j} (omega arith)
      (cell_other (frame_cells * r.depth + j) (omega arith) (omega arith)))
      (λ j g. subst (λ (x : ℕ). Within r.nodes (cell_at m x)) {x = cell_place (frame_cells * r.depth + j)} {y = variable_place r.depth j} (omega arith)
      (ready.framed (frame_cells * r.depth + j) (omega arith)))

  pub varied-is : machine (suc r.pc) r.flag (temps h₀ m r.base (t - r.base)) (store (frame_at h₀ m r.depth) (slot a) (h₂ v)) (callers h₀ m r.depth r.base)
      (32 - r.depth) ≡ machine_at m₂ varied
  varied-is = λ i. machine (pc-is i) r.flag (ts i) (frame-set i) (cs i) (32 - r.depth)
    where
      pc-is : suc r.pc ≡ r.pc + 1
      pc-is = omega arith

      ts : temps h₀ m r.base (t - r.base) ≡ temps h₂ m₂ r.base (t - r.base)
      ts = temps-stay m m₂ r r.depth r.top n varied-same ready (omega arith) more h₀ h₂ varied-agree t low small

      cs : callers h₀ m r.depth r.base ≡ callers h₂ m₂ r.depth r.base
      cs = callers-stay m m₂ r r.depth r.top n varied-same ready (omega arith) more h₀ h₂ varied-agree (omega arith) ready.low

  pub varied-ready : Ready m₂ varied
  varied-ready = record {
    deep = ready.deep;
    low = low;
    tops = room-same len (room-less t small ready.tops);
    few = room-same len n_room;
    stack = stacked-same varied-same r.depth r.base (omega arith) ready.stack;
    framed = λ i g. ⊎_elim
        (λ e. subst (λ (j : ℕ). Within n (cell_at m₂ j)) {x = variable_place r.depth a} {y = cell_place i} (omega arith) (subst (Within n) (sym p.cell) w))
        (λ z. subst (Within n) (sym (cell_other i g z)) (within_more r.nodes n more (cell_at m (cell_place i)) (ready.framed i g)))
        (is-or-not i (frame_cells * r.depth + a));
    held = λ i g. held_stays m m₂ r r.depth r.top n varied-same ready (omega arith) more i (omega arith);
  }

  -- no node was made
  pub varied-goes : {A : Type 0} (how : _ → A) (e : A) → n ≡ r.nodes
      → e ≡ how (machine (suc r.pc) r.flag (temps h₀ m r.base (t - r.base)) (store (frame_at h₀ m r.depth) (slot a) (h₂ v)) (callers h₀ m r.depth r.base) (32 - r.depth))
      → Goes how 0 e m r.nodes m₂ varied
  varied-goes how e q u = record { is = u ∙ ap how varied-is; ready = varied-ready; kept = varied-kept; more = more; grows = omega arith; formed = λ j x y. absurd (omega arith) }

other_none : (m : List ℕ) (i j : ℕ) → Other m m i j
other_none m i j = record { outside = λ k l. refl }

module _ (c : Code) (m m₂ : List ℕ) (r : Run) (a : ℕ) (v : Value) (t : ℕ) (ready : Ready m r) (l : a < 16) (len : length m₂ ≡ length m)
    (b : Taking c m r r.pc v t) (p : Put m m₂ (variable_place r.depth a) (cell_of v)) where
  pub stored : Goes Doing.silent 0 (acts c m r (Act.store (slot a))) m r.nodes m₂
      (record { pc = r.pc + 1; flag = r.flag; base = r.base; top = t; depth = r.depth; nodes = r.nodes })
  stored = varied-goes m m m₂ r t r.nodes a (cell_of v) ready b.low b.high (omega arith) ready.few len l (other_none m _ _) p b.within Doing.silent _ refl
      (ap (λ u. Doing.silent (machine (suc r.pc) r.flag u.rest (store (frame_at (meaning (nodes_in m r.nodes)) m r.depth) (slot a) u.value)
      (callers (meaning (nodes_in m r.nodes)) m r.depth r.base) (32 - r.depth))) (b.is (meaning (nodes_in m r.nodes)) (reads (nodes_in m r.nodes)))
      ∙ ap (λ x. Doing.silent (machine (suc r.pc) r.flag (temps (meaning (nodes_in m r.nodes)) m r.base (t - r.base))
      (store (frame_at (meaning (nodes_in m r.nodes)) m r.depth) (slot a) x) (callers (meaning (nodes_in m r.nodes)) m r.depth r.base) (32 - r.depth)))
      (sym (meaning-kept kept r.nodes (omega arith) (cell_of v) b.within)))
    where
      kept : Kept m m₂ r.nodes
      kept = kept_low r.nodes p.other (omega (arith, ready.deep))

last-unknown : (m : List ℕ) (n k : ℕ) → node_at m n ≡ unknown k → meaning (nodes_in m (n + 1)) (nodes.Open n) ≡ search.unknown k
unfolding nodes_in
last-unknown m n k e =
    ap (λ (j : ℕ). meaning (nodes_in m j) (nodes.Open n)) {x = n + 1} {y = suc n} (omega arith)
    ∙ ap₂ (λ (j : ℕ) x. meaning (nodes_in m n ++ x ∷ []) (nodes.Open j)) (sym (nodes-length m n)) e ∙ adding-ok (nodes_in m n) (unknown k)

pub asked : (m m₁ m₂ : List ℕ) (r : Run) (a k : ℕ) → Ready m r → a < 16 → Room m (r.nodes + 1) → length m₂ ≡ length m → Noded m m₁ r.nodes (unknown k)
    → Put m₁ m₂ (variable_place r.depth a) (nodes.Open r.nodes)
    → Asked (storing m r a) m r.nodes m₂ k (record { pc = r.pc + 1; flag = r.flag; base = r.base; top = r.top; depth = r.depth; nodes = r.nodes + 1 })
asked m m₁ m₂ r a k ready l room len q p = record {
  is = ap (storing m r a) (sym is-unknown) ∙ varied-is m m₁ m₂ r r.top (r.nodes + 1) a (nodes.Open r.nodes) ready ready.low (omega arith) (omega arith) room len l q.other p (omega arith);
  ready = varied-ready m m₁ m₂ r r.top (r.nodes + 1) a (nodes.Open r.nodes) ready ready.low (omega arith) (omega arith) room len l q.other p (omega arith);
  kept = varied-kept m m₁ m₂ r r.top (r.nodes + 1) a (nodes.Open r.nodes) ready ready.low (omega arith) (omega arith) room len l q.other p (omega arith);
  one = refl;
  node = node-is;
}
  where
    node-is : node_at m₂ r.nodes ≡ unknown k
    node-is = rw (
      p.other.outside (node_place r.nodes) (λ x y. omega (arith, ready.deep)),
      p.other.outside (node_left r.nodes) (λ x y. omega (arith, ready.deep)),
      p.other.outside (node_right r.nodes) (λ x y. omega (arith, ready.deep)),
    ) q.node

    is-unknown : meaning (nodes_in m₂ (r.nodes + 1)) (nodes.Open r.nodes) ≡ search.unknown k
    is-unknown = last-unknown m₂ r.nodes k node-is

-- ---- a return

module _ (c : Code) (m m₂ : List ℕ) (pc : ℕ) (flag : Bool) (base top d nds : ℕ) (v : Value) (t : ℕ) where
  abbrev inner : Run
  inner = record { pc = pc; flag = flag; base = base; top = top; depth = suc d; nodes = nds }

  module _ (ready : Ready m inner) (room : Room m (base + 1)) (len : length m₂ ≡ length m) (b : Taking c m inner pc v t) (p : Put m m₂ (temp_place base) (cell_of v)) where
    abbrev base₂ : ℕ
    base₂ = get_or m (caller_base d) 0

    abbrev g₀ : Cell → Sym
    g₀ = meaning (nodes_in m nds)

    abbrev g₂ : Cell → Sym
    g₂ = meaning (nodes_in m₂ nds)

    base-le : base₂ ≤ base
    base-le = ready.stack.0

    same_left : Same m m₂ (d + 1) d base nds
    same_left = record {
      d-fits = omega (arith, ready.deep);
      c-fits = omega (arith, ready.deep);
      frames = λ k l. p.other.outside k (λ x y. omega (arith, ready.deep));
      saved = λ k g l. p.other.outside k (λ x y. omega (arith, ready.deep));
      held = λ k j h g l. p.other.outside k (λ x y. omega arith);
    }

    kept-left : Kept m m₂ nds
    kept-left = kept-temp base nds p

    agree_left : (u : Cell) → Within nds u → g₂ u ≡ g₀ u
    agree_left u h = meaning-kept kept-left nds (omega arith) u h

    held-left : (i : ℕ) → i < base → Within nds (cell_at m (temp_place i))
    held-left i l = ready.held i (omega (arith, ready.low))

    temps-left : g₀ (cell_of v) ∷ temps g₀ m base₂ (base - base₂) ≡ temps g₂ m₂ base₂ (base + 1 - base₂)
    unfolding temps
    temps-left =
        ap₂ (λ s l. s ∷ l)
        (sym (agree_left (cell_of v) b.within) ∙ ap g₂ (sym p.cell) ∙ ap (λ i. g₂ (cell_at m₂ (temp_place i))) {x = base} {y = base₂ + (base - base₂)} (omega (arith, base-le)))
        (temps-same same_left g₀ g₂ agree_left base₂ (base - base₂) (omega (arith, base-le)) held-left)
        ∙ ap (temps g₂ m₂ base₂) {x = suc (base - base₂)} {y = base + 1 - base₂} (omega (arith, base-le))

    frame-left : frame_at g₀ m d ≡ frame_at g₂ m₂ d
    frame-left = frame_same same_left g₀ g₂ agree_left d (omega arith) (λ j l. ready.framed j (omega arith))

    callers-left : callers g₀ m d base₂ ≡ callers g₂ m₂ d base₂
    callers-left = callers-same same_left g₀ g₂ agree_left d base₂ (omega arith) (omega arith) base-le ready.stack.1 (λ j l. ready.framed j (omega arith)) held-left

    left : Goes Doing.silent 0 (acts c m inner Act.return) m nds m₂ (record { pc = get_or m (caller_place d) 0; flag = flag; base = base₂; top = base + 1; depth = d; nodes = nds })
    unfolding callers
    left = record {
      is = ap (λ u. Doing.silent (machine (get_or m (caller_place d) 0) flag (u.value ∷ temps g₀ m base₂ (base - base₂)) (frame_at g₀ m d) (callers g₀ m d base₂) (suc (32 - suc d))))
          (b.is g₀ (reads (nodes_in m nds)))
          ∙ (λ i. Doing.silent (machine (get_or m (caller_place d) 0) flag (temps-left i) (frame-left i) (callers-left i) (left_is i)));
      ready = record {
        deep = omega (arith, ready.deep);
        low = omega (arith, base-le);
        tops = room-same len room;
        few = room-same len ready.few;
        stack = stacked-same same_left d base₂ (omega arith) ready.stack.1;
        framed = λ i l. subst (Within nds) (sym (frame-cell same_left (cell_place i) (omega arith))) (ready.framed i (omega arith));
        held = λ i l. ⊎_elim (λ e. subst (Within nds) (sym p.cell ∙ ap (λ i. cell_at m₂ (temp_place i)) (sym e)) b.within)
            (λ l. subst (Within nds) (sym (temp-cell same_left i l)) (held-left i l))
            (eq-or-lt_of_le {n = i} {m = base} (omega arith));
      };
      kept = kept-left;
      more = omega arith;
      grows = omega arith;
      formed = λ j x y. absurd (omega arith);
    }
      where
        left_is : suc (32 - suc d) ≡ 32 - d
        left_is = omega (arith, ready.deep)

left-deep : (c : Code) (m m₂ : List ℕ) (pc : ℕ) (flag : Bool) (base top depth nds : ℕ) (v : Value) (t : ℕ) → 1 ≤ depth
    → Ready m (record { pc = pc; flag = flag; base = base; top = top; depth = depth; nodes = nds }) → Room m (base + 1) → length m₂ ≡ length m
    → Taking c m (record { pc = pc; flag = flag; base = base; top = top; depth = depth; nodes = nds }) pc v t → Put m m₂ (temp_place base) (cell_of v)
    → Goes Doing.silent 0 (acts c m (record { pc = pc; flag = flag; base = base; top = top; depth = depth; nodes = nds }) Act.return) m nds m₂
    (record { pc = get_or m (caller_place (depth - 1)) 0; flag = flag; base = get_or m (caller_base (depth - 1)) 0; top = base + 1; depth = depth - 1; nodes = nds })
left-deep c m m₂ pc flag base top zero nds v t h ready room len b p = absurd (omega arith)
left-deep c m m₂ pc flag base top (suc d) nds v t h ready room len b p =
    subst (λ (k : ℕ). Goes Doing.silent 0 (acts c m (record { pc = pc; flag = flag; base = base; top = top; depth = suc d; nodes = nds }) Act.return) m nds m₂
    (record { pc = get_or m (caller_place k) 0; flag = flag; base = get_or m (caller_base k) 0; top = base + 1; depth = k; nodes = nds })) {x = d} {y = suc d - 1} (omega arith)
    (left c m m₂ pc flag base top d nds v t ready room len b p)

pub left-from : (c : Code) (m m₂ : List ℕ) (r : Run) (v : Value) (t : ℕ) → 1 ≤ r.depth → Ready m r → Room m (r.base + 1) → length m₂ ≡ length m
    → Taking c m r r.pc v t → Put m m₂ (temp_place r.base) (cell_of v)
    → Goes Doing.silent 0 (acts c m r Act.return) m r.nodes m₂
    (record { pc = get_or m (caller_place (r.depth - 1)) 0; flag = r.flag; base = get_or m (caller_base (r.depth - 1)) 0; top = r.base + 1; depth = r.depth - 1; nodes = r.nodes })
left-from c m m₂ r v t h ready room len b p = left-deep c m m₂ r.pc r.flag r.base r.top r.depth r.nodes v t h ready room len b p
