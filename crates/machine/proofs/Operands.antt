-- Operations on values, and the operands of an entry.
use mathlib.Core.Path.{◌≡◌, refl, sym, ap, ap₂, ◌∙◌, subst}
use mathlib.Core.List.{List, [], ◌∷◌, ◌++◌}
use mathlib.Core.Logic.{◌⊎◌, inl, inr}
use Prim.Native.Nat.{ℕ, zero, suc, ◌+◌, ◌-◌, ◌*◌, ◌%◌, ◌≤◌, ◌<◌}
use native.Mathlib.Nat.{le_trans}
use native.Mathlib.Numerals.{add-one}
use native.Mathlib.Omega.{arith}
use lib.ListN.{length, get_or, get_or-eq_default}
use lib.IntN.{ℤ, pos}
use mir.Syntax.{w32}
use mir.Val.{SFits}
use Rattle.semantics.specs.Int as int
use Rattle.semantics.specs.Int.{Op}
use Rattle.semantics.specs.Search as search
use Rattle.semantics.specs.Search.{known}
use Rattle.simulation.specs.Code.{Code, act, Act}
use Rattle.simulation.specs.Machine.{popped, reading, taken}
use Rattle.simulation.specs.Nodes as nodes
use Rattle.simulation.specs.Nodes.{Node, operation, Within, adding, working}
use Rattle.code.specs.Meaning.{as_entry}
use Rattle.code.specs.declared.Entry as C
use Rattle.code.specs.declared.Entry.TheVariants as code
use Rattle.ints.specs.Numbers as numbers
use Rattle.machine.specs.Kinds.{node_op, left_open, right_open}
use Rattle.machine.specs.Layout.{frame_cells, frame_place, variable_place, cell_place, temp_place, node_place, node_end}
use Rattle.machine.specs.Memory.{Sym, cell_read_as, cell_at, node_as, node_at, nodes_in, cells, temps, frame_at}
use Rattle.code.specs.declared.Address.{Address}
use Rattle.machine.specs.Terms.{nowhere, cell_of, Ready, Holds, Other, Kept, Noded, Worked, Popped, Taking, Paired, topped}
use Rattle.machine.specs.declared.Value.{Value}
use Rattle.machine.specs.declared.Value.TheVariants.{Known, Open}
use Rattle.machine.specs.declared.Run.{Run}
use Rattle.machine.proofs.Tables.{nodes-length, nodes-kept}

-- ---- operations

-- where a node is written after n others, those stay
pub kept-node : (m m' : List ℕ) (n : ℕ) → Other m m' (node_place n) (node_end n) → Kept m m' n
kept-node m m' n o = record {
  fixed = λ k a b. o.outside k (λ p q. omega arith);
  tables = λ k j a b. o.outside k (λ p q. omega arith);
  noded = λ k j h a b. o.outside k (λ p q. omega arith);
}

nodes-one : (m m' : List ℕ) (n : ℕ) (x : Node) → Noded m m' n x → nodes_in m' (n + 1) ≡ nodes_in m n ++ x ∷ []
unfolding nodes_in
nodes-one m m' n x d = ap (nodes_in m') (add-one n) ∙ ap₂ (λ l y. l ++ y ∷ []) (nodes-kept (kept-node m m' n d.other) n (omega arith)) d.node

pub node-op : (op k x y p q : ℕ) → node_op k ≡ suc op → left_open k ≡ p → right_open k ≡ q → node_as k x y ≡ operation (numbers.operation op) (cell_read_as p x) (cell_read_as q y)
node-op op k x y p q a b c = rw (a, b, c)

module _ (m m' : List ℕ) (n : ℕ) (o : Op) (v w : Value) (x : Node) (d : Noded m m' n x) (e : x ≡ operation o (cell_of v) (cell_of w)) (small : n < 4294967296) where
  worked-node : working o (cell_of v) (cell_of w) (nodes_in m n) ≡ adding (operation o (cell_of v) (cell_of w)) (nodes_in m n) → Worked m m' n o v w (Open n) (n + 1)
  worked-node z = record {
    other = d.other;
    nodes = nodes-one m m' n x d ∙ ap (λ y. nodes_in m n ++ y ∷ []) e ∙ ap (λ h. h.nodes) (sym z);
    is = ap nodes.Open (sym (nodes-length m n)) ∙ ap (λ h. h.cell) (sym z);
    more = omega arith;
    one = omega arith;
    node = λ j a b. ap (node_at m') {x = j} {y = n} (omega arith) ∙ d.node ∙ e;
    sized = small;
  }

  pub worked-left : (i : ℕ) → v ≡ Open i → Worked m m' n o v w (Open n) (n + 1)
  unfolding working
  worked-left i u = worked-node (subst (λ (v : Value). working o (cell_of v) (cell_of w) (nodes_in m n) ≡ adding (operation o (cell_of v) (cell_of w)) (nodes_in m n)) (sym u) refl)

  pub worked-right : (z : ℤ) (i : ℕ) → v ≡ Known z → w ≡ Open i → Worked m m' n o v w (Open n) (n + 1)
  unfolding working
  worked-right z i u t = worked-node (subst (λ (v : Value). working o (cell_of v) (cell_of w) (nodes_in m n) ≡ adding (operation o (cell_of v) (cell_of w)) (nodes_in m n)) (sym u)
      (subst (λ (w : Value). working o (nodes.Known z) (cell_of w) (nodes_in m n) ≡ adding (operation o (nodes.Known z) (cell_of w)) (nodes_in m n)) (sym t) refl))

pub worked-both : (m : List ℕ) (n : ℕ) (o : Op) (v w : Value) (x y z : ℤ) → SFits w32 z → v ≡ Known x → w ≡ Known y → z ≡ int.arith o x y → Worked m m n o v w (Known z) n
unfolding working
worked-both m n o v w x y z f a b e = record {
  other = record { outside = λ k l. refl };
  nodes = rw (a, b);
  is = rw (a, b) (ap nodes.Known e);
  more = omega arith;
  one = omega arith;
  node = λ j a b. absurd (omega arith);
  sized = f;
}

-- ---- operands

pub popped-none : (m : List ℕ) (r : Run) → r.top ≡ r.base → Popped m r (Known (pos 0)) r.top
unfolding temps
popped-none m r e = record {
  is = λ f g. ap (λ n. popped known search.work nowhere (temps f m r.base n)) n₀ ∙ ap₂ (λ x n. record { value = x; rest = temps f m r.base n }) (sym (g (pos 0))) (sym n₀);
  low = omega arith;
  high = omega arith;
  sized = record { sfits = omega arith };
  within = tt;
}
  where
    n₀ : r.top - r.base ≡ 0
    n₀ = omega arith

pub popped-one : (m : List ℕ) (r : Run) (v : Value) → Ready m r → (r.top ≡ r.base → ⊥) → Holds m (temp_place (r.top - 1)) v → Popped m r v (r.top - 1)
unfolding temps
popped-one m r v h e q = record {
  is = λ f g. ap (λ n. popped known search.work nowhere (temps f m r.base n)) {x = r.top - r.base} {y = suc (r.top - 1 - r.base)} (omega (arith, h.low))
      ∙ ap (λ x. record { value = f x; rest = temps f m r.base (r.top - 1 - r.base) })
      (ap (λ i. cell_at m (temp_place i)) {x = r.base + (r.top - 1 - r.base)} {y = r.top - 1} (omega (arith, h.low)) ∙ sym q.is);
  low = omega (arith, h.low);
  high = omega arith;
  sized = q.sized;
  within = subst (Within r.nodes) (sym q.is) (h.held (r.top - 1) (omega (arith, h.low)));
}

cells_at : {X : Type 0} (f : nodes.Cell → X) (m : List ℕ) (i n w : ℕ) (d : X) → w < n → get_or (cells f m i n) w d ≡ f (cell_at m (i + 2 * w))
unfolding cells
cells_at f m i zero w d h = absurd (omega arith)
cells_at f m i (suc n) zero d h = ap (λ i. f (cell_at m i)) (omega arith)
cells_at f m i (suc n) (suc w) d h = cells_at f m (i + 2) n w d (omega arith) ∙ ap (λ i. f (cell_at m i)) (omega arith)

module _ (c : Code) where
  taken_out : (f ts : List Sym) (j : ℕ) → (j ≡ 0) ⊎ (length c.entries < j) → taken known search.work c f ts j ≡ popped known search.work nowhere ts
  taken_out f ts zero h = refl
  taken_out f ts (suc r) (inl e) = absurd (omega arith)
  taken_out f ts (suc r) (inr l) = ap (reading known search.work c f ts) (get_or-eq_default c.entries (act Act.fail) {n = r} (omega arith))

  taken-entry : (f ts : List Sym) (j : ℕ) → (j ≡ 0 → ⊥) → taken known search.work c f ts j ≡ reading known search.work c f ts (get_or c.entries (j - 1) (act Act.fail))
  taken-entry f ts zero h = absurd (h refl)
  taken-entry f ts (suc r) h = ap (λ i. reading known search.work c f ts (get_or c.entries i (act Act.fail))) {x = r} {y = suc r - 1} (omega arith)

  module _ (m : List ℕ) (r : Run) (j : ℕ) where
    -- a temporary
    taking-pop : (v : Value) (top : ℕ) → Popped m r v top → ((f ts : List Sym) → taken known search.work c f ts j ≡ popped known search.work nowhere ts) → Taking c m r j v top
    taking-pop v top p e = record { is = λ f g. e (frame_at f m r.depth) (temps f m r.base (r.top - r.base)) ∙ p.is f g; low = p.low; high = p.high; sized = p.sized; within = p.within }

    pub taking-out : (v : Value) (top : ℕ) → (j ≡ 0) ⊎ (length c.entries < j) → Popped m r v top → Taking c m r j v top
    taking-out v top h p = taking-pop v top p (λ f ts. taken_out f ts j h)

    module _ (x : C.Entry) (h : j ≡ 0 → ⊥) (q : as_entry x ≡ get_or c.entries (j - 1) (act Act.fail)) where
      entry : (f ts : List Sym) → taken known search.work c f ts j ≡ reading known search.work c f ts (as_entry x)
      entry f ts = taken-entry f ts j h ∙ ap (reading known search.work c f ts) (sym q)

      pub taking-other : (v : Value) (top : ℕ) → ((f ts : List Sym) → reading known search.work c f ts (as_entry x) ≡ popped known search.work nowhere ts) → Popped m r v top → Taking c m r j v top
      taking-other v top a p = taking-pop v top p (λ f ts. entry f ts ∙ a f ts)

      pub taking-number : (z : ℤ) → SFits w32 z → x ≡ code.Number z → r.base ≤ r.top → Taking c m r j (Known z) r.top
      taking-number z s b g = record {
        is = λ f u. entry _ _ ∙ ap (λ x. reading known search.work c (frame_at f m r.depth) (temps f m r.base (r.top - r.base)) (as_entry x)) b
            ∙ ap (λ x. record { value = x; rest = temps f m r.base (r.top - r.base) }) (sym (u z));
        low = g;
        high = omega arith;
        sized = s;
        within = tt;
      }

      pub taking-name : (v : Value) (a : Address) → Ready m r → Holds m (variable_place r.depth (a.0 % frame_cells)) v → x ≡ code.Name a → Taking c m r j v r.top
      taking-name v b y a e = record {
        is = λ f u. entry _ _ ∙ ap (λ x. reading known search.work c (frame_at f m r.depth) (temps f m r.base (r.top - r.base)) (as_entry x)) e
            ∙ ap (λ x. record { value = x; rest = temps f m r.base (r.top - r.base) })
            (cells_at f m (frame_place r.depth) frame_cells (b.0 % frame_cells) (known (pos 0)) (omega arith) ∙ ap f (sym a.is));
        low = y.low;
        high = omega arith;
        sized = a.sized;
        within = subst (Within r.nodes) (ap (cell_at m) {x = cell_place (frame_cells * r.depth + b.0 % frame_cells)} {y = variable_place r.depth (b.0 % frame_cells)} (omega arith) ∙ sym a.is)
            (y.framed (frame_cells * r.depth + b.0 % frame_cells) (omega arith));
      }

  pub paired : (m : List ℕ) (r : Run) (d : ℕ) (x y : Value) (tx ty : ℕ) → Taking c m r r.pc y ty → Taking c m (topped r ty) (r.pc - d) x tx → Paired c m r d x y tx
  paired m r d x y tx ty b a = record {
    is = λ f u. ap (λ t. let z = taken known search.work c (frame_at f m r.depth) t.rest (r.pc - d) in record { first = z.value; second = t.value; rest = z.rest }) (b.is f u)
        ∙ ap (λ z. record { first = z.value; second = f (cell_of y); rest = z.rest }) (a.is f u);
    low = a.low;
    high = le_trans a.high b.high;
    left-sized = a.sized;
    left = a.within;
    right-sized = b.sized;
    right = b.within;
  }
