-- Operations, comparisons and assignments: each is a turn.
use mathlib.Core.Path.{◌≡◌, refl, sym, ap, ap₂, ◌∙◌, subst}
use mathlib.Core.Bool.{Bool}
use mathlib.Core.List.{List}
use Prim.Native.Nat.{ℕ, zero, suc, ◌+◌, ◌-◌, ◌%◌, ◌≤◌, ◌<◌}
use native.Mathlib.Omega.{arith}
use lib.IntN.{ℤ}
use lib.ListN.{length, get_or}
use mir.Syntax.{w32}
use mir.Val.{to_z, of_z, SFits}
use mir.Facts.{to_z-of_z, sfits_to_z}
use Rattle.semantics.specs.Int as int
use Rattle.semantics.specs.Search as search
use Rattle.semantics.specs.Search.{known}
use Rattle.simulation.specs.Code.{Code, Entry, Act, act}
use Rattle.simulation.specs.Machine.{reading}
use Rattle.code.specs.Meaning.{as_entry}
use Rattle.code.specs.declared.Address.{Address}
use Rattle.code.specs.declared.Entry.TheVariants as code
use Rattle.ints.specs.Meaning.{of_operation, of_comparison}
use Rattle.ints.specs.declared.Operation.{Operation}
use Rattle.ints.specs.declared.Comparison.{Comparison}
use Rattle.machine.specs.Layout.{variable_place, temp_place}
use Rattle.machine.specs.Memory.{cell_read_as, cell_at, temps, frame_at}
use Rattle.machine.specs.Terms.{Put, Popped, Taking, Paired, Tested}
use Rattle.machine.specs.declared.Value.{Value}
use Rattle.machine.specs.declared.Value.TheVariants.{Known}
use Rattle.machine.specs.declared.Run.{Run}
use Rattle.machine.proofs.Operands.{worked-both, popped-one}
use Rattle.machine.proofs.Tables.{room-less}
use Rattle.machine.proofs.Moves.{operated, stored}
use Rattle.machine.proofs.Entries.{goes-from, adv-op, adv-cmp, adv-store}
use Rattle.paths.specs.declared.Point.{Point}
use Rattle.paths.specs.Point.{Going, running}
use Rattle.paths.specs.Turn.{spending}
use Rattle.known_steps.specs.Cells.{value_as}
use Rattle.known_steps.specs.Turns.{Made, Result}
use Rattle.known_steps.proofs.Cells.{cell_as, sized-as}
use Rattle.known_steps.proofs.Making.{silent-made, step-made, test-made}

-- ---- operations and comparisons of words are those of the numbers they stand for

pub operate-so : (o : Operation) (w x y : ℕ) (z a b : ℤ) → SFits w32 z → SFits w32 a → SFits w32 b → w ≡ of_z w32 (to_z w32 (of_z w32 z))
    → z ≡ int.arith (of_operation o) (to_z w32 (of_z w32 a)) (to_z w32 (of_z w32 b)) → a ≡ to_z w32 x → b ≡ to_z w32 y → to_z w32 w ≡ int.arith (of_operation o) (to_z w32 x) (to_z w32 y)
operate-so o w x y z a b f g h p q u v = ap (to_z w32) (p ∙ ap (of_z w32) (to_z-of_z f)) ∙ to_z-of_z f ∙ q ∙ ap₂ (int.arith (of_operation o)) (to_z-of_z g ∙ u) (to_z-of_z h ∙ v)

pub holds-so : (c : Comparison) (x y : ℕ) (r : Bool) (a b : ℤ) → SFits w32 a → SFits w32 b → r ≡ int.holds (of_comparison c) (to_z w32 (of_z w32 a)) (to_z w32 (of_z w32 b)) → a ≡ to_z w32 x → b ≡ to_z w32 y
    → r ≡ int.holds (of_comparison c) (to_z w32 x) (to_z w32 y)
holds-so c x y r a b g h q u v = q ∙ ap₂ (int.holds (of_comparison c)) (to_z-of_z g ∙ u) (to_z-of_z h ∙ v)

-- ---- the entry at the point

-- what is popped where the entry before j is an operation or a control entry
taking-act : (c : Code) (m : List ℕ) (r : Run) (j : ℕ) (a : Act) → 0 < j → get_or c.entries (j - 1) (act Act.fail) ≡ act a → (v : Value) (top : ℕ) → Popped m r v top → Taking c m r j v top
taking-act c m r zero a h e v top p = absurd (omega arith)
taking-act c m r (suc j) a h e v top p = record {
  is = λ f g. ap (reading known search.work c (frame_at f m r.depth) (temps f m r.base (r.top - r.base))) (ap (λ (i : ℕ). get_or c.entries i (act Act.fail)) {x = j} {y = suc j - 1} (omega arith) ∙ e) ∙ p.is f g;
  low = p.low;
  high = p.high;
  sized = p.sized;
  within = p.within;
}

module _ (c : Code) (m : List ℕ) (p : Point) (g : Going m p) where
  abbrev here : Entry
  here = get_or c.entries p.run.pc (act Act.fail)

  abbrev next : Bool → ℕ → Run
  next b top = record { pc = p.run.pc + 1; flag = b; base = p.run.base; top = top; depth = p.run.depth; nodes = p.run.nodes }

  module _ (l : 1 ≤ p.steps) (d x y t : ℕ) (pair : Paired c m p.run d (Known (to_z w32 x)) (Known (to_z w32 y)) t) where
    pub op-made : (o : Operation) → as_entry (code.Operate o d) ≡ here → (v : ℕ) → v < 4294967296 → to_z w32 v ≡ int.arith (of_operation o) (to_z w32 x) (to_z w32 y) → (m' : List ℕ) → length m' ≡ length m
        → Put m m' (temp_place t) (cell_read_as 0 v) → Made c m m' p (spending p (next p.run.flag (t + 1)))
    op-made o q v f e m' len put = step-made c m p g l m' (next p.run.flag (t + 1)) len
        (goes-from (adv-op c m p.run (code.Operate o d) q o d refl)
        (operated c m m m' p.run (of_operation o) d (Known (to_z w32 x)) (Known (to_z w32 y)) (Known (to_z w32 v)) t p.run.nodes g.ready
        (room-less (p.run.top + 1) (omega arith) g.tops) (room-less (p.run.nodes + 1) (omega arith) g.nodes) len pair
        (worked-both m p.run.nodes (of_operation o) (Known (to_z w32 x)) (Known (to_z w32 y)) (to_z w32 x) (to_z w32 y) (to_z w32 v) (sfits_to_z {w = w32} {n = v} (record { fits = f })) refl refl e) put))
        refl

    pub cmp-made : (cmp : Comparison) → as_entry (code.Compare cmp d) ≡ here → (o : Bool) → o ≡ int.holds (of_comparison cmp) (to_z w32 x) (to_z w32 y) → Made c m m p (spending p (next o t))
    cmp-made cmp q o e =
        let asked : Tested _ m p.run.nodes m cmp (Known (to_z w32 x)) (Known (to_z w32 y)) (next p.run.flag t)
        = adv-cmp c m p.run (code.Compare cmp d) q cmp d refl (Known (to_z w32 x)) (Known (to_z w32 y)) t g.ready pair in
        subst (λ (o : Bool). Made c m m p (spending p (next o t))) (sym e) (test-made c m p g l cmp (to_z w32 x) (to_z w32 y) (next p.run.flag t) asked)

  module _ (a : Address) (q : as_entry (code.Store a) ≡ here) where
    pub store-made : (k x t : ℕ) → Taking c m p.run p.run.pc (value_as k x) t → (m' : List ℕ) → length m' ≡ length m → Put m m' (variable_place p.run.depth (a.0 % 16)) (cell_read_as k x)
        → Made c m m' p (running p (next p.run.flag t))
    store-made k x t taken m' len put = silent-made c m p g m' (next p.run.flag t) len
        (goes-from (adv-store c m p.run (code.Store a) q a refl)
        (stored c m m' p.run (a.0 % 16) (value_as k x) t g.ready (omega arith) len taken (subst (Put m m' (variable_place p.run.depth (a.0 % 16))) (sym (cell_as k x)) put)))

    -- the assignment behind an operation, whose value is the newest temporary
    pub result-made : (v : ℕ) → v < 4294967296 → Result c m p v → (m' : List ℕ) → length m' ≡ length m → Put m m' (variable_place p.run.depth (a.0 % 16)) (cell_read_as 0 v)
        → Made c m m' p (running p (next p.run.flag (p.run.top - 1)))
    result-made v f r m' len put = store-made 0 v (p.run.top - 1)
        (taking-act c m p.run p.run.pc (Act.operate r.operation r.over) r.behind r.before (value_as 0 v) (p.run.top - 1)
        (popped-one m p.run (value_as 0 v) g.ready (λ q. omega (arith, r.some)) (record { is = sym r.cell; sized = sized-as 0 v f }))) m' len put

-- an operation, and what it leaves for the assignment behind it
module _ (c : Code) (m : List ℕ) (p : Point) (g : Going m p) (o : Operation) (d : ℕ) (q : as_entry (code.Operate o d) ≡ get_or c.entries p.run.pc (act Act.fail))
    (l : 1 ≤ p.steps) (x y t : ℕ) (pair : Paired c m p.run d (Known (to_z w32 x)) (Known (to_z w32 y)) t)
    (v : ℕ) (f : v < 4294967296) (e : to_z w32 v ≡ int.arith (of_operation o) (to_z w32 x) (to_z w32 y)) (m' : List ℕ) (len : length m' ≡ length m) (put : Put m m' (temp_place t) (cell_read_as 0 v)) where
  abbrev after : Point
  after = spending p (record { pc = p.run.pc + 1; flag = p.run.flag; base = p.run.base; top = t + 1; depth = p.run.depth; nodes = p.run.nodes })

  left : Result c m' after v
  left = record {
    some = omega (arith, pair.low);
    behind = omega arith;
    operation = of_operation o;
    over = d;
    before = ap (λ (i : ℕ). get_or c.entries i (act Act.fail)) {x = p.run.pc + 1 - 1} {y = p.run.pc} (omega arith) ∙ sym q;
    cell = subst (λ (i : ℕ). cell_at m' (temp_place i) ≡ cell_read_as 0 v) {x = t} {y = t + 1 - 1} (omega arith) put.cell;
  }

  pub op-left : (n : Point) → n ≡ after → Made c m m' p n × Result c m' n v
  op-left n z = subst (λ (n : Point). Made c m m' p n × Result c m' n v) (sym z) (op-made c m p g l d x y t pair o q v f e m' len put, left)
