-- A comparison in the memory: decided by the two ranges, or a choice.
use mathlib.Core.Path.{◌≡◌, refl, sym, ap, ap₂, ◌∙◌, subst}
use mathlib.Core.Bool.{Bool}
use mathlib.Core.Option.{Option, none, some}
use mathlib.Core.List.{List}
use Prim.Native.Nat.{ℕ}
use native.Mathlib.Omega.{arith}
use lib.ListN.{length}
use Rattle.semantics.specs.Int.{Cmp}
use Rattle.semantics.specs.Program.{Window}
use Rattle.semantics.specs.Search.{Value, range, decided, narrowed, in_use}
use Rattle.simulation.specs.Machine.{Machine}
use Rattle.simulation.specs.Path.{State, Went, on, outcome, holding, chose, choosing, comparing}
use Rattle.std.specs.Prelude.{Option as Answer}
use Rattle.simulation.specs.Nodes.{range_in}
use Rattle.intervals.specs.declared.Window as win
use Rattle.intervals.specs.Meaning.{of_window}
use Rattle.ranges.specs.Meaning.{of_decided}
use Rattle.machine.specs.Memory.{machine_at, windows_in, ranges_in}
use Rattle.machine.specs.Terms.{cell_of, meant, Ready, flagged}
use Rattle.machine.specs.declared.Value as code
use Rattle.paths.specs.declared.Point.{Point}
use Rattle.paths.specs.Point.{state_at, Standing, chosen, Chose, flagging, Compared}
use Rattle.paths.proofs.Narrowing.{range-is}
use Rattle.paths.proofs.Machinery.{machine-stays, ready-stays, ready-flagged}
use Rattle.paths.proofs.Stays.{stays-none}

-- what deciding by two ranges has said
pub said : (c : Cmp) (d u : Answer Bool) (a b : win.Window) (v w : Window) → d ≡ u → of_decided d ≡ decided c (of_window a) (of_window b) → of_window a ≡ v → of_window b ≡ w → of_decided u ≡ decided c v w
said c d u a b v w e f g h = ap of_decided (sym e) ∙ f ∙ ap₂ (decided c) g h

-- what is compared, once the ranges have said what they can
compared-some : (job : Window) (c : Cmp) (x y : Value) (k : Bool → Machine Value) (s : State) (o : Bool) → decided c (range s.windows x) (range s.windows y) ≡ some o
    → comparing in_use job c x y k s ≡ on (k o) s
unfolding comparing
compared-some job c x y k s o e = ap (λ (z : Option Bool). elim z as (λ z. Went) [ some o ↦ on (k o) s | none ↦ choosing in_use job c x y k s (outcome s.forced) ]) e

compared-none : (job : Window) (c : Cmp) (x y : Value) (k : Bool → Machine Value) (s : State) (o : Bool) → decided c (range s.windows x) (range s.windows y) ≡ none → o ≡ outcome s.forced
    → comparing in_use job c x y k s ≡ on (k o) (chose c x y o (narrowed (holding o c) x y s.windows) s)
unfolding comparing choosing
compared-none job c x y k s o e q =
    ap (λ (z : Option Bool). elim z as (λ z. Went) [ some o ↦ on (k o) s | none ↦ choosing in_use job c x y k s (outcome s.forced) ]) e
    ∙ ap (λ (o : Bool). on (k o) (chose c x y o (narrowed (holding o c) x y s.windows) s)) (sym q)

module _ (m : List ℕ) (p : Point) (c : Cmp) (v w : code.Value) (h : Standing m p) (r : Ready m p.run) where
  abbrev n : ℕ
  n = p.run.nodes

  by-ranges : (z : Option Bool) → z ≡ decided c (range_in (ranges_in m n) (cell_of v)) (range_in (ranges_in m n) (cell_of w))
      → decided c (range (windows_in m p.windows) (meant m n v)) (range (windows_in m p.windows) (meant m n w)) ≡ z
  by-ranges z e = sym (e ∙ ap₂ (decided c) (range-is m p.windows n h.tables v) (range-is m p.windows n h.tables w))

  pub compared-so : (o : Bool) (q : Point) → some o ≡ decided c (range_in (ranges_in m n) (cell_of v)) (range_in (ranges_in m n) (cell_of w)) → q ≡ flagging p o → Compared m m p c v w q
  compared-so o q e f = subst (Compared m m p c v w) (sym f) (record {
    outcome = o;
    after = state_at m p;
    is = λ job. compared-some job c (meant m n v) (meant m n w) (λ b. machine_at m (flagged p.run b)) (state_at m p) o (by-ranges (some o) e);
    follows = record { run = refl; machine = refl; ready = ready-flagged o r; is = refl; standing = record { tables = h.tables; tested = h.tested }; steps = omega arith; fewer = omega arith };
    older = omega arith;
    stays = stays-none;
  })

  pub chosen-so : (m' : List ℕ) (o : Bool) (q : Point) → length m' ≡ length m → none ≡ decided c (range_in (ranges_in m n) (cell_of v)) (range_in (ranges_in m n) (cell_of w)) → Chose m m' p c v w o → q
      ≡ flagging (chosen p) o → Compared m m' p c v w q
  chosen-so m' o q l e s f = subst (Compared m m' p c v w) (sym f) (record {
    outcome = o;
    after = chose c (meant m n v) (meant m n w) o (narrowed (holding o c) (meant m n v) (meant m n w) (windows_in m p.windows)) (state_at m p);
    is = λ job. compared-none job c (meant m n v) (meant m n w) (λ b. machine_at m (flagged p.run b)) (state_at m p) o (by-ranges none e) s.next;
    follows = record {
      run = refl;
      machine = machine-stays s.machinery (flagged p.run o) r.deep;
      ready = ready-stays s.machinery (flagged p.run o) l (ready-flagged o r);
      is = s.is;
      standing = record { tables = s.standing.tables; tested = s.standing.tested };
      steps = omega arith;
      fewer = omega arith;
    };
    older = omega arith;
    stays = s.stays;
  })
