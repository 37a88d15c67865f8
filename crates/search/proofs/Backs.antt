-- After a path: the newest choice is taken back, or the search is over.
use Rattle.std.specs.Prelude.{Option as Maybe, Some, None, Result, Ok, Err}
use Prim.Native.Nat.{ℕ}
use native.Mathlib.Omega.{arith}
use mathlib.Core.Path.{◌≡◌, refl, sym, ap, ap₂, ◌∙◌, subst}
use mathlib.Core.Bool.{Bool}
use mathlib.Core.List.{List}
use mathlib.Core.Option.{Option, none, some}
use lib.IntN.{ℤ}
use Rattle.semantics.specs.Search.{settings}
use Rattle.simulation.specs.Path.{returned, failed, cut}
use Rattle.simulation.specs.Lister as lister
use Rattle.simulation.specs.Lister.{go, over, then, closed, closing, charge, next, Start, back, finish, trials, probes}
use Rattle.machine.specs.Memory.{outcomes_in, windows_in}
use Rattle.machine.specs.Terms.{meant}
use Rattle.machine.specs.declared.Value.{Value}
use Rattle.settings.specs.declared.Tally.{Tally}
use Rattle.settings.specs.declared.Stopped.{Stopped}
use Rattle.settings.specs.declared.Stopped.TheVariants.{Full, Spent}
use Rattle.settings.specs.Table.{Steady}
use Rattle.settings.specs.Tries.{tally_of, tally_in, next_of, tests, Counts, Counted, Charged, Placing, Rowed}
use Rattle.settings.proofs.Counting.{rowed-none}
use Rattle.settings.proofs.Going.{counts-more}
use Rattle.paths.specs.declared.Point.{Point}
use Rattle.search.specs.Loop.{NewestBack, Flips, FlipsBy, forced_in, close_of, closes, stopping, then_of, written_in, Adds, Onward, Leaves, Backed, BacktracksBy, Finished}
use Rattle.search.specs.declared.Ending.{Ending}
use Rattle.search.specs.declared.Answered.{Answered}
use Rattle.search.proofs.Outcomes.{at, kept}

abbrev starting : List Bool → lister.Tally → lister.Next Start
starting q u = go (record { forced = q; tally = u })

back_none : (h : List Bool) (t : lister.Tally) → none ≡ next h → over (closed (closing t.cut) t) ≡ back h t
unfolding back
back_none h t e = ap (λ (x : Option (List Bool)). elim x as (λ x. lister.Next Start) [ none ↦ over (closed (closing t.cut) t) | some q ↦ then (charge t) (starting q) ]) e

back_some : (h q : List Bool) (t : lister.Tally) → some q ≡ next h → then (charge t) (starting q) ≡ back h t
unfolding back
back_some h q t e = ap (λ (x : Option (List Bool)). elim x as (λ x. lister.Next Start) [ none ↦ over (closed (closing t.cut) t) | some q ↦ then (charge t) (starting q) ]) e

-- all that was written is written
adds_none : (t : Tally) → Adds t t.written
adds_none t = record { more = omega arith; most = omega arith }

adds-of : {t u : Tally} → Counts t u → Adds t u.written
adds-of c = record { more = c.more; most = omega (arith, c.places) }

-- ---- the choice taken back

-- no choice is left
pub ended-backed : (m m' : List ℕ) (n : ℕ) (t : Tally) (x : Maybe ℕ) → NewestBack m m' n x → x ≡ None → (e : Ending) → close_of e ≡ closing t.cut → (a : Answered) → a ≡ closes t e
    → Backed m m' n (Ok t) (Err a)
ended-backed m m' n t x b q e c a d = subst (λ (a : Answered). Backed m m' n (Ok t) (Err a)) (sym d) (record {
  is = λ rows. ap (λ k. over (closed k (tally_of rows t))) c ∙ back_none (outcomes_in m 0 n) (tally_of rows t) (sym (ap (forced_in m') q) ∙ b.is);
  onward = adds_none t;
  same = refl;
  leaves = tt;
})

-- a move is made for it, or the budget is spent
abbrev pub moved_on : ℕ → Result Tally Stopped → Result (ℕ × Tally) Answered
moved_on k (Ok u) = Ok (k, u)
moved_on k (Err e) = Err (stopping e)

moved_then : (m : List ℕ) (rows : List ℤ) (k : ℕ) (z : Result Tally Stopped) → then_of m rows (moved_on k z) ≡ then (next_of rows z) (starting (outcomes_in m 0 k))
moved_then m rows k (Ok u) = refl
moved_then m rows k (Err (Full u)) = refl
moved_then m rows k (Err (Spent u)) = refl

moved-onward : (t : Tally) (k : ℕ) (z : Result Tally Stopped) → Counts t (tally_in z) → Onward t (moved_on k z)
moved-onward t k (Ok u) c = c
moved-onward t k (Err (Full u)) c = adds-of c
moved-onward t k (Err (Spent u)) c = adds-of c

moved_same : (k : ℕ) (z : Result Tally Stopped) → written_in (moved_on k z) ≡ (tally_in z).written
moved_same k (Ok u) = refl
moved_same k (Err (Full u)) = refl
moved_same k (Err (Spent u)) = refl

moved-leaves : (m m' : List ℕ) (n k : ℕ) (z : Result Tally Stopped) → Flips m m' n k → Leaves m m' n (moved_on k z)
moved-leaves m m' n k (Ok u) f = f
moved-leaves m m' n k (Err e) f = tt

pub forced-backed : (m m' : List ℕ) (n : ℕ) (t : Tally) (x : Maybe ℕ) → NewestBack m m' n x → (k : ℕ) → x ≡ Some k → (y : Result Tally Stopped) → Charged t (λ rows. charge (tally_of rows t)) y → (z : Result Tally Stopped) → y ≡ z
    → (r : Result (ℕ × Tally) Answered) → r ≡ moved_on k z
    → Backed m m' n (Ok t) r
forced-backed m m' n t x b k q y h z e r d = subst (λ (r : Result (ℕ × Tally) Answered). Backed m m' n (Ok t) r) (sym d) (by (subst (λ (y : Result Tally Stopped). Charged t (λ rows. charge (tally_of rows t)) y) e h))
  where
    by : Charged t (λ rows. charge (tally_of rows t)) z → Backed m m' n (Ok t) (moved_on k z)
    by h = record {
      is = λ rows. moved_then m' rows k z ∙ ap (λ (y : lister.Next lister.Tally). then y (starting (outcomes_in m' 0 k))) (h.counted.is rows)
          ∙ back_some (outcomes_in m 0 n) (outcomes_in m' 0 k) (tally_of rows t) (sym (ap (forced_in m') q) ∙ b.is);
      onward = moved-onward t k z h.counted.counts;
      same = moved_same k z ∙ h.counted.same;
      leaves = moved-leaves m m' n k z (subst (FlipsBy m m' n) q b.flips);
    }

-- ---- the search is over

pub over-stopped : (m : List ℕ) (n : ℕ) (e : Stopped) → Backed m m n (Err e) (Err (stopping e))
over-stopped m n (Full t) = record { is = λ rows. refl; onward = adds_none t; same = refl; leaves = tt }
over-stopped m n (Spent t) = record { is = λ rows. refl; onward = adds_none t; same = refl; leaves = tt }

-- ---- a path's end

pub onward-more : (t u : Tally) (r : Result (ℕ × Tally) Answered) → Counts t u → Onward u r → Onward t r
onward-more t u (Ok w) c o = counts-more c o
onward-more t u (Err a) c o = record { more = omega (arith, c.more, o.more); most = omega (arith, c.places, o.most) }

outcomes-steady : (m m' : List ℕ) → Steady m m' → (n : ℕ) → outcomes_in m' 0 n ≡ outcomes_in m 0 n
outcomes-steady m m' s n = kept m m' 0 n (λ j l u. s.other (at j) (λ a b. omega arith) (λ q e. omega arith))

steady-none : (m : List ℕ) → Steady m m
steady-none m = record { other = λ i a b. refl }

backtracks-so : (m m₁ m₂ : List ℕ) (n : ℕ) (r : Result (ℕ × Tally) Answered) → Steady m m₁ → Leaves m₁ m₂ n r → BacktracksBy m m₂ n r
backtracks-so m m₁ m₂ n (Ok t) s f = record { some = f.some; most = f.most; other = λ i a b c. f.other i c ∙ s.other i a b }
backtracks-so m m₁ m₂ n (Err a) s f = tt

module _ (m m₁ m₂ : List ℕ) (p : Point) (t : Tally) (x : Result Tally Stopped) (r : Result (ℕ × Tally) Answered) (s : Steady m m₁) (b : Backed m₁ m₂ p.choices x r) where
  after-end : (rows : List ℤ) (y : lister.Next lister.Tally) → next_of rows x ≡ y → then_of m₂ rows r ≡ then y (back (outcomes_in m 0 p.choices))
  after-end rows y e = b.is rows ∙ ap₂ (λ (y : lister.Next lister.Tally) (h : List Bool). then y (back h)) e (outcomes-steady m m₁ s p.choices)

  pub finished-return : (v : Value) (rows rows' : List ℤ) → Placing rows rows' t (trials (meant m p.run.nodes v) (tests m p.run.nodes p.choices)
      (settings (windows_in m p.windows)) (tally_of rows t)) x
      → Finished m m₂ rows rows' (returned (meant m p.run.nodes v)) p t r
  unfolding finish
  finished-return v rows rows' h = record {
    is = after-end rows' _ h.is;
    onward = onward-more t (tally_in x) r h.counts b.onward;
    rowed = subst (λ (n : ℕ). Rowed rows rows' t.written n) (sym b.same) h.rowed;
    backtracks = backtracks-so m m₁ m₂ p.choices r s b.leaves;
  }

  pub finished-cut : Counted t (λ rows. probes (tests m p.run.nodes p.choices) (settings (windows_in m p.windows)) (tally_of rows t)) x → (rows : List ℤ) → Finished m m₂ rows rows cut p t r
  unfolding finish
  finished-cut h rows = record {
    is = after-end rows _ (h.is rows);
    onward = onward-more t (tally_in x) r h.counts b.onward;
    rowed = subst (λ (n : ℕ). Rowed rows rows t.written n) (sym (b.same ∙ h.same)) (rowed-none rows t.written);
    backtracks = backtracks-so m m₁ m₂ p.choices r s b.leaves;
  }

pub finished-fail : (m m₂ : List ℕ) (p : Point) (t : Tally) (r : Result (ℕ × Tally) Answered) → Backed m m₂ p.choices (Ok t) r → (rows : List ℤ) → Finished m m₂ rows rows failed p t r
unfolding finish
finished-fail m m₂ p t r b rows = record {
  is = b.is rows;
  onward = b.onward;
  rowed = subst (λ (n : ℕ). Rowed rows rows t.written n) (sym b.same) (rowed-none rows t.written);
  backtracks = backtracks-so m m m₂ p.choices r (steady-none m) b.leaves;
}
