-- What is counted, as the code counts it.
use Rattle.std.specs.Prelude.{Result, Ok, Err}
use mathlib.Core.Path.{◌≡◌, refl, sym, ap, ap₂, ◌∙◌, subst}
use mathlib.Core.Bool.{Bool, true, false}
use mathlib.Core.List.{List, [], ◌∷◌, ◌++◌}
use Prim.Native.Nat.{ℕ, zero, suc, ◌+◌, ◌-◌, ◌*◌, ◌≤◌, ◌<◌}
use mathlib.Core.Logic.{⊎_elim}
use native.Mathlib.Nat.{eq-or-lt_of_le}
use native.Mathlib.Numerals.{add-one}
use native.Mathlib.Omega.{arith}
use lib.ListN.{length}
use lib.IntN.{ℤ}
use Rattle.semantics.specs.Run.{Row}
use Rattle.semantics.specs.Search.{Value, Test, under, meets, Answer, full, spent}
use Rattle.simulation.specs.Lister as lister
use Rattle.simulation.specs.Lister.{Next, then, go, over, closed, tally}
use Rattle.settings.specs.Rows.{rows_at, row_with, row_at, words_of, words_from, Written}
use Rattle.settings.specs.Tries.{tally_of, tally_in, spending, cutting, Moved, Charged, Rowed, Placing, Trying}
use Rattle.settings.specs.declared.Tally.{Tally}
use Rattle.settings.specs.declared.Stopped.{Stopped}
use Rattle.settings.specs.declared.Stopped.TheVariants.{Full, Spent}
use Rattle.settings.proofs.Sheet.{row_of}

-- ---- a move

charge-none : (b k r : ℕ) (rs : List Row) (n : ℕ) (h : Bool) → b ≡ 0 → over (closed spent (tally b k r rs n h)) ≡ lister.charge (tally b k r rs n h)
unfolding lister.charge
charge-none zero k r rs n h e = refl
charge-none (suc b) k r rs n h e = absurd (omega arith)

charge-one : (b k r : ℕ) (rs : List Row) (n : ℕ) (h : Bool) → (b ≡ 0 → ⊥) → go (tally (b - 1) k r rs (n + 1) h) ≡ lister.charge (tally b k r rs n h)
unfolding lister.charge
charge-one zero k r rs n h e = absurd (e refl)
charge-one (suc b) k r rs n h e = ap₂ (λ (x y : ℕ). go (tally x k r rs y h)) {x = suc b - 1} {y = b} (omega arith) (add-one n)

-- charging t
abbrev pub charges : Tally → List ℤ → Next lister.Tally
charges t rows = lister.charge (tally_of rows t)

pub charged-none : (t : Tally) → t.budget ≡ 0 → Charged t (charges t) (Err (Spent t))
charged-none t e = record {
  counted = record {
    is = λ rows. charge-none t.budget t.skip t.room (rows_at rows t.written) t.moves t.cut e;
    counts = record { sum = refl; places = refl; more = omega arith; spends = omega arith };
    same = refl;
  };
  moved = tt;
}

pub charged-one : (t : Tally) → (t.budget ≡ 0 → ⊥) → Charged t (charges t) (Ok (spending t))
charged-one t e = record {
  counted = record {
    is = λ rows. charge-one t.budget t.skip t.room (rows_at rows t.written) t.moves t.cut e;
    counts = record { sum = omega arith; places = refl; more = omega arith; spends = omega arith };
    same = refl;
  };
  moved = omega arith;
}

-- ---- a row found

place-skip : (b k r : ℕ) (rs : List Row) (n : ℕ) (h : Bool) (x : Row) → 0 < k → go (tally b (k - 1) r rs n h) ≡ lister.place x (tally b k r rs n h)
unfolding lister.place
place-skip b zero r rs n h x l = absurd (omega arith)
place-skip b (suc k) r rs n h x l = ap (λ (j : ℕ). go (tally b j r rs n h)) {x = suc k - 1} {y = k} (omega arith)

place-full : (b k r : ℕ) (rs : List Row) (n : ℕ) (h : Bool) (x : Row) → k ≡ 0 → r ≡ 0 → over (closed full (tally b k r rs n h)) ≡ lister.place x (tally b k r rs n h)
unfolding lister.place
place-full b zero zero rs n h x e q = refl
place-full b zero (suc r) rs n h x e q = absurd (omega arith)
place-full b (suc k) r rs n h x e q = absurd (omega arith)

place-row : (b k r : ℕ) (rs : List Row) (n : ℕ) (h : Bool) (x : Row) → k ≡ 0 → (r ≡ 0 → ⊥) → go (tally b k (r - 1) (rs ++ x ∷ []) n h) ≡ lister.place x (tally b k r rs n h)
unfolding lister.place
place-row b zero zero rs n h x e q = absurd (q refl)
place-row b zero (suc r) rs n h x e q = ap (λ (j : ℕ). go (tally b zero j (rs ++ x ∷ []) n h)) {x = suc r - 1} {y = r} (omega arith)
place-row b (suc k) r rs n h x e q = absurd (omega arith)

pub rowed-none : (rows : List ℤ) (n : ℕ) → Rowed rows rows n n
rowed-none rows n = record { other = λ j h. refl; words = λ i l u. absurd (omega arith) }

abbrev pub skipped : Tally → Tally
skipped t = record { budget = t.budget; skip = t.skip - 1; room = t.room; written = t.written; moves = t.moves; cut = t.cut }

abbrev pub rowed : Tally → Tally
rowed t = record { budget = t.budget; skip = t.skip; room = t.room - 1; written = t.written + 1; moves = t.moves; cut = t.cut }

module _ (rows : List ℤ) (t : Tally) (x : Row) where
  pub placed-skip : 0 < t.skip → Placing rows rows t (lister.place x (tally_of rows t)) (Ok (skipped t))
  placed-skip l = record {
    is = place-skip t.budget t.skip t.room (rows_at rows t.written) t.moves t.cut x l;
    counts = record { sum = refl; places = refl; more = omega arith; spends = omega arith };
    rowed = rowed-none rows t.written;
  }

  pub placed-full : t.skip ≡ 0 → t.room ≡ 0 → Placing rows rows t (lister.place x (tally_of rows t)) (Err (Full t))
  placed-full e q = record {
    is = place-full t.budget t.skip t.room (rows_at rows t.written) t.moves t.cut x e q;
    counts = record { sum = refl; places = refl; more = omega arith; spends = omega arith };
    rowed = rowed-none rows t.written;
  }

  pub placed_row : (rows' : List ℤ) → length x.values ≤ 8 → t.skip ≡ 0 → (t.room ≡ 0 → ⊥) → Written rows rows' t.written x
      → Placing rows rows' t (lister.place x (tally_of rows t)) (Ok (rowed t))
  placed_row rows' few e q w = record {
    is = ap (λ (l : List Row). go (tally t.budget t.skip (t.room - 1) l t.moves t.cut)) w.is
        ∙ place-row t.budget t.skip t.room (rows_at rows t.written) t.moves t.cut x e q;
    counts = record { sum = refl; places = omega (arith, q); more = omega arith; spends = omega arith };
    rowed = record {
      other = λ j h. w.other j (λ a b. h a (omega arith));
      words = λ i l u. ⊎_elim
          (λ d. ap (λ (n : ℕ). words_from rows' (10 * n) 10) (sym d) ∙ w.words ∙ sym (ap words_of (row_of rows rows' t.written x few w)) ∙ ap (λ (n : ℕ). words_of (row_at rows' n)) d)
          (λ g. absurd (omega arith))
          (eq-or-lt_of_le {n = t.written} {m = i} l);
    };
  }

-- ---- a setting tried at a return

module _ (v : Value) (ts : List Test) (s : List ℤ) where
  trial-over : (T : lister.Tally) {a : Answer} → over a ≡ lister.charge T → over a ≡ lister.trial v ts s T
  unfolding lister.trial
  trial-over T e = ap (λ (x : Next lister.Tally). then x (λ u. elim (meets ts s) as (λ b. Next lister.Tally) [ true ↦ lister.place (row_with (under s v) s) u | false ↦ go u ])) e

  trial-met : (T U : lister.Tally) → go U ≡ lister.charge T → meets ts s ≡ true → lister.place (row_with (under s v) s) U ≡ lister.trial v ts s T
  unfolding lister.trial
  trial-met T U e m =
      ap (λ (b : Bool). elim b as (λ b. Next lister.Tally) [ true ↦ lister.place (row_with (under s v) s) U | false ↦ go U ]) (sym m)
      ∙ ap (λ (x : Next lister.Tally). then x (λ u. elim (meets ts s) as (λ b. Next lister.Tally) [ true ↦ lister.place (row_with (under s v) s) u | false ↦ go u ])) e

  trial-missed : (T U : lister.Tally) → go U ≡ lister.charge T → meets ts s ≡ false → go U ≡ lister.trial v ts s T
  unfolding lister.trial
  trial-missed T U e m =
      ap (λ (b : Bool). elim b as (λ b. Next lister.Tally) [ true ↦ lister.place (row_with (under s v) s) U | false ↦ go U ]) (sym m)
      ∙ ap (λ (x : Next lister.Tally). then x (λ u. elim (meets ts s) as (λ b. Next lister.Tally) [ true ↦ lister.place (row_with (under s v) s) u | false ↦ go u ])) e

  module _ (rows : List ℤ) (t : Tally) where
    pub trying-over : t.budget ≡ 0 → Trying rows rows t (lister.trial v ts s (tally_of rows t)) (Err (Spent t))
    trying-over e = record {
      placed = record {
        is = trial-over (tally_of rows t) ((charged-none t e).counted.is rows);
        counts = (charged-none t e).counted.counts;
        rowed = rowed-none rows t.written;
      };
      moved = tt;
    }

    pub trying-missed : (t.budget ≡ 0 → ⊥) → meets ts s ≡ false → Trying rows rows t (lister.trial v ts s (tally_of rows t)) (Ok (spending t))
    trying-missed e m = record {
      placed = record {
        is = trial-missed (tally_of rows t) (tally_of rows (spending t)) ((charged-one t e).counted.is rows) m;
        counts = (charged-one t e).counted.counts;
        rowed = rowed-none rows t.written;
      };
      moved = (charged-one t e).moved;
    }

    moved_by : (r : Result Tally Stopped) → (t.budget ≡ 0 → ⊥) → (tally_in r).budget ≤ t.budget - 1 → Moved t.budget r
    moved_by (Ok u) e l = omega (arith, e)
    moved_by (Err (Full u)) e l = tt
    moved_by (Err (Spent u)) e l = tt

    pub trying-met : (rows' : List ℤ) (r : Result Tally Stopped) → (t.budget ≡ 0 → ⊥) → meets ts s ≡ true → Placing rows rows' (spending t) (lister.place (row_with (under s v) s) (tally_of rows (spending t))) r
        → Trying rows rows' t (lister.trial v ts s (tally_of rows t)) r
    trying-met rows' r e m p = record {
      placed = record {
        is = p.is ∙ trial-met (tally_of rows t) (tally_of rows (spending t)) ((charged-one t e).counted.is rows) m;
        counts = record { sum = omega (arith, e, p.counts.sum); places = p.counts.places; more = p.counts.more; spends = omega (arith, p.counts.spends) };
        rowed = p.rowed;
      };
      moved = moved_by r e p.counts.spends;
    }

    -- the same, said of what the code hands over
    pub trying-placed : (rows' : List ℤ) (r : Result Tally Stopped) (u : Tally) (z : ℤ) (s' : List ℤ) → (t.budget ≡ 0 → ⊥) → meets ts s ≡ true → u ≡ spending t → z ≡ under s v → s' ≡ s
        → Placing rows rows' u (lister.place (row_with z s') (tally_of rows u)) r → Trying rows rows' t (lister.trial v ts s (tally_of rows t)) r
    trying-placed rows' r u z s' e m a b c p = trying-met rows' r e m
        (subst (λ (u : Tally). Placing rows rows' u (lister.place (row_with (under s v) s) (tally_of rows u)) r) a
        (subst (λ (x : Row). Placing rows rows' u (lister.place x (tally_of rows u)) r) (ap₂ row_with b c) p))

-- ---- a setting tried at a cut

module _ (ts : List Test) (s : List ℤ) where
  probe-over : (T : lister.Tally) {a : Answer} → over a ≡ lister.charge T → over a ≡ lister.probe ts s T
  unfolding lister.probe
  probe-over T e = ap (λ (x : Next lister.Tally). then x (λ u. go (tally u.budget u.skip u.room u.rows u.moves (meets ts s)))) e

  probe-go : (T U : lister.Tally) → go U ≡ lister.charge T → go (tally U.budget U.skip U.room U.rows U.moves (meets ts s)) ≡ lister.probe ts s T
  unfolding lister.probe
  probe-go T U e = ap (λ (x : Next lister.Tally). then x (λ u. go (tally u.budget u.skip u.room u.rows u.moves (meets ts s)))) e

  module _ (t : Tally) where
    -- probing with t
    abbrev pub probing : List ℤ → Next lister.Tally
    probing rows = lister.probe ts s (tally_of rows t)

    pub probed-over : t.budget ≡ 0 → Charged t probing (Err (Spent t))
    probed-over e = record {
      counted = record { is = λ rows. probe-over (tally_of rows t) ((charged-none t e).counted.is rows); counts = (charged-none t e).counted.counts; same = refl };
      moved = tt;
    }

    probed-one : (b : Bool) → (t.budget ≡ 0 → ⊥) → b ≡ meets ts s → Charged t probing (Ok (cutting (spending t) b))
    probed-one b e m = record {
      counted = record {
        is = λ rows. ap (λ (o : Bool). go (tally_of rows (cutting (spending t) o))) m ∙ probe-go (tally_of rows t) (tally_of rows (spending t)) ((charged-one t e).counted.is rows);
        counts = record { sum = omega (arith, e); places = refl; more = omega arith; spends = omega arith };
        same = refl;
      };
      moved = (charged-one t e).moved;
    }

    pub probed-go : (u : Tally) (b : Bool) → (t.budget ≡ 0 → ⊥) → u ≡ spending t → b ≡ meets ts s → Charged t probing (Ok (cutting u b))
    probed-go u b e a m = subst (λ (u : Tally). Charged t probing (Ok (cutting u b))) (sym a) (probed-one b e m)
