-- All settings tried one after another, as the odometer gives them.
use Rattle.std.specs.Prelude.{Result, Ok}
use mathlib.Core.Path.{◌≡◌, refl, sym, ap, ◌∙◌, subst}
use mathlib.Core.Bool.{Bool, true, false, not}
use mathlib.Core.Option.{Option, none, some}
use mathlib.Core.List.{List, [], ◌∷◌}
use mathlib.Core.Logic.{◌⊎◌, inl, inr, ⊎_elim}
use Prim.Native.Nat.{ℕ, zero, suc, ◌*◌, ◌≤◌, ◌<◌}
use native.Mathlib.Omega.{arith}
use lib.Dec.{T}
use lib.IntN.{ℤ}
use Rattle.semantics.specs.Program.{Window}
use Rattle.semantics.specs.Search.{Value, Test, Answer, settings}
use Rattle.simulation.specs.Odometer.{filled, lowest, after}
use Rattle.simulation.specs.Lister as lister
use Rattle.simulation.specs.Lister.{Next, then, go, over}
use Rattle.simulation.proofs.Odometer.{no-setting, from, from_lowest, from_next, onward, Lies, LiesNext, lies-lowest, lies-after}
use Rattle.settings.specs.Rows.{words_of}
use Rattle.settings.specs.Tries.{tally_of, next_of, tally_in, Counts, Rowed, Counted, Charged, Placing, Trying}
use Rattle.settings.specs.declared.Tally.{Tally}
use Rattle.settings.specs.declared.Stopped.{Stopped}
use Rattle.settings.proofs.Sheet.{row_same, words_same}
use Rattle.settings.proofs.Counting.{rowed-none}

-- ---- what was counted and written, one after the other

pub counts-none : (t : Tally) → Counts t t
counts-none t = record { sum = refl; places = refl; more = omega arith; spends = omega arith }

pub counts-more : {t u w : Tally} → Counts t u → Counts u w → Counts t w
counts-more a b = record {
  sum = b.sum ∙ a.sum;
  places = b.places ∙ a.places;
  more = omega (arith, a.more, b.more);
  spends = omega (arith, a.spends, b.spends);
}

either : (a b : ℕ) → (a ≤ b) ⊎ (b < a)
either zero b = inl (omega arith)
either (suc a) zero = inr (omega arith)
either (suc a) (suc b) = ⊎_elim (λ p. inl (omega arith)) (λ q. inr (omega arith)) (either a b)

pub rowed-more : (a b c : List ℤ) (n k l : ℕ) → n ≤ k → k ≤ l → Rowed a b n k → Rowed b c k l → Rowed a c n l
rowed-more a b c n k l p q x y = record {
  other = λ j h. y.other j (λ u v. h (omega arith) v) ∙ x.other j (λ u v. h u (omega arith));
  words = λ i g h. ⊎_elim
      (λ e. y.words i e h)
      (λ e. words_same b c (10 * i) 10 (λ j u v. y.other j (λ r s. omega arith)) ∙ x.words i g e ∙ sym (ap words_of (row_same b c i (λ j u v. y.other j (λ r s. omega arith)))))
      (either k i);
}

-- ---- at a return

module _ (v : Value) (ts : List Test) (ws : List Window) (rows₀ : List ℤ) (t₀ : Tally) where
  -- what all of them give
  abbrev pub whole : Next lister.Tally
  whole = lister.trials v ts (settings ws) (tally_of rows₀ t₀)

  -- there is no setting
  pub tries-none : T (not (filled ws)) → Placing rows₀ rows₀ t₀ whole (Ok t₀)
  unfolding lister.trials
  tries-none f = record {
    is = ap (λ (l : List (List ℤ)). lister.trials v ts l (tally_of rows₀ t₀)) (sym (no-setting ws f));
    counts = counts-none t₀;
    rowed = rowed-none rows₀ t₀.written;
  }

  -- the settings before s are tried
  pub record Tries (s : List ℤ) (rows : List ℤ) (t : Tally) : Type 0 where
    pub lies : Lies ws s
    pub is : lister.trials v ts (from ws s) (tally_of rows t) ≡ whole
    pub counts : Counts t₀ t
    pub rowed : Rowed rows₀ rows t₀.written t.written

  pub tries-first : T (filled ws) → (s : List ℤ) → s ≡ lowest ws → Tries s rows₀ t₀
  tries-first f s e = record {
    lies = subst (Lies ws) (sym e) (lies-lowest ws f);
    is = ap (λ (l : List (List ℤ)). lister.trials v ts l (tally_of rows₀ t₀)) (ap (from ws) e ∙ sym (from_lowest ws f));
    counts = counts-none t₀;
    rowed = rowed-none rows₀ t₀.written;
  }

  module _ {s : List ℤ} {rows : List ℤ} {t : Tally} (p : Tries s rows t) {rows' : List ℤ} {r : Result Tally Stopped} (q : Trying rows rows' t (lister.trial v ts s (tally_of rows t)) r) where
    one : then (next_of rows' r) (lister.trials v ts (onward ws (after ws s))) ≡ whole
    unfolding lister.trials
    one = ap (λ (x : Next lister.Tally). then x (lister.trials v ts (onward ws (after ws s)))) q.placed.is
        ∙ sym (ap (λ (l : List (List ℤ)). lister.trials v ts l (tally_of rows t)) (from_next ws s p.lies))
        ∙ p.is

    all : Counts t₀ (tally_in r)
    all = counts-more p.counts q.placed.counts

    sheet : Rowed rows₀ rows' t₀.written (tally_in r).written
    sheet = rowed-more rows₀ rows rows' t₀.written t.written (tally_in r).written p.counts.more q.placed.counts.more p.rowed q.placed.rowed

    -- the search is over
    pub tries-over : {a : Answer} → next_of rows' r ≡ over a → Placing rows₀ rows' t₀ whole r
    tries-over e = record {
      is = e ∙ sym (ap (λ (x : Next lister.Tally). then x (lister.trials v ts (onward ws (after ws s)))) e) ∙ one;
      counts = all;
      rowed = sheet;
    }

  module _ {s : List ℤ} {rows : List ℤ} {t : Tally} (p : Tries s rows t) {rows' : List ℤ} {u : Tally} (q : Trying rows rows' t (lister.trial v ts s (tally_of rows t)) (Ok u)) where
    -- there is a next setting
    pub tries-next : (s' : List ℤ) → after ws s ≡ some s' → Tries s' rows' u
    tries-next s' e = record {
      lies = subst (LiesNext ws) e (lies-after ws s p.lies);
      is = ap (λ (x : Option (List ℤ)). lister.trials v ts (onward ws x) (tally_of rows' u)) (sym e) ∙ one p q;
      counts = all p q;
      rowed = sheet p q;
    }

    -- this was the last setting
    pub tries-last : after ws s ≡ none → Placing rows₀ rows' t₀ whole (Ok u)
    unfolding lister.trials
    tries-last e = record {
      is = ap (λ (x : Option (List ℤ)). lister.trials v ts (onward ws x) (tally_of rows' u)) (sym e) ∙ one p q;
      counts = all p q;
      rowed = sheet p q;
    }

-- ---- at a cut

module _ (ts : List Test) (ws : List Window) (t₀ : Tally) where
  -- what they give
  abbrev pub probing : List ℤ → Next lister.Tally
  probing rows = lister.probes ts (settings ws) (tally_of rows t₀)

  -- there is no setting
  pub probes-none : T (not (filled ws)) → Counted t₀ probing (Ok t₀)
  unfolding lister.probes
  probes-none f = record {
    is = λ rows. ap (λ (l : List (List ℤ)). lister.probes ts l (tally_of rows t₀)) (sym (no-setting ws f));
    counts = counts-none t₀;
    same = refl;
  }

  -- the settings before s are tried
  pub record Probes (s : List ℤ) (t : Tally) : Type 0 where
    pub lies : Lies ws s
    pub is : (rows : List ℤ) → lister.probes ts (from ws s) (tally_of rows t) ≡ probing rows
    pub counts : Counts t₀ t
    pub same : t.written ≡ t₀.written

  pub probes-first : T (filled ws) → (s : List ℤ) → s ≡ lowest ws → Probes s t₀
  probes-first f s e = record {
    lies = subst (Lies ws) (sym e) (lies-lowest ws f);
    is = λ rows. ap (λ (l : List (List ℤ)). lister.probes ts l (tally_of rows t₀)) (ap (from ws) e ∙ sym (from_lowest ws f));
    counts = counts-none t₀;
    same = refl;
  }

  hit : (l : List (List ℤ)) (t : lister.Tally) → t.cut ≡ true → go t ≡ lister.probes ts l t
  unfolding lister.probes
  hit [] t e = refl
  hit (s ∷ ss) t e = ap (λ (b : Bool). elim b as (λ b. Next lister.Tally) [ true ↦ go t | false ↦ then (lister.probe ts s t) (lister.probes ts ss) ]) (sym e)

  miss : (s : List ℤ) (ss : List (List ℤ)) (t : lister.Tally) → t.cut ≡ false → then (lister.probe ts s t) (lister.probes ts ss) ≡ lister.probes ts (s ∷ ss) t
  unfolding lister.probes
  miss s ss t e = ap (λ (b : Bool). elim b as (λ b. Next lister.Tally) [ true ↦ go t | false ↦ then (lister.probe ts s t) (lister.probes ts ss) ]) (sym e)

  -- a cut run was found before
  pub probes-before : t₀.cut ≡ true → Counted t₀ probing (Ok t₀)
  probes-before e = record { is = λ rows. hit (settings ws) (tally_of rows t₀) e; counts = counts-none t₀; same = refl }

  module _ {s : List ℤ} {t : Tally} (p : Probes s t) (m : t.cut ≡ false) {r : Result Tally Stopped} (q : Charged t (λ rows. lister.probe ts s (tally_of rows t)) r) where
    probed : (rows : List ℤ) → then (next_of rows r) (lister.probes ts (onward ws (after ws s))) ≡ probing rows
    probed rows =
        ap (λ (x : Next lister.Tally). then x (lister.probes ts (onward ws (after ws s)))) (q.counted.is rows)
        ∙ miss s (onward ws (after ws s)) (tally_of rows t) m
        ∙ sym (ap (λ (l : List (List ℤ)). lister.probes ts l (tally_of rows t)) (from_next ws s p.lies))
        ∙ p.is rows

    -- the search is over
    pub probes-over : (a : List ℤ → Answer) → ((rows : List ℤ) → next_of rows r ≡ over (a rows)) → Counted t₀ probing r
    probes-over a e = record {
      is = λ rows. e rows ∙ sym (ap (λ (x : Next lister.Tally). then x (lister.probes ts (onward ws (after ws s)))) (e rows)) ∙ probed rows;
      counts = counts-more p.counts q.counted.counts;
      same = q.counted.same ∙ p.same;
    }

  module _ {s : List ℤ} {t : Tally} (p : Probes s t) (m : t.cut ≡ false) {u : Tally} (q : Charged t (λ rows. lister.probe ts s (tally_of rows t)) (Ok u)) where
    -- there is a next setting
    pub probes-next : (s' : List ℤ) → after ws s ≡ some s' → Probes s' u
    probes-next s' e = record {
      lies = subst (LiesNext ws) e (lies-after ws s p.lies);
      is = λ rows. ap (λ (x : Option (List ℤ)). lister.probes ts (onward ws x) (tally_of rows u)) (sym e) ∙ probed p m q rows;
      counts = counts-more p.counts q.counted.counts;
      same = q.counted.same ∙ p.same;
    }

    -- this was the last setting
    pub probes-last : after ws s ≡ none → Counted t₀ probing (Ok u)
    unfolding lister.probes
    probes-last e = record {
      is = λ rows. ap (λ (x : Option (List ℤ)). lister.probes ts (onward ws x) (tally_of rows u)) (sym e) ∙ probed p m q rows;
      counts = counts-more p.counts q.counted.counts;
      same = q.counted.same ∙ p.same;
    }

    -- a cut run was found
    pub probes-done : u.cut ≡ true → Counted t₀ probing (Ok u)
    probes-done e = record {
      is = λ rows. hit (onward ws (after ws s)) (tally_of rows u) e ∙ probed p m q rows;
      counts = counts-more p.counts q.counted.counts;
      same = q.counted.same ∙ p.same;
    }
