-- Variables and calls are judged in one walk over the events; the least token is that of both.
use Prim.Native.Nat.{ℕ}
use mathlib.Core.Path.{◌≡◌, refl, sym, ap, subst, ◌∙◌}
use mathlib.Core.Bool.{Bool}
use mathlib.Core.List.{List, [], ◌∷◌, ◌++◌}
use Rattle.std.specs.Prelude.{Option, None}
use lib.ListN.{length, get_or}
use Rattle.events.specs.Event.{Event}
use Rattle.text_rules.specs.Scan.{scan, on, lesser, least}
use Rattle.text_rules.specs.Rules.{Head, heads}
use Rattle.text_rules.specs.Names.{uncalled, repeated}
use Rattle.text_rules.specs.Scopes.{entered, nowhere, misnamed_at, named_at, meanings_in}
use Rattle.text_rules.specs.Answers.{least_with}
use Rattle.text_rules.proofs.Scans.{lesser-with, with_append, with_none}
use Rattle.names.specs.Steps.{wrong, Seen, Named}
use Rattle.names.proofs.Meanings.{noted-meant, length-noted}

with-swap : (a b : List ℕ) (p : Option ℕ) → least_with a (least_with b p) ≡ least_with b (least_with a p)
unfolding least_with
with-swap [] b p = refl
with-swap (i ∷ a) b p = ap (lesser i) (with-swap a b p) ∙ lesser-with i b (least_with a p)

module _ {S : Type 0} (step : S → Event → S) (f : S → Event → List ℕ) (g : Event → List ℕ) where
  merge :
      (s : S) (es : List Event) (p : Option ℕ)
      → least_with (scan step (λ t e. f t e ++ g e) s es) p ≡ least_with (on g es) (least_with (scan step f s es) p)
  unfolding scan on least_with
  merge s [] p = refl
  merge s (e ∷ es) p =
      let fs = scan step f (step s e) es in
      let gs = on g es in
      with_append (f s e ++ g e) (scan step (λ t e. f t e ++ g e) (step s e) es) p
      ∙ ap (least_with (scan step (λ t e. f t e ++ g e) (step s e) es)) (with_append (f s e) (g e) p)
      ∙ merge (step s e) es (least_with (g e) (least_with (f s e) p))
      ∙ ap (least_with gs) (with-swap fs (g e) (least_with (f s e) p))
      ∙ sym (with_append (g e) gs (least_with fs (least_with (f s e) p)))
      ∙ ap (least_with (g e ++ gs)) (sym (with_append (f s e) fs p))

  -- a third list is judged after both
  pub least-of-three :
      (s : S) (es : List Event) (c : List ℕ)
      → least_with c (least_with (scan step (λ t e. f t e ++ g e) s es) None) ≡ least (scan step f s es ++ (on g es ++ c))
  least-of-three s es c =
      ap (least_with c) (merge s es None)
      ∙ sym
      (sym (with_none (scan step f s es ++ (on g es ++ c)))
      ∙ with_append (scan step f s es) (on g es ++ c) None
      ∙ with_append (on g es) c (least_with (scan step f s es) None))

-- rule 6 as a whole: variables and calls, then the repeated names of functions
pub judged :
    (same : ℕ → ℕ → Bool) (hs : List Head) (es : List Event) (slots : List ℕ) {best best' : Option ℕ} {slots' : List ℕ}
    → hs ≡ heads es
    → Seen (scan entered (wrong same hs) nowhere es) (scan entered (named_at same hs) nowhere es) None slots best slots'
    → best' ≡ least_with (repeated same [] hs) best
    → Named same es slots best' slots'
judged same hs es slots {best} {best'} {slots'} e s r = subst (λ (fs : List Head). Seen (scan entered (wrong same fs) nowhere es) (scan entered (named_at same fs) nowhere es) None slots best slots' → best' ≡ least_with (repeated same [] fs) best → Named same es slots best' slots') (sym e) whole s r
  where
    whole :
        Seen (scan entered (wrong same (heads es)) nowhere es) (scan entered (named_at same (heads es)) nowhere es) None slots best slots'
        → best' ≡ least_with (repeated same [] (heads es)) best
        → Named same es slots best' slots'
    whole s r = record {
      least =
          r
          ∙ ap (least_with (repeated same [] (heads es))) s.least
          ∙ least-of-three entered (misnamed_at same) (uncalled same (heads es)) nowhere es (repeated same [] (heads es));
      means = λ i h. ap (λ (l : List ℕ). get_or l i 0) s.written ∙ noted-meant slots (meanings_in same es) i h;
      kept = ap length s.written ∙ length-noted slots (meanings_in same es);
    }
