-- One law for every rule: to go through the events with the least token so far is to take the least of all that the rule gives.
use Prim.Native.Nat.{ℕ, ◌+◌, ◌≤◌, ◌<◌}
use mathlib.Core.Path.{◌≡◌, refl, sym, ap, ◌∙◌}
use mathlib.Core.Bool.{Bool, true, false, cond}
use mathlib.Core.List.{List, [], ◌∷◌, ◌++◌, map}
use Rattle.std.specs.Prelude.{Option, None, Some}
use native.Mathlib.Omega.{arith}
use native.Mathlib.Numerals.{add-one}
use lib.Dec.{leb}
use lib.ListN.{length, get_or, drop, drop_of_length-le}
use lib.Seq.{drop-cons}
use borrow.Author.Tests.{leb-true, leb-false}
use Rattle.events.specs.Event.{Event}
use Rattle.events.specs.Read.{as_event}
use Rattle.events.specs.declared.event.Event as C
use Rattle.text_rules.specs.Scan.{scan, on, lesser, least}
use Rattle.text_rules.specs.Answers.{least_with}

-- ---- the least of several

abbrev less : ℕ → ℕ → ℕ
less i j = cond (leb i j) i j

-- the lesser of two, by what is true of it
less_by : (i j : ℕ) (P : ℕ → Type 0) → (i ≤ j → P i) → (j < i → P j) → P (less i j)
less_by i j P f g = go (leb i j) refl
  where
    go : (b : Bool) → leb i j ≡ b → P (cond b i j)
    go true e = f (leb-true i j e)
    go false e = g (leb-false i j e)

less-swap : (i j : ℕ) → less i j ≡ less j i
less-swap i j =
    less_by i j (λ m. m ≡ less j i)
    (λ p. less_by j i (λ m. i ≡ m) (λ q. omega arith) (λ q. refl))
    (λ p. less_by j i (λ m. j ≡ m) (λ q. refl) (λ q. omega arith))

less-turn : (i j k : ℕ) → less i (less j k) ≡ less j (less i k)
less-turn i j k =
    less_by j k (λ m. less i m ≡ less j (less i k))
    (λ p. less_by i k (λ m. less i j ≡ less j m)
    (λ q. less-swap i j)
    (λ q. less_by i j (λ m. m ≡ less j k) (λ r. omega arith) (λ r. less_by j k (λ m. j ≡ m) (λ s. refl) (λ s. omega arith))))
    (λ p. less_by i k (λ m. m ≡ less j (less i k))
    (λ q. less_by i k (λ m. i ≡ less j m) (λ r. less_by j i (λ m. i ≡ m) (λ s. omega arith) (λ s. refl)) (λ r. omega arith))
    (λ q. less_by i k (λ m. k ≡ less j m) (λ r. omega arith) (λ r. less_by j k (λ m. k ≡ m) (λ s. omega arith) (λ s. refl))))

pub lesser-turn : (i j : ℕ) (p : Option ℕ) → lesser i (lesser j p) ≡ lesser j (lesser i p)
unfolding lesser
lesser-turn i j None = ap Some (less-swap i j)
lesser-turn i j (Some k) = ap Some (less-turn i j k)

pub lesser-with : (i : ℕ) (l : List ℕ) (p : Option ℕ) → lesser i (least_with l p) ≡ least_with l (lesser i p)
unfolding least_with
lesser-with i [] p = refl
lesser-with i (j ∷ l) p = lesser-turn i j (least_with l p) ∙ ap (lesser j) (lesser-with i l p)

pub with_append : (a b : List ℕ) (p : Option ℕ) → least_with (a ++ b) p ≡ least_with b (least_with a p)
unfolding least_with
with_append [] b p = refl
with_append (i ∷ a) b p = ap (lesser i) (with_append a b p) ∙ lesser-with i b (least_with a p)

pub with_none : (l : List ℕ) → least_with l None ≡ least l
unfolding least_with least
with_none [] = refl
with_none (i ∷ l) = ap (lesser i) (with_none l)

-- ---- events from a place on

-- what is left of the events from event i on
abbrev pub rest : List C.Event → ℕ → List Event
rest l i = map as_event (drop i l)

pub rest_more : (l : List C.Event) (i : ℕ) (d : C.Event) → i < length l → rest l i ≡ as_event (get_or l i d) ∷ rest l (i + 1)
rest_more l i d h = rw (drop-cons l i d h, add-one)

pub rest-none : (l : List C.Event) (i : ℕ) → length l ≤ i → rest l i ≡ []
rest-none l i h = rw (drop_of_length-le l {i = i} h)

-- ---- a rule that remembers

module _ {S : Type 0} (step : S → Event → S) (gives : S → Event → List ℕ) where
  -- what a rule will have found at the end: s is what it has seen before event i, p the least token so far
  pub ahead : List C.Event → ℕ → S → Option ℕ → Option ℕ
  ahead l i s p = least_with (scan step gives s (rest l i)) p

  pub ahead-start : (l : List C.Event) (s : S) → ahead l 0 s None ≡ least (scan step gives s (map as_event l))
  unfolding ahead
  ahead-start l s = with_none (scan step gives s (rest l 0))

  -- a turn: event i is e, and q is the least token with it
  pub ahead-turn : (l : List C.Event) (i : ℕ) (s : S) (p : Option ℕ) (d : C.Event) {q : Option ℕ} {e : C.Event} {t : S} → i < length l → e ≡ get_or l i d → t ≡ step s (as_event e) → q ≡ least_with (gives s (as_event e)) p → ahead l (i + 1) t q ≡ ahead l i s p
  unfolding ahead scan
  ahead-turn l i s p d h x y z =
      rw (z, y, x)
      (sym
      (ap (λ (es : List Event). least_with (scan step gives s es) p) (rest_more l i d h)
      ∙ with_append (gives s (as_event (get_or l i d))) (scan step gives (step s (as_event (get_or l i d))) (rest l (i + 1))) p))

  pub ahead-end : (l : List C.Event) (i : ℕ) (s : S) (p : Option ℕ) → length l ≤ i → ahead l i s p ≡ p
  unfolding ahead scan least_with
  ahead-end l i s p h = ap (λ (es : List Event). least_with (scan step gives s es) p) (rest-none l i h)

-- ---- a rule that has nothing to remember

on-scan : (gives : Event → List ℕ) (es : List Event) → on gives es ≡ scan (λ s e. s) (λ s e. gives e) (tt {0}) es
unfolding on scan
on-scan gives [] = refl
on-scan gives (e ∷ es) = ap (λ (l : List ℕ). gives e ++ l) (on-scan gives es)

module _ (gives : Event → List ℕ) where
  pub on_ahead : List C.Event → ℕ → Option ℕ → Option ℕ
  on_ahead l i p = ahead (λ s e. s) (λ s e. gives e) l i (tt {0}) p

  pub on-start : (l : List C.Event) → on_ahead l 0 None ≡ least (on gives (map as_event l))
  unfolding on_ahead
  on-start l = ahead-start (λ s e. s) (λ s e. gives e) l (tt {0}) ∙ ap least (sym (on-scan gives (map as_event l)))

  pub on-turn : (l : List C.Event) (i : ℕ) (p : Option ℕ) (d : C.Event) {q : Option ℕ} {e : C.Event} → i < length l → e ≡ get_or l i d → q ≡ least_with (gives (as_event e)) p → on_ahead l (i + 1) q ≡ on_ahead l i p
  unfolding on_ahead
  on-turn l i p d h x z = ahead-turn (λ s e. s) (λ s e. gives e) l i (tt {0}) p d h x refl z

  pub on-end : (l : List C.Event) (i : ℕ) (p : Option ℕ) → length l ≤ i → on_ahead l i p ≡ p
  unfolding on_ahead
  on-end l i p h = ahead-end (λ s e. s) (λ s e. gives e) l i (tt {0}) p h
