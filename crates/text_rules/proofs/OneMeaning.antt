-- Each name of a text has one meaning: what the meanings leave at its token is what the event of that token says, in the scope where it stands.
use Prim.Native.Nat.{ℕ, suc, ◌≤◌, ◌<◌}
use mathlib.Core.Path.{◌≡◌, refl, ◌∙◌}
use mathlib.Core.Bool.{Bool, true, false, cond}
use mathlib.Core.List.{List, [], ◌∷◌, ◌++◌}
use Rattle.std.specs.Prelude.{Option, None, Some}
use native.Mathlib.Omega.{arith}
use borrow.Author.Tests.{eq-eqb, eqb-true}
use lib.Dec.{eqb}
use Rattle.events.specs.Event.{Event, function, parameter, thing, opens, closes, declares, uses, calls, ends}
use Rattle.events.proofs.Rising.{Between, Rising}
use Rattle.events.proofs.Rising as R
use Rattle.text_rules.specs.Scan.{scan}
use Rattle.text_rules.specs.Rules.{Head, heads, function_of}
use Rattle.text_rules.specs.Names.{Meaning, as_found, meant, sought, named}
use Rattle.text_rules.specs.Scopes.{Scope, entered, nowhere, on_name, named_at, meanings_in}

-- ---- meanings at tokens that rise

data Ascending : ℕ → List Meaning → Type 0 where
  nothing : {lo : ℕ} → Ascending lo []
  above : {lo : ℕ} {m : Meaning} {ms : List Meaning} → lo ≤ m.token → Ascending (suc m.token) ms → Ascending lo (m ∷ ms)

ascending-from : {lo mid : ℕ} {ms : List Meaning} → lo ≤ mid → Ascending mid ms → Ascending lo ms
ascending-from h nothing = nothing
ascending-from {lo} {mid} h (above {m = m} k a) =
    let z : lo ≤ m.token = omega arith in
    above z a

-- what was written before is kept
meant-before : (f : ℕ → ℕ) (i : ℕ) {lo : ℕ} {ms : List Meaning} → i < lo → Ascending lo ms → meant f ms i ≡ f i
unfolding meant
meant-before f i h nothing = refl
meant-before f i h (above {m = m} k a) = meant-before (λ j. cond (eqb m.token j) m.means (f j)) i (omega arith) a ∙ other (eqb m.token i) refl
  where
    other : (b : Bool) → eqb m.token i ≡ b → cond b m.means (f i) ≡ f i
    other true e = absurd (omega (arith, eqb-true m.token i e))
    other false e = refl

-- each of them is what its token means
data Held (means : ℕ → ℕ) : List Meaning → Type 0 where
  empty : Held means []
  holds : {m : Meaning} {ms : List Meaning} → means m.token ≡ m.means → Held means ms → Held means (m ∷ ms)

held : (f : ℕ → ℕ) {lo : ℕ} {ms : List Meaning} → Ascending lo ms → Held (meant f ms) ms
unfolding meant
held f nothing = empty
held f (above {m = m} k a) =
    let g : ℕ → ℕ = λ j. cond (eqb m.token j) m.means (f j) in
    let e : g m.token ≡ m.means = rw (eq-eqb m.token m.token refl) in
    holds (meant-before g m.token (omega arith) a ∙ e) (held g a)

-- ---- events

-- each event of a list has P in the scope where it stands
pub data Each (P : Scope → Event → Type 0) : Scope → List Event → Type 0 where
  done : {s : Scope} → Each P s []
  also : {s : Scope} {e : Event} {es : List Event} → P s e → Each P (entered s e) es → Each P s (e ∷ es)

module _ (same : ℕ → ℕ → Bool) (hs : List Head) where
  found-ascends : {lo mid i : ℕ} {ms : List Meaning} (o : Option ℕ) → lo ≤ i → i < mid → Ascending mid ms → Ascending lo (as_found o i ++ ms)
  found-ascends None h k a = ascending-from (omega arith) a
  found-ascends (Some n) h k a = above h (ascending-from k a)

  named-ascends : (lo mid : ℕ) (s : Scope) (e : Event) {ms : List Meaning} → Between lo e mid → Ascending mid ms → Ascending lo (named_at same hs s e ++ ms)
  unfolding on_name named Between
  named-ascends lo mid s (function i) h a = ascending-from h a
  named-ascends lo mid s (parameter i) h a = above h.0 (ascending-from h.1 a)
  named-ascends lo mid s (thing d i) h a = ascending-from h a
  named-ascends lo mid s opens h a = ascending-from h a
  named-ascends lo mid s closes h a = ascending-from h a
  named-ascends lo mid s (declares i) h a = above h.0 (ascending-from h.1 a)
  named-ascends lo mid s (uses i) h a = found-ascends (sought same s.blocks i) h.0 h.1 a
  named-ascends lo mid s (calls i n) h a = found-ascends (function_of same hs i) h.0 h.1 a
  named-ascends lo mid s (ends i b) h a = ascending-from h a

  ascends : (s : Scope) {lo hi : ℕ} {es : List Event} → Rising lo es hi → Ascending lo (scan entered (named_at same hs) s es)
  unfolding scan
  ascends s (R.none lo hi h) = nothing
  ascends s (R.more lo mid e b p) = named-ascends lo mid s e b (ascends (entered s e) p)

  -- what an event says that its token means: a declaration has the next number, a variable the slot that is found, a call the function that is found
  unfoldable pub Says : (ℕ → ℕ) → Scope → Event → Type 0
  Says means s (function i) = Unit {0}
  Says means s (parameter i) = means i ≡ s.next
  Says means s (thing d i) = Unit {0}
  Says means s opens = Unit {0}
  Says means s closes = Unit {0}
  Says means s (declares i) = means i ≡ s.next
  Says means s (uses i) = (n : ℕ) → sought same s.blocks i ≡ Some n → means i ≡ n
  Says means s (calls i k) = (n : ℕ) → function_of same hs i ≡ Some n → means i ≡ n
  Says means s (ends i b) = Unit {0}

  module _ (means : ℕ → ℕ) where
    first-held : {m : Meaning} {ms : List Meaning} → Held means (m ∷ ms) → means m.token ≡ m.means
    first-held (holds e h) = e

    found-held : (i : ℕ) (o : Option ℕ) (ms : List Meaning) → Held means (as_found o i ++ ms) → (n : ℕ) → o ≡ Some n → means i ≡ n
    found-held i None ms h n e =
        let z : ◌≡◌ {A = ℕ} 0 1 = cc in
        absurd (omega arith)
    found-held i (Some k) ms h n e =
        let z : k ≡ n = cc in
        first-held h ∙ z

    says : (s : Scope) (e : Event) (ms : List Meaning) → Held means (named_at same hs s e ++ ms) → Says means s e
    unfolding on_name named Says
    says s (function i) ms h = tt
    says s (parameter i) ms h = first-held h
    says s (thing d i) ms h = tt
    says s opens ms h = tt
    says s closes ms h = tt
    says s (declares i) ms h = first-held h
    says s (uses i) ms h = found-held i (sought same s.blocks i) ms h
    says s (calls i k) ms h = found-held i (function_of same hs i) ms h
    says s (ends i b) ms h = tt

    held-rest : (xs ys : List Meaning) → Held means (xs ++ ys) → Held means ys
    held-rest [] ys h = h
    held-rest (x ∷ xs) ys (holds e h) = held-rest xs ys h

    all_say : (s : Scope) (es : List Event) → Held means (scan entered (named_at same hs) s es) → Each (Says means) s es
    unfolding scan
    all_say s [] h = done
    all_say s (e ∷ es) h =
        let ms = scan entered (named_at same hs) (entered s e) es in
        also (says s e ms h) (all_say (entered s e) es (held-rest (named_at same hs s e) ms h))

-- where the tokens of names rise, each token means what its own event says, whatever it meant before
pub one-meaning : (same : ℕ → ℕ → Bool) (f : ℕ → ℕ) {lo hi : ℕ} {es : List Event} → Rising lo es hi → Each (Says same (heads es) (meant f (meanings_in same es))) nowhere es
one-meaning same f {es = es} r = all_say same (heads es) (meant f (meanings_in same es)) nowhere es (held f (ascends same (heads es) nowhere r))
