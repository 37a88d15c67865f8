-- Where the rules 6, 7 and 10 are kept, each name means what it should: a declaration the next slot, among 16; a variable a slot that is given and can be seen;
-- a call a function with as many parameters as the call has arguments.
use Prim.Native.Nat.{ℕ, suc, ◌≤◌, ◌<◌}
use mathlib.Core.Path.{◌≡◌, refl, sym, ap, ◌∙◌, subst}
use mathlib.Core.Bool.{Bool, true, false, not, cond, ◌||◌}
use mathlib.Core.List.Memᴰ.{head as here}
use mathlib.Core.List.Memᴰ.{not-nil}
use mathlib.Core.List.Memᴰ.{tail as there}
use mathlib.Core.List.{List, [], ◌∷◌}
use Rattle.std.specs.Prelude.{Option, None, Some}
use native.Mathlib.Omega.{arith}
use borrow.Author.Tests.{eqb-true, leb-false}
use lib.ListN.{length, get_or}
use lib.Dec.{eqb, leb}
use Rattle.events.specs.Event.{Event, function, parameter, thing, opens, closes, declares, uses, calls, ends}
use Rattle.events.proofs.Rising.{Rising}
use Rattle.semantics.specs.Demand.{◌∈◌}
use Rattle.text_rules.specs.Scan.{scan, on, when}
use Rattle.text_rules.specs.Rules.{Head, heads, function_of, arity_of, wrong, miscounted, miscalls, Tally, tally, counted, over, too_many, most_parameters, most_declarations}
use Rattle.text_rules.specs.Names.{Declared, meant, in_block, sought, unless_found, misnamed, uncalled}
use Rattle.text_rules.specs.Scopes.{Scope, added, outer, entered, nowhere, on_name, misnamed_at, bad_variables_in, bad_names_in, meanings_in}
use Rattle.text_rules.proofs.Counts.{nil-left, nil-right, not-when, or_right, arities}
use Rattle.text_rules.proofs.OneMeaning.{Each, done, also, Says, one-meaning}

-- ---- the slots that can be seen, the newest first

abbrev pub before : List Declared → List ℕ → List ℕ
before [] ns = ns
before (d ∷ ds) ns = d.slot ∷ before ds ns

unfoldable pub shown : List (List Declared) → List ℕ
shown [] = []
shown (b ∷ bs) = before b (shown bs)

pub shown-added : (i n : ℕ) (bs : List (List Declared)) → shown (added i n bs) ≡ n ∷ shown bs
unfolding shown added
shown-added i n [] = refl
shown-added i n (b ∷ bs) = refl

-- what an outer block has can still be seen
under : (b : List Declared) {n : ℕ} {ns : List ℕ} → n ∈ ns → n ∈ before b ns
under [] h = h
under (d ∷ b) h = there (under b h)

under-outer : (bs : List (List Declared)) {n : ℕ} → n ∈ shown (outer bs) → n ∈ shown bs
unfolding shown outer
under-outer [] h = h
under-outer (b ∷ bs) h = under b h

-- what is found can be seen
module _ (same : ℕ → ℕ → Bool) where
  in-block : (b : List Declared) (i n : ℕ) (ns : List ℕ) → in_block same b i ≡ Some n → n ∈ before b ns
  unfolding in_block
  in-block [] i n ns e =
      let z : ◌≡◌ {A = ℕ} 0 1 = cc in
      absurd (omega arith)
  in-block (d ∷ b) i n ns e = go (same d.name i) (in-block b i n ns) e
    where
      go : (t : Bool) → (in_block same b i ≡ Some n → n ∈ before b ns) → cond t (Some d.slot) (in_block same b i) ≡ Some n → n ∈ (d.slot ∷ before b ns)
      go true r f =
          let z : n ≡ d.slot = cc in
          here z
      go false r f = there (r f)

  sought-shown : (bs : List (List Declared)) (i n : ℕ) → sought same bs i ≡ Some n → n ∈ shown bs
  unfolding sought shown
  sought-shown [] i n e =
      let z : ◌≡◌ {A = ℕ} 0 1 = cc in
      absurd (omega arith)
  sought-shown (b ∷ bs) i n e = go (in_block same b i) refl (sought-shown bs i n) e
    where
      go : (x : Option ℕ) → in_block same b i ≡ x → (sought same bs i ≡ Some n → n ∈ shown bs) → elim x [ None ↦ sought same bs i | Some k ↦ Some k ] ≡ Some n → n ∈ before b (shown bs)
      go None f r e = under b (r e)
      go (Some k) f r e = in-block b i n (shown bs) (f ∙ e)

-- ---- calls

-- a call of function g with n arguments, as many as its parameters
record Calls (hs : List Head) (g n : ℕ) : Type 0 where
  below : g < length (arities hs)
  arity : get_or (arities hs) g 0 ≡ n

right-count : (m n i : ℕ) → when (not (eqb m n)) i ≡ [] → m ≡ n
right-count m n i h = go (eqb m n) refl h
  where
    go : (b : Bool) → eqb m n ≡ b → when (not b) i ≡ [] → m ≡ n
    go true e f = eqb-true m n e
    go false e f =
        let z : ◌≡◌ {A = ℕ} 0 1 = cc in
        absurd (omega arith)

module _ (same : ℕ → ℕ → Bool) where
  -- a call that is found, and that rule 7 does not mind
  well-called : (hs : List Head) (i n g : ℕ) → function_of same hs i ≡ Some g → wrong (arity_of same hs i) i n ≡ [] → Calls hs g n
  unfolding function_of arity_of wrong
  well-called [] i n g e h =
      let z : ◌≡◌ {A = ℕ} 0 1 = cc in
      absurd (omega arith)
  well-called (x ∷ hs) i n g e h = go (same x.name i) (function_of same hs i) (λ k f v. well-called hs i n k f v) e h
    where
      go : (b : Bool) (o : Option ℕ) → ((k : ℕ) → o ≡ Some k → wrong (arity_of same hs i) i n ≡ [] → Calls hs k n)
          → cond b (Some 0) (elim o [ None ↦ None | Some k ↦ Some (suc k) ]) ≡ Some g → wrong (cond b (Some x.arity) (arity_of same hs i)) i n ≡ [] → Calls (x ∷ hs) g n
      go true o f e h =
          let z : 0 ≡ g = cc in
          subst (λ (k : ℕ). Calls (x ∷ hs) k n) z (record { below = omega arith; arity = right-count x.arity n i h })
      go false None f e h =
          let z : ◌≡◌ {A = ℕ} 0 1 = cc in
          absurd (omega arith)
      go false (Some k) f e h =
          let z : suc k ≡ g = cc in
          let c = f k refl h in
          subst (λ (j : ℕ). Calls (x ∷ hs) j n) z (record { below = omega (arith, c.below); arity = c.arity })

-- ---- events

-- `counts`: how many parameters each function has; `means i`: what the name at token i means
module _ (counts : List ℕ) (means : ℕ → ℕ) where
  unfoldable pub Fits : Scope → Event → Type 0
  Fits s (function i) = Unit {0}
  Fits s (parameter i) = (means i ≡ s.next) × (s.next < most_declarations)
  Fits s (thing d i) = Unit {0}
  Fits s opens = Unit {0}
  Fits s closes = Unit {0}
  Fits s (declares i) = (means i ≡ s.next) × (s.next < most_declarations)
  Fits s (uses i) = (means i < s.next) × (means i ∈ shown s.blocks)
  Fits s (calls i n) = (means i < length counts) × (get_or counts (means i) 0 ≡ n)
  Fits s (ends i b) = Unit {0}

  -- the count of declarations stays within the limit
  pub next-few : (s : Scope) (e : Event) → s.next ≤ most_declarations → Fits s e → (entered s e).next ≤ most_declarations
  unfolding Fits entered
  next-few s (function i) h f = omega arith
  next-few s (parameter i) h f = omega (arith, f.1)
  next-few s (thing d i) h f = h
  next-few s opens h f = h
  next-few s closes h f = h
  next-few s (declares i) h f = omega (arith, f.1)
  next-few s (uses i) h f = h
  next-few s (calls i n) h f = h
  next-few s (ends i b) h f = h

-- the slots that can be seen are below the next one, and this is the count of the function's declarations
record Kept (s : Scope) (c : Tally) : Type 0 where
  low : (n : ℕ) → n ∈ shown s.blocks → n < s.next
  next : s.next ≡ c.declarations

one_more : (i n : ℕ) (bs : List (List Declared)) → ((k : ℕ) → k ∈ shown bs → k < n) → (k : ℕ) → k ∈ shown (added i n bs) → k < suc n
one_more i n bs f k h = go (subst (λ (ns : List ℕ). k ∈ ns) (shown-added i n bs) h)
  where
    go : k ∈ (n ∷ shown bs) → k < suc n
    go (here e) = omega (arith, e)
    go (there m) = omega (arith, f k m)

kept_step : (s : Scope) (c : Tally) (e : Event) → Kept s c → Kept (entered s e) (counted c e)
unfolding entered counted shown
kept_step s c (function i) k = record { low = λ n h. absurd (not-nil h); next = refl }
kept_step s c (parameter i) k = record { low = one_more i s.next s.blocks k.low; next = ap suc k.next }
kept_step s c (thing d i) k = k
kept_step s c opens k = record { low = k.low; next = k.next }
kept_step s c closes k = record { low = λ n h. k.low n (under-outer s.blocks h); next = k.next }
kept_step s c (declares i) k = record { low = one_more i s.next s.blocks k.low; next = ap suc k.next }
kept_step s c (uses i) k = k
kept_step s c (calls i n) k = k
kept_step s c (ends i b) k = k

next_low : (s : Scope) (c : Tally) → Kept s c → leb most_declarations c.declarations ≡ false → s.next < most_declarations
next_low s c k e = omega (arith, k.next, leb-false most_declarations c.declarations e)

module _ (same : ℕ → ℕ → Bool) (hs : List Head) (means : ℕ → ℕ) where
  found : (o : Option ℕ) (i : ℕ) → unless_found o i ≡ [] → ((n : ℕ) → o ≡ Some n → means i ≡ n) → o ≡ Some (means i)
  found None i u f =
      let z : ◌≡◌ {A = ℕ} 0 1 = cc in
      absurd (omega arith)
  found (Some n) i u f = ap Some (sym (f n refl))

  fits-event : (s : Scope) (c : Tally) (e : Event) → Kept s c → Says same hs means s e
      → misnamed_at same s e ≡ [] → uncalled same hs e ≡ [] → miscounted same hs e ≡ [] → over c e ≡ [] → Fits (arities hs) means s e
  unfolding Says on_name misnamed uncalled miscounted over Fits
  fits-event s c (function i) k m u v w h = tt
  fits-event s c (parameter i) k m u v w h =
      let x = leb most_parameters c.parameters in
      let y = leb most_declarations c.declarations in
      (m, next_low s c k (or_right x y (not-when (x || y) i h)))
  fits-event s c (thing d i) k m u v w h = tt
  fits-event s c opens k m u v w h = tt
  fits-event s c closes k m u v w h = tt
  fits-event s c (declares i) k m u v w h = (m, next_low s c k (not-when (leb most_declarations c.declarations) i h))
  fits-event s c (uses i) k m u v w h =
      let x = sought-shown same s.blocks i (means i) (found (sought same s.blocks i) i u m) in
      (k.low (means i) x, x)
  fits-event s c (calls i n) k m u v w h =
      let x = well-called same hs i n (means i) (found (function_of same hs i) i v m) w in
      (x.below, x.arity)
  fits-event s c (ends i b) k m u v w h = tt

  all_fit : (s : Scope) (c : Tally) {es : List Event} → Kept s c → Each (Says same hs means) s es
      → scan entered (misnamed_at same) s es ≡ [] → on (uncalled same hs) es ≡ [] → on (miscounted same hs) es ≡ [] → scan counted over c es ≡ [] → Each (Fits (arities hs) means) s es
  unfolding scan on
  all_fit s c k done u v w h = done
  all_fit s c k (also {e = e} m r) u v w h =
      also
      (fits-event s c e k m (nil-left (misnamed_at same s e) _ u) (nil-left (uncalled same hs e) _ v) (nil-left (miscounted same hs e) _ w) (nil-left (over c e) _ h))
      (all_fit (entered s e) (counted c e) (kept_step s c e k) r
      (nil-right (misnamed_at same s e) _ u) (nil-right (uncalled same hs e) _ v) (nil-right (miscounted same hs e) _ w) (nil-right (over c e) _ h))

-- so it is in a text that keeps the rules 6, 7 and 10, whatever its tokens meant before
pub names-fit : (same : ℕ → ℕ → Bool) (f : ℕ → ℕ) {lo hi : ℕ} {es : List Event} → Rising lo es hi
    → bad_names_in same es ≡ [] → miscalls same es ≡ [] → too_many es ≡ []
    → Each (Fits (arities (heads es)) (meant f (meanings_in same es))) nowhere es
unfolding shown
names-fit same f {es = es} r six seven ten =
    let vs = bad_variables_in same es in
    let us = on (uncalled same (heads es)) es in
    all_fit same (heads es) (meant f (meanings_in same es)) nowhere (tally 0 0 0) (record { low = λ n h. absurd (not-nil h); next = refl })
    (one-meaning same f r) (nil-left vs _ six) (nil-left us _ (nil-right vs _ six)) seven ten
