-- Marked functions: the calls that are still to be followed, and what follows where none is left.
use Prim.Native.Nat.{ℕ, zero, suc, ◌+◌, ◌≤◌, ◌<◌}
use mathlib.Core.Path.{◌≡◌, refl, sym, ap, subst, ◌∙◌}
use mathlib.Core.Bool.{Bool, true, false, cond}
use mathlib.Core.List.Memᴰ
use mathlib.Core.List.{List, [], ◌∷◌, ◌++◌, Memᴰ, map}
use mathlib.Core.Logic.{◌⊎◌, inl, inr}
use Rattle.std.specs.Prelude.{Option, None, Some}
use native.Mathlib.Omega.{arith}
use native.Mathlib.Decide.{ℕ_discrete}
use lib.ListN.{length, get_or, set, length-set}
use lib.Seq.{get_or-set_same, get_or-set_other}
use lib.Dec.{eqb}
use Rattle.events.specs.Event.{Event, function, parameter, thing, opens, closes, declares, uses, calls, ends}
use Rattle.events.specs.Read.{as_event}
use Rattle.events.specs.declared.event.Event as C
use Rattle.text_rules.specs.Scan.{scan}
use Rattle.text_rules.specs.Rules.{Head, function_of}
use Rattle.text_rules.proofs.Scans.{rest, rest_more, rest-none}
use Rattle.remarks.specs.Remarks.{Call, begun, call_to, called_by}
use Rattle.remarks.specs.Words.{Leads, here, further}
use Rattle.remarks.specs.Steps.{unmarked, fresh, calls_in, Marks}

pub clash : {b : Bool} → b ≡ true → b ≡ false → ⊥
clash e f = let z : ◌≡◌ {A = ℕ} 0 1 = cc in omega arith

-- ---- the first fresh callee of two lists of calls

pub fresh-skip : (l : List ℕ) (a b : List Call) → fresh l a ≡ None → fresh l (a ++ b) ≡ fresh l b
unfolding fresh
fresh-skip l [] b e = refl
fresh-skip l (c ∷ a) b e = go (unmarked l c.caller) (unmarked l c.callee) (fresh-skip l a b) e
  where
    go : (x y : Bool) → (fresh l a ≡ None → fresh l (a ++ b) ≡ fresh l b)
        → ◌≡◌ {A = Option ℕ} (elim x [ true ↦ fresh l a | false ↦ elim y [ true ↦ Some c.callee | false ↦ fresh l a ] ]) None
        → elim x [ true ↦ fresh l (a ++ b) | false ↦ elim y [ true ↦ Some c.callee | false ↦ fresh l (a ++ b) ] ] ≡ fresh l b
    go true y f e = f e
    go false true f e = absurd (let z : ◌≡◌ {A = ℕ} 0 1 = cc in omega arith)
    go false false f e = f e

pub fresh-stop : (l : List ℕ) (a b : List Call) (g : ℕ) → fresh l a ≡ Some g → fresh l (a ++ b) ≡ Some g
unfolding fresh
fresh-stop l [] b g e = absurd (let z : ◌≡◌ {A = ℕ} 0 1 = cc in omega arith)
fresh-stop l (c ∷ a) b g e = go (unmarked l c.caller) (unmarked l c.callee) (fresh-stop l a b g) e
  where
    go : (x y : Bool) → (fresh l a ≡ Some g → fresh l (a ++ b) ≡ Some g)
        → ◌≡◌ {A = Option ℕ} (elim x [ true ↦ fresh l a | false ↦ elim y [ true ↦ Some c.callee | false ↦ fresh l a ] ]) (Some g)
        → ◌≡◌ {A = Option ℕ} (elim x [ true ↦ fresh l (a ++ b) | false ↦ elim y [ true ↦ Some c.callee | false ↦ fresh l (a ++ b) ] ]) (Some g)
    go true y f e = f e
    go false true f e = e
    go false false f e = f e

-- ---- the walk over the events

module _ (same : ℕ → ℕ → Bool) (hs : List Head) (l : List ℕ) (es : List C.Event) where
  -- what is still to be found, from event i on, where f functions have begun
  pub fresh_from : ℕ → ℕ → Option ℕ
  fresh_from f i = fresh l (scan begun (called_by same hs) f (rest es i))

  pub fresh_start : fresh_from 0 0 ≡ fresh l (calls_in same (map as_event es) hs)
  unfolding fresh_from
  fresh_start = refl

  opened : (f i : ℕ) {e : C.Event} → i < length es → e ≡ get_or es i C.TheVariants.Opens → fresh_from f i ≡ fresh l (called_by same hs f (as_event e) ++ scan begun (called_by same hs) (begun f (as_event e)) (rest es (i + 1)))
  unfolding fresh_from scan
  opened f i lt x = rw x (ap (λ (z : List Event). fresh l (scan begun (called_by same hs) f z)) (rest_more es i C.TheVariants.Opens lt))

  pub fresh-turn : (f i : ℕ) {e : C.Event} {f' : ℕ} → i < length es → e ≡ get_or es i C.TheVariants.Opens → None ≡ fresh l (called_by same hs f (as_event e)) → f' ≡ begun f (as_event e) → fresh_from f' (i + 1) ≡ fresh_from f i
  unfolding fresh_from
  fresh-turn f i {e} {f'} lt x y z =
      rw z
      (sym (opened f i lt x ∙ fresh-skip l (called_by same hs f (as_event e)) (scan begun (called_by same hs) (begun f (as_event e)) (rest es (i + 1))) (sym y)))

  pub fresh-found : (f i g : ℕ) {e : C.Event} → i < length es → e ≡ get_or es i C.TheVariants.Opens → Some g ≡ fresh l (called_by same hs f (as_event e)) → Some g ≡ fresh_from f i
  fresh-found f i g {e} lt x y =
      sym (opened f i lt x ∙ fresh-stop l (called_by same hs f (as_event e)) (scan begun (called_by same hs) (begun f (as_event e)) (rest es (i + 1))) g (sym y))

  pub fresh-end : (f i : ℕ) → length es ≤ i → fresh_from f i ≡ None
  unfolding fresh_from scan fresh
  fresh-end f i le = ap (λ (z : List Event). fresh l (scan begun (called_by same hs) f z)) (rest-none es i le)

pub begun-less : (f : ℕ) (e : Event) → begun f e ≤ suc f
unfolding begun
begun-less f (function i) = omega arith
begun-less f (parameter i) = omega arith
begun-less f (thing d i) = omega arith
begun-less f opens = omega arith
begun-less f closes = omega arith
begun-less f (declares i) = omega arith
begun-less f (uses i) = omega arith
begun-less f (calls i m) = omega arith
begun-less f (ends i b) = omega arith

-- ---- what a fresh callee is

-- g is not marked, and one that is marked calls it
pub record Fresh (l : List ℕ) (cs : List Call) (g : ℕ) : Type 0 where
  pub call : Call
  pub among : Memᴰ call cs
  pub from : unmarked l call.caller ≡ false
  pub to : call.callee ≡ g
  pub free : unmarked l g ≡ true

pub is-fresh : (l : List ℕ) (cs : List Call) (g : ℕ) → fresh l cs ≡ Some g → Fresh l cs g
unfolding fresh
is-fresh l [] g e = absurd (let z : ◌≡◌ {A = ℕ} 0 1 = cc in omega arith)
is-fresh l (c ∷ cs) g e = go (unmarked l c.caller) refl (unmarked l c.callee) refl (is-fresh l cs g) e
  where
    later : Fresh l cs g → Fresh l (c ∷ cs) g
    later f = record { call = f.call; among = Memᴰ.tail f.among; from = f.from; to = f.to; free = f.free }

    go : (x : Bool) → unmarked l c.caller ≡ x → (y : Bool) → unmarked l c.callee ≡ y → (fresh l cs ≡ Some g → Fresh l cs g)
        → elim x [ true ↦ fresh l cs | false ↦ elim y [ true ↦ Some c.callee | false ↦ fresh l cs ] ] ≡ Some g
        → Fresh l (c ∷ cs) g
    go true p y q f e = later (f e)
    go false p true q f e = let z : c.callee ≡ g = cc in record { call = c; among = Memᴰ.head refl; from = p; to = z; free = subst (λ (x : ℕ). unmarked l x ≡ true) z q }
    go false p false q f e = later (f e)

-- where none is left, what a marked function calls is marked
pub closed : (l : List ℕ) (cs : List Call) → fresh l cs ≡ None → (c : Call) → Memᴰ c cs → unmarked l c.caller ≡ false → unmarked l c.callee ≡ false
unfolding fresh
closed l [] e c m h = absurd (Memᴰ.not-nil m)
closed l (d ∷ cs) e c m h = go (unmarked l d.caller) refl (unmarked l d.callee) refl (closed l cs) e m
  where
    go : (x : Bool) → unmarked l d.caller ≡ x → (y : Bool) → unmarked l d.callee ≡ y → (fresh l cs ≡ None → (c : Call) → Memᴰ c cs → unmarked l c.caller ≡ false → unmarked l c.callee ≡ false)
        → ◌≡◌ {A = Option ℕ} (elim x [ true ↦ fresh l cs | false ↦ elim y [ true ↦ Some d.callee | false ↦ fresh l cs ] ]) None
        → Memᴰ c (d ∷ cs) → unmarked l c.callee ≡ false
    go true p y q f e (Memᴰ.head z) = absurd (clash p (subst (λ (x : Call). unmarked l x.caller ≡ false) z h))
    go true p y q f e (Memᴰ.tail m) = f e c m h
    go false p true q f e m = absurd (let z : ◌≡◌ {A = ℕ} 0 1 = cc in omega arith)
    go false p false q f e (Memᴰ.head z) = subst (λ (x : Call). unmarked l x.callee ≡ false) (sym z) q
    go false p false q f e (Memᴰ.tail m) = f e c m h

-- a callee is one of the functions
module _ (same : ℕ → ℕ → Bool) where
  number-below : (hs : List Head) (i g : ℕ) → function_of same hs i ≡ Some g → g < length hs
  unfolding function_of
  number-below [] i g e = absurd (let z : ◌≡◌ {A = ℕ} 0 1 = cc in omega arith)
  number-below (x ∷ hs) i g e = go (same x.name i) (function_of same hs i) (number-below hs i) e
    where
      go : (b : Bool) (o : Option ℕ) → ((g : ℕ) → o ≡ Some g → g < length hs) → ◌≡◌ {A = Option ℕ} (cond b (Some 0) (elim o [ None ↦ None | Some n ↦ Some (suc n) ])) (Some g) → g < suc (length hs)
      go true o f e = let z : 0 ≡ g = cc in omega arith
      go false None f e = absurd (let z : ◌≡◌ {A = ℕ} 0 1 = cc in omega arith)
      go false (Some n) f e = let z : suc n ≡ g = cc in omega (arith, f n refl)

  module _ (hs : List Head) where
    called-below : (f : ℕ) (e : Event) (c : Call) → Memᴰ c (called_by same hs f e) → c.callee < length hs
    unfolding called_by
    called-below f (function i) c m = absurd (Memᴰ.not-nil m)
    called-below f (parameter i) c m = absurd (Memᴰ.not-nil m)
    called-below f (thing d i) c m = absurd (Memᴰ.not-nil m)
    called-below f opens c m = absurd (Memᴰ.not-nil m)
    called-below f closes c m = absurd (Memᴰ.not-nil m)
    called-below f (declares i) c m = absurd (Memᴰ.not-nil m)
    called-below f (uses i) c m = absurd (Memᴰ.not-nil m)
    called-below f (calls i k) c m = go (function_of same hs i) refl m
      where
        go : (x : Option ℕ) → function_of same hs i ≡ x → Memᴰ c (call_to f x) → c.callee < length hs
        go None e m = absurd (Memᴰ.not-nil m)
        go (Some g) e m = subst (λ (x : Call). x.callee < length hs) (sym (Memᴰ.eq_of_singleton m)) (number-below hs i g e)
    called-below f (ends i b) c m = absurd (Memᴰ.not-nil m)

    pub callee-below : (f : ℕ) (es : List Event) (c : Call) → Memᴰ c (scan begun (called_by same hs) f es) → c.callee < length hs
    unfolding scan
    callee-below f [] c m = absurd (Memᴰ.not-nil m)
    callee-below f (e ∷ es) c m = go (Memᴰ.append_cases (called_by same hs f e) m) (callee-below (begun f e) es c)
      where
        go : Memᴰ c (called_by same hs f e) ⊎ Memᴰ c (scan begun (called_by same hs) (begun f e) es) → (Memᴰ c (scan begun (called_by same hs) (begun f e) es) → c.callee < length hs) → c.callee < length hs
        go (inl m) g = called-below f e c m
        go (inr m) g = g m

-- the one that is still to be followed: it is fresh, and a function
pub record Follows (same : ℕ → ℕ → Bool) (l : List ℕ) (es : List Event) (hs : List Head) (g : ℕ) : Type 0 where
  pub is : Fresh l (calls_in same es hs) g
  pub below : g < length hs

pub follows : {same : ℕ → ℕ → Bool} {l : List ℕ} {es : List Event} {hs : List Head} {g : ℕ} → Some g ≡ fresh l (calls_in same es hs) → Follows same l es hs g
follows {same} {l} {es} {hs} {g} e =
    let f = is-fresh l (calls_in same es hs) g (sym e) in
    record { is = f; below = subst (λ (x : ℕ). x < length hs) f.to (callee-below same hs 0 es f.call f.among) }

-- ---- how many are not marked

pub zeros : List ℕ → ℕ
zeros [] = 0
zeros (x ∷ l) = elim (eqb x 0) [ true ↦ suc (zeros l) | false ↦ zeros l ]

pub fewer : (l : List ℕ) (g : ℕ) → g < length l → unmarked l g ≡ true → zeros (set l g 1) < zeros l
unfolding zeros
fewer [] g h e = absurd (omega arith)
fewer (x ∷ l) zero h e = go (eqb x 0) e
  where
    go : (b : Bool) → b ≡ true → zeros l < elim b [ true ↦ suc (zeros l) | false ↦ zeros l ]
    go true e = omega arith
    go false e = absurd (clash e refl)
fewer (x ∷ l) (suc g) h e = go (eqb x 0) (fewer l g (omega arith) e)
  where
    go : (b : Bool) → zeros (set l g 1) < zeros l → elim b [ true ↦ suc (zeros (set l g 1)) | false ↦ zeros (set l g 1) ] < elim b [ true ↦ suc (zeros l) | false ↦ zeros l ]
    go true f = omega arith
    go false f = f

-- ---- marking

-- main is marked, and nothing that calls do not lead to
pub record Marking (cs : List Call) (main : ℕ) (l₀ l : List ℕ) : Type 0 where
  pub sized : length l ≡ length l₀
  pub begins : unmarked l main ≡ false
  pub led : (g : ℕ) → unmarked l g ≡ false → Leads cs main g

-- one more mark
marked-or : (l : List ℕ) (k g : ℕ) → unmarked (set l k 1) g ≡ false → (g ≡ k) ⊎ (unmarked l g ≡ false)
marked-or l k g e = go (ℕ_discrete g k)
  where
    go : Dec (g ≡ k) → (g ≡ k) ⊎ (unmarked l g ≡ false)
    go (yes q) = inl q
    go (no q) = inr (ap (λ (x : ℕ). eqb x 0) (sym (get_or-set_other l k g 1 0 q)) ∙ e)

pub stays-marked : (l : List ℕ) (k g : ℕ) → k < length l → unmarked l g ≡ false → unmarked (set l k 1) g ≡ false
stays-marked l k g h e = go (ℕ_discrete g k)
  where
    go : Dec (g ≡ k) → unmarked (set l k 1) g ≡ false
    go (yes q) = subst (λ (x : ℕ). unmarked (set l k 1) x ≡ false) (sym q) (ap (λ (x : ℕ). eqb x 0) (get_or-set_same l k 1 0 h))
    go (no q) = ap (λ (x : ℕ). eqb x 0) (get_or-set_other l k g 1 0 q) ∙ e

pub marking-start : (cs : List Call) (main : ℕ) (l : List ℕ) → main < length l → ((g : ℕ) → get_or l g 0 ≡ 0) → Marking cs main (set l main 1) (set l main 1)
marking-start cs main l h z = record {
  sized = refl;
  begins = ap (λ (x : ℕ). eqb x 0) (get_or-set_same l main 1 0 h);
  led = λ g q. go g (marked-or l main g q);
}
  where
    go : (g : ℕ) → (g ≡ main) ⊎ (unmarked l g ≡ false) → Leads cs main g
    go g (inl q) = subst (λ (x : ℕ). Leads cs main x) (sym q) here
    go g (inr q) = absurd (clash (ap (λ (x : ℕ). eqb x 0) (z g)) q)

pub marking-turn : {cs : List Call} {main : ℕ} {l₀ l : List ℕ} {g : ℕ} → Marking cs main l₀ l → Fresh l cs g → g < length l → Marking cs main l₀ (set l g 1)
marking-turn {cs} {main} {l₀} {l} {g} w f h = record {
  sized = length-set l g 1 ∙ w.sized;
  begins = stays-marked l g main h w.begins;
  led = λ k q. go k (marked-or l g k q);
}
  where
    go : (k : ℕ) → (k ≡ g) ⊎ (unmarked l k ≡ false) → Leads cs main k
    go k (inl q) = subst (λ (x : ℕ). Leads cs main x) (f.to ∙ sym q) (further (w.led f.call.caller f.from) f.among)
    go k (inr q) = w.led k q

pub leads-marked : {cs : List Call} {main : ℕ} (l : List ℕ) → fresh l cs ≡ None → unmarked l main ≡ false → (g : ℕ) → Leads cs main g → unmarked l g ≡ false
leads-marked l e h g here = h
leads-marked {cs} l e h g (further {c = c} p m) = closed l cs e c m (leads-marked l e h c.caller p)

pub marking-end : {cs : List Call} {main : ℕ} {l₀ l : List ℕ} → Marking cs main l₀ l → None ≡ fresh l cs → Marks cs main l
marking-end {l = l} w e = record { led = w.led; every = leads-marked l (sym e) w.begins }
