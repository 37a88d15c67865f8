-- A text that keeps rule 10 has at most 16 functions, with at most 4 parameters each; and with rule 8, main is one of them, with none.
use Prim.Native.Nat.{ℕ, suc, ◌+◌, ◌≤◌, ◌<◌}
use mathlib.Core.Path.{◌≡◌, refl}
use mathlib.Core.Bool.{Bool, true, false, cond, ◌||◌}
use mathlib.Core.List.{List, [], ◌∷◌, ◌++◌, map}
use native.Mathlib.Omega.{arith}
use borrow.Author.Tests.{leb-false, ltb-false}
use lib.ListN.{length, get_or}
use lib.Dec.{leb, ltb}
use Rattle.events.specs.Event.{Event, function, parameter, thing, opens, closes, declares, uses, calls, ends}
use Rattle.text_rules.specs.Scan.{scan, when}
use Rattle.text_rules.specs.Rules.{Head, heads, parameters, Tally, tally, counted, over, too_many, with_parameters, mains, bad_main}
use Rattle.text_rules.specs.Resolve.{main_of}

-- ---- lists that are empty

pub nil-left : {A : Type 0} (xs ys : List A) → xs ++ ys ≡ [] → xs ≡ []
nil-left [] ys e = refl
nil-left (x ∷ xs) ys e =
    let z : ◌≡◌ {A = ℕ} 0 1 = cc in
    absurd (omega arith)

pub nil-right : {A : Type 0} (xs ys : List A) → xs ++ ys ≡ [] → ys ≡ []
nil-right [] ys e = e
nil-right (x ∷ xs) ys e =
    let z : ◌≡◌ {A = ℕ} 0 1 = cc in
    absurd (omega arith)

pub not-when : (b : Bool) (i : ℕ) → when b i ≡ [] → b ≡ false
not-when true i e =
    let z : ◌≡◌ {A = ℕ} 0 1 = cc in
    absurd (omega arith)
not-when false i e = refl

pub or_left : (a b : Bool) → a || b ≡ false → a ≡ false
or_left true b e =
    let z : ◌≡◌ {A = ℕ} 0 1 = cc in
    absurd (omega arith)
or_left false b e = refl

pub or_right : (a b : Bool) → a || b ≡ false → b ≡ false
or_right true b e =
    let z : ◌≡◌ {A = ℕ} 0 1 = cc in
    absurd (omega arith)
or_right false b e = e

-- ---- counts

-- how many parameters each function has
abbrev pub arities : List Head → List ℕ
arities hs = map (λ h. h.arity) hs

heads-few : (c : Tally) (es : List Event) → c.functions ≤ 16 → scan counted over c es ≡ [] → c.functions + length (heads es) ≤ 16
unfolding scan counted over heads
heads-few c [] k h = omega arith
heads-few c (function i ∷ es) k h =
    let v = leb-false 16 c.functions (not-when (leb 16 c.functions) i (nil-left (when (leb 16 c.functions) i) _ h)) in
    omega (arith, heads-few (tally (suc c.functions) 0 0) es (omega (arith, v)) (nil-right (when (leb 16 c.functions) i) _ h))
heads-few c (parameter i ∷ es) k h = heads-few (tally c.functions (suc c.parameters) (suc c.declarations)) es k (nil-right (when (leb 4 c.parameters || leb 16 c.declarations) i) _ h)
heads-few c (thing d i ∷ es) k h = heads-few c es k h
heads-few c (opens ∷ es) k h = heads-few c es k h
heads-few c (closes ∷ es) k h = heads-few c es k h
heads-few c (declares i ∷ es) k h = heads-few (tally c.functions c.parameters (suc c.declarations)) es k (nil-right (when (leb 16 c.declarations) i) _ h)
heads-few c (uses i ∷ es) k h = heads-few c es k h
heads-few c (calls i n ∷ es) k h = heads-few c es k h
heads-few c (ends i b ∷ es) k h = heads-few c es k h

-- a text that keeps rule 10 has at most 16 functions
pub few-functions : (es : List Event) → too_many es ≡ [] → length (heads es) ≤ 16
few-functions es ten = omega (arith, heads-few (tally 0 0 0) es (omega arith) ten)

parameters-few : (c : Tally) (es : List Event) → c.parameters ≤ 4 → scan counted over c es ≡ [] → c.parameters + parameters es ≤ 4
unfolding scan counted over parameters
parameters-few c [] k h = omega arith
parameters-few c (function i ∷ es) k h = omega arith
parameters-few c (parameter i ∷ es) k h =
    let t = leb 4 c.parameters || leb 16 c.declarations in
    let v = leb-false 4 c.parameters (or_left (leb 4 c.parameters) (leb 16 c.declarations) (not-when t i (nil-left (when t i) _ h))) in
    omega (arith, parameters-few (tally c.functions (suc c.parameters) (suc c.declarations)) es (omega (arith, v)) (nil-right (when t i) _ h))
parameters-few c (thing d i ∷ es) k h = omega arith
parameters-few c (opens ∷ es) k h = omega arith
parameters-few c (closes ∷ es) k h = omega arith
parameters-few c (declares i ∷ es) k h = omega arith
parameters-few c (uses i ∷ es) k h = omega arith
parameters-few c (calls i n ∷ es) k h = omega arith
parameters-few c (ends i b ∷ es) k h = omega arith

-- no function has more than 4 parameters
abbrev pub Modest : List Head → Type 0
Modest [] = Unit {0}
Modest (h ∷ hs) = (h.arity ≤ 4) × Modest hs

pub heads-modest : (c : Tally) (es : List Event) → scan counted over c es ≡ [] → Modest (heads es)
unfolding scan counted over heads
heads-modest c [] h = tt
heads-modest c (function i ∷ es) h =
    let v = nil-right (when (leb 16 c.functions) i) _ h in
    (omega (arith, parameters-few (tally (suc c.functions) 0 0) es (omega arith) v), heads-modest (tally (suc c.functions) 0 0) es v)
heads-modest c (parameter i ∷ es) h = heads-modest (tally c.functions (suc c.parameters) (suc c.declarations)) es (nil-right (when (leb 4 c.parameters || leb 16 c.declarations) i) _ h)
heads-modest c (thing d i ∷ es) h = heads-modest c es h
heads-modest c (opens ∷ es) h = heads-modest c es h
heads-modest c (closes ∷ es) h = heads-modest c es h
heads-modest c (declares i ∷ es) h = heads-modest (tally c.functions c.parameters (suc c.declarations)) es (nil-right (when (leb 16 c.declarations) i) _ h)
heads-modest c (uses i ∷ es) h = heads-modest c es h
heads-modest c (calls i n ∷ es) h = heads-modest c es h
heads-modest c (ends i b ∷ es) h = heads-modest c es h

-- ---- main

-- where rule 8 is kept, main is one of the functions
pub main-lt : (is_main : ℕ → Bool) (end : ℕ) (hs : List Head) → bad_main end (mains is_main hs) ≡ [] → main_of is_main hs < length hs
unfolding mains main_of bad_main
main-lt is_main end [] e =
    let z : ◌≡◌ {A = ℕ} 0 1 = cc in
    absurd (omega arith)
main-lt is_main end (h ∷ hs) e = go (is_main h.name) (λ f. main-lt is_main end hs f) e
  where
    go : (b : Bool) → (bad_main end (mains is_main hs) ≡ [] → main_of is_main hs < length hs) → bad_main end (cond b (h ∷ mains is_main hs) (mains is_main hs)) ≡ [] → cond b 0 (suc (main_of is_main hs)) < suc (length hs)
    go true k e = omega arith
    go false k e = omega (arith, k e)

-- and it has no parameters
pub main-bare : (is_main : ℕ → Bool) (end : ℕ) (hs : List Head) → bad_main end (mains is_main hs) ≡ [] → get_or (arities hs) (main_of is_main hs) 0 ≡ 0
unfolding mains main_of bad_main with_parameters
main-bare is_main end [] e = refl
main-bare is_main end (h ∷ hs) e = go (is_main h.name) (λ f. main-bare is_main end hs f) e
  where
    go : (b : Bool) → (bad_main end (mains is_main hs) ≡ [] → get_or (arities hs) (main_of is_main hs) 0 ≡ 0)
        → bad_main end (cond b (h ∷ mains is_main hs) (mains is_main hs)) ≡ [] → get_or (arities (h ∷ hs)) (cond b 0 (suc (main_of is_main hs))) 0 ≡ 0
    go true k e = omega (arith, ltb-false 0 h.arity (not-when (ltb 0 h.arity) h.name (nil-left (when (ltb 0 h.arity) h.name) _ e)))
    go false k e = k e
