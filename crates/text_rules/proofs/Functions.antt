-- Laws of the functions in a list: the first one with a name, main, and what one more function adds.
use Prim.Native.Nat.{ℕ, suc, ◌+◌, ◌≤◌, ◌<◌}
use mathlib.Core.Path.{◌≡◌, refl, sym, ap, ◌∙◌}
use mathlib.Core.Bool.{Bool, true, false, cond}
use mathlib.Core.List.{List, [], ◌∷◌, ◌++◌, append-nil, map}
use Rattle.std.specs.Prelude.{Option, None, Some}
use Rattle.std.specs.List.{position, position_from, find}
use Rattle.std.specs.Option.{option_map, unwrap_or}
use Rattle.std.proofs.lemmas.Iterator.Adapters.{position_from-zero}
use native.Mathlib.Omega.{arith}
use native.Mathlib.Numerals.{add-one}
use lib.ListN.{length, get_or, drop, drop_of_length-le}
use lib.Seq.{drop-cons}
use lib.Dec.{ltb}
use Rattle.text_rules.specs.Scan.{when, least}
use Rattle.text_rules.specs.Rules.{Head, function_of, arity_of, mains, with_parameters, bad_main}
use Rattle.text_rules.specs.Resolve.{main_of}
use Rattle.text_rules.specs.Answers.{as_head, least_with}
use Rattle.text_rules.specs.declared.heads.Head as C
use Rattle.text_rules.proofs.Scans.{with_append, with_none}

-- ---- the first function whose name has p

module _ (p : ℕ → Bool) where
  -- its number, which the code counts from i on
  from_is : (l : List C.Head) (i : ℕ) → unwrap_or (position_from (λ (h : C.Head). p h.name) i l) (i + length l) ≡ i + main_of p (map as_head l)
  unfolding main_of
  from_is [] i = refl
  from_is (h ∷ l) i = go (p h.name) (from_is l (i + 1))
    where
      go : (b : Bool) → unwrap_or (position_from (λ (h : C.Head). p h.name) (i + 1) l) (i + 1 + length l) ≡ i + 1 + main_of p (map as_head l)
          → unwrap_or (cond b (Some i) (position_from (λ (h : C.Head). p h.name) (i + 1) l)) (i + suc (length l)) ≡ i + cond b 0 (suc (main_of p (map as_head l)))
      go true e = omega arith
      go false e =
          let z : i + suc (length l) ≡ i + 1 + length l = omega arith in
          rw z (omega (arith, e))

  pub main-position : (l : List C.Head) → unwrap_or (position (λ (h : C.Head). p h.name) l) (length l) ≡ main_of p (map as_head l)
  main-position l =
      let z : 0 + length l ≡ length l = omega arith in
      rw (position_from-zero (λ (h : C.Head). p h.name) l) (ap (unwrap_or (position_from (λ (h : C.Head). p h.name) 0 l)) (sym z) ∙ from_is l 0 ∙ omega arith)

module _ (same : ℕ → ℕ → Bool) (i : ℕ) where
  shifted : Option ℕ → ℕ → Option ℕ
  shifted None k = None
  shifted (Some n) k = Some (k + n)

  function-from : (l : List C.Head) (k : ℕ) → position_from (λ (h : C.Head). same h.name i) k l ≡ shifted (function_of same (map as_head l) i) k
  unfolding function_of shifted
  function-from [] k = refl
  function-from (h ∷ l) k = go (same h.name i) (function_of same (map as_head l) i) (function-from l (k + 1))
    where
      go : (b : Bool) (o : Option ℕ) → position_from (λ (h : C.Head). same h.name i) (k + 1) l ≡ shifted o (k + 1)
          → cond b (Some k) (position_from (λ (h : C.Head). same h.name i) (k + 1) l) ≡ shifted (cond b (Some 0) (elim o [ None ↦ None | Some n ↦ Some (suc n) ])) k
      go true o e = ap Some (omega arith)
      go false None e = e
      go false (Some n) e = e ∙ ap Some (omega arith)

  unshifted : (o : Option ℕ) → shifted o 0 ≡ o
  unfolding shifted
  unshifted None = refl
  unshifted (Some n) = ap Some (omega arith)

  pub function-position : (l : List C.Head) → position (λ (h : C.Head). same h.name i) l ≡ function_of same (map as_head l) i
  function-position l = position_from-zero (λ (h : C.Head). same h.name i) l ∙ function-from l 0 ∙ unshifted (function_of same (map as_head l) i)

  -- its arity
  arity-found : (l : List C.Head) → option_map (λ (h : C.Head). h.arity) (find (λ (h : C.Head). same h.name i) l) ≡ arity_of same (map as_head l) i
  unfolding arity_of
  arity-found [] = refl
  arity-found (h ∷ l) = go (same h.name i) (arity-found l)
    where
      go : (b : Bool) → option_map (λ (h : C.Head). h.arity) (find (λ (h : C.Head). same h.name i) l) ≡ arity_of same (map as_head l) i
          → option_map (λ (h : C.Head). h.arity) (cond b (Some h) (find (λ (h : C.Head). same h.name i) l)) ≡ cond b (Some h.arity) (arity_of same (map as_head l) i)
      go true e = refl
      go false e = e

  pub arity-is : (l : List C.Head) {hs : List Head} {o : Option C.Head} → map as_head l ≡ hs → o ≡ find (λ (h : C.Head). same h.name i) l → option_map (λ (h : C.Head). h.arity) o ≡ arity_of same hs i
  arity-is l e f = ap (option_map (λ (h : C.Head). h.arity)) f ∙ arity-found l ∙ ap (λ (hs : List Head). arity_of same hs i) e

-- ---- main

module _ (p : ℕ → Bool) where
  -- one function's share of the rule
  one_more : (h : Head) (hs : List Head) → with_parameters (mains p (h ∷ hs)) ≡ with_parameters (mains p (h ∷ [])) ++ with_parameters (mains p hs)
  unfolding with_parameters mains
  one_more h hs = go (p h.name)
    where
      go : (b : Bool) → with_parameters (cond b (h ∷ mains p hs) (mains p hs)) ≡ with_parameters (cond b (h ∷ []) []) ++ with_parameters (mains p hs)
      go true = ap (λ (x : List ℕ). x ++ with_parameters (mains p hs)) (sym (append-nil (when (ltb 0 h.arity) h.name)))
      go false = refl

  -- what is left of the functions from function k on
  abbrev left : List C.Head → ℕ → List Head
  left l k = map as_head (drop k l)

  -- what the rule will have found at the end: q is the least token before function k
  pub main_ahead : List C.Head → ℕ → Option ℕ → Option ℕ
  main_ahead l k q = least_with (with_parameters (mains p (left l k))) q

  pub main-start : (l : List C.Head) → main_ahead l 0 None ≡ least (with_parameters (mains p (map as_head l)))
  unfolding main_ahead
  main-start l = with_none (with_parameters (mains p (left l 0)))

  pub main-turn : (l : List C.Head) (k : ℕ) (q : Option ℕ) (d : C.Head) {r : Option ℕ} {h : C.Head} → k < length l → h ≡ get_or l k d → r ≡ least_with (with_parameters (mains p (as_head h ∷ []))) q → main_ahead l (k + 1) r ≡ main_ahead l k q
  unfolding main_ahead
  main-turn l k q d lt x e =
      rw (e, x)
      (sym
      (ap (λ (hs : List C.Head). least_with (with_parameters (mains p (map as_head hs))) q) (drop-cons l k d lt ∙ ap (λ (n : ℕ). get_or l k d ∷ drop n l) (sym (add-one k)))
      ∙ ap (λ (x : List ℕ). least_with x q) (one_more (as_head (get_or l k d)) (left l (k + 1)))
      ∙ with_append (with_parameters (mains p (as_head (get_or l k d) ∷ []))) (with_parameters (mains p (left l (k + 1)))) q))

  pub main-end : (l : List C.Head) (k : ℕ) (q : Option ℕ) → length l ≤ k → main_ahead l k q ≡ q
  unfolding main_ahead with_parameters mains least_with
  main-end l k q le = rw (drop_of_length-le l {i = k} le)

  -- is there a main?
  pub some-main : (end : ℕ) (hs : List Head) → main_of p hs < length hs → bad_main end (mains p hs) ≡ with_parameters (mains p hs)
  unfolding main_of mains bad_main
  some-main end [] lt = absurd (omega arith)
  some-main end (h ∷ hs) lt = go (p h.name) (some-main end hs) lt
    where
      go : (b : Bool) → (main_of p hs < length hs → bad_main end (mains p hs) ≡ with_parameters (mains p hs)) → cond b 0 (suc (main_of p hs)) < suc (length hs) → bad_main end (cond b (h ∷ mains p hs) (mains p hs)) ≡ with_parameters (cond b (h ∷ mains p hs) (mains p hs))
      go true f lt = refl
      go false f lt = f (omega arith)

  no_main : (hs : List Head) → length hs ≤ main_of p hs → mains p hs ≡ []
  unfolding main_of mains
  no_main [] le = refl
  no_main (h ∷ hs) le = go (p h.name) (no_main hs) le
    where
      go : (b : Bool) → (length hs ≤ main_of p hs → mains p hs ≡ []) → suc (length hs) ≤ cond b 0 (suc (main_of p hs)) → cond b (h ∷ mains p hs) (mains p hs) ≡ []
      go true f le = absurd (omega arith)
      go false f le = f (omega arith)

  pub bad-none : (end : ℕ) (hs : List Head) → length hs ≤ main_of p hs → bad_main end (mains p hs) ≡ end ∷ []
  unfolding bad_main
  bad-none end hs le = ap (bad_main end) (no_main hs le)
