-- The walk over the events, and the one over the functions, as each turn leaves them.
use Rattle.std.proofs.Common.{◌≡◌, ℕ, suc, ◌+◌, ◌≤◌, ◌<◌, Bool, true, false, cond, ◌||◌, Option, None, Some, List, [], ◌∷◌, ◌++◌, length, get_or, map, take, drop, refl, sym, ap, ◌∙◌, arith, length-append}
use Rattle.std.specs.List.{list_any}
use Rattle.std.proofs.lemmas.List.{drop_more, drop_all, map_more}
use Rattle.events.specs.Event.{Event, function, parameter, thing, opens, closes, declares, uses, calls, ends}
use Rattle.events.specs.Read.{as_event}
use Rattle.events.specs.declared.event.Event as E
use Rattle.text_rules.specs.Scan as C
use Rattle.text_rules.specs.Scan.{scan, lesser}
use Rattle.text_rules.specs.Rules.{Head, function_of, heads}
use Rattle.text_rules.specs.Names.{Declared, seen, if_found, repeated}
use Rattle.text_rules.specs.Scopes.{Scope, added, outer, entered, nowhere, named_at}
use Rattle.text_rules.specs.Answers.{as_head, least_with}
use Rattle.text_rules.specs.declared.heads.Head as H
use Rattle.text_rules.proofs.Scans.{ahead, ahead-start, ahead-turn, ahead-end, rest, rest_more, rest-none, with_append, with_none}
use Rattle.names.specs.Steps.{wrong, noted, Seen}
use Rattle.names.proofs.Meanings.{noted-append, length-noted}

-- ---- a scope grows by one at each event

pub record Few (k : ℕ) (s : Scope) : Type 0 where
  pub blocks : length s.blocks ≤ k
  pub seen : length (seen s.blocks) ≤ k
  pub next : s.next ≤ k

added-blocks : (i n : ℕ) (bs : List (List Declared)) → length (added i n bs) ≤ length bs + 1
unfolding added
added-blocks i n [] = omega arith
added-blocks i n (b ∷ bs) = omega arith

added-seen : (i n : ℕ) (bs : List (List Declared)) → length (seen (added i n bs)) ≡ length (seen bs) + 1
unfolding added seen
added-seen i n [] = refl
added-seen i n (b ∷ bs) = omega (arith, length-append b (seen bs))

outer-blocks : (bs : List (List Declared)) → length (outer bs) ≤ length bs
unfolding outer
outer-blocks [] = omega arith
outer-blocks (b ∷ bs) = omega arith

outer-seen : (bs : List (List Declared)) → length (seen (outer bs)) ≤ length (seen bs)
unfolding outer seen
outer-seen [] = omega arith
outer-seen (b ∷ bs) = omega (arith, length-append b (seen bs))

pub few-more : {k : ℕ} (s : Scope) (e : Event) → Few k s → Few (k + 1) (entered s e)
unfolding entered seen
few-more s (function i) f = record { blocks = omega arith; seen = omega arith; next = omega arith }
few-more s (parameter i) f = record { blocks = omega (arith, f.blocks, added-blocks i s.next s.blocks); seen = omega (arith, f.seen, added-seen i s.next s.blocks); next = omega (arith, f.next) }
few-more s (thing d i) f = record { blocks = omega (arith, f.blocks); seen = omega (arith, f.seen); next = omega (arith, f.next) }
few-more s opens f = record { blocks = omega (arith, f.blocks); seen = omega (arith, f.seen); next = omega (arith, f.next) }
few-more s closes f = record { blocks = omega (arith, f.blocks, outer-blocks s.blocks); seen = omega (arith, f.seen, outer-seen s.blocks); next = omega (arith, f.next) }
few-more s (declares i) f = record { blocks = omega (arith, f.blocks, added-blocks i s.next s.blocks); seen = omega (arith, f.seen, added-seen i s.next s.blocks); next = omega (arith, f.next) }
few-more s (uses i) f = record { blocks = omega (arith, f.blocks); seen = omega (arith, f.seen); next = omega (arith, f.next) }
few-more s (calls i n) f = record { blocks = omega (arith, f.blocks); seen = omega (arith, f.seen); next = omega (arith, f.next) }
few-more s (ends i b) f = record { blocks = omega (arith, f.blocks); seen = omega (arith, f.seen); next = omega (arith, f.next) }

-- ---- events

module _ (same : ℕ → ℕ → Bool) (hs : List Head) (events : List E.Event) where
  abbrev all_events : List Event
  all_events = map as_event events

  -- the walk stands before event k
  pub record Walk (slots₀ : List ℕ) (s : Scope) (slots : List ℕ) (best : Option ℕ) (k : ℕ) : Type 0 where
    pub few : Few k s
    pub least : ahead entered (wrong same hs) events k s best ≡ C.least (scan entered (wrong same hs) nowhere all_events)
    pub written : noted slots (scan entered (named_at same hs) s (rest events k)) ≡ noted slots₀ (scan entered (named_at same hs) nowhere all_events)
    pub kept : length slots ≡ length slots₀

  pub walk-starts : (slots : List ℕ) → Walk slots nowhere slots None 0
  unfolding seen
  walk-starts slots = record {
    few = record { blocks = omega arith; seen = omega arith; next = omega arith };
    least = ahead-start entered (wrong same hs) events nowhere;
    written = refl;
    kept = refl;
  }

  written-turn :
      (k : ℕ) (slots : List ℕ) (s : Scope) (d : E.Event) {slots' : List ℕ} {e : E.Event} {s' : Scope} → k < length events → e ≡ get_or events k d → s' ≡ entered s (as_event e) → slots' ≡ noted slots (named_at same hs s (as_event e))
      → noted slots' (scan entered (named_at same hs) s' (rest events (k + 1))) ≡ noted slots (scan entered (named_at same hs) s (rest events k))
  unfolding scan
  written-turn k slots s d h x y z =
      rw (z, y, x)
      (sym
      (ap (λ (es : List Event). noted slots (scan entered (named_at same hs) s es)) (rest_more events k d h)
      ∙ noted-append slots (named_at same hs s (as_event (get_or events k d))) (scan entered (named_at same hs) (entered s (as_event (get_or events k d))) (rest events (k + 1)))))

  pub walk_turn :
      {slots₀ slots : List ℕ} {best : Option ℕ} {s : Scope} {k : ℕ} {e : E.Event} {slots' : List ℕ} {best' : Option ℕ} {s' : Scope} (d : E.Event)
      → Walk slots₀ s slots best k
      → k < length events
      → e ≡ get_or events k d
      → Seen (wrong same hs s (as_event e)) (named_at same hs s (as_event e)) best slots best' slots'
      → s' ≡ entered s (as_event e)
      → Walk slots₀ s' slots' best' (k + 1)
  walk_turn {slots = slots} {best = best} {s = s} {k = k} {e = e} d w h x g y = record {
    few = rw y (few-more s (as_event e) w.few);
    least = ahead-turn entered (wrong same hs) events k s best d h x y g.least ∙ w.least;
    written = written-turn k slots s d h x y g.written ∙ w.written;
    kept = ap length g.written ∙ length-noted slots (named_at same hs s (as_event e)) ∙ w.kept;
  }

  pub walk_ends :
      {slots₀ slots : List ℕ} {best : Option ℕ} {s : Scope} {k : ℕ} → Walk slots₀ s slots best k → length events ≤ k
      → Seen (scan entered (wrong same hs) nowhere all_events) (scan entered (named_at same hs) nowhere all_events) None slots₀ best slots
  unfolding scan noted
  walk_ends {slots = slots} {best = best} {s = s} {k = k} w h = record {
    least =
        sym (ahead-end entered (wrong same hs) events k s best h)
        ∙ w.least
        ∙ sym (with_none (scan entered (wrong same hs) nowhere all_events));
    written = sym (ap (λ (es : List Event). noted slots (scan entered (named_at same hs) s es)) (rest-none events k h)) ∙ w.written;
  }

-- ---- functions

module _ (same : ℕ → ℕ → Bool) where
  -- the number of a function is below how many there are
  pub function-below : (hs : List Head) (i n : ℕ) → Some n ≡ function_of same hs i → n < length hs
  unfolding function_of
  function-below [] i n e = cc
  function-below (h ∷ hs) i n e = go (same h.name i) (function_of same hs i) (λ m f. function-below hs i m f) e
    where
      go : (b : Bool) (o : Option ℕ) → ((m : ℕ) → Some m ≡ o → m < length hs) → Some n ≡ cond b (Some 0) (elim o [ None ↦ None | Some m ↦ Some (suc m) ]) → n < suc (length hs)
      go true o f g = let z : n ≡ 0 = cc in omega arith
      go false None f g = cc
      go false (Some m) f g = let z : n ≡ suc m = cc in omega (arith, f m refl, z)

  -- one has the name of token i
  pub if-named : (l : List H.Head) (i j : ℕ) → if_found (function_of same (map as_head l) i) j ≡ cond (list_any (λ (h : H.Head). same h.name i) l) (j ∷ []) []
  unfolding function_of
  if-named [] i j = refl
  if-named (h ∷ l) i j = go (same h.name i) (function_of same (map as_head l) i) (if-named l i j)
    where
      go : (b : Bool) (o : Option ℕ) → if_found o j ≡ cond (list_any (λ (h : H.Head). same h.name i) l) (j ∷ []) []
          → if_found (cond b (Some 0) (elim o [ None ↦ None | Some m ↦ Some (suc m) ])) j ≡ cond (b || list_any (λ (h : H.Head). same h.name i) l) (j ∷ []) []
      go true o e = refl
      go false None e = e
      go false (Some m) e = e

module _ (same : ℕ → ℕ → Bool) (l : List H.Head) where
  -- what will have been found at the end: p is the least token before function k
  pub repeats_ahead : ℕ → Option ℕ → Option ℕ
  repeats_ahead k p = least_with (repeated same (map as_head (take k l)) (map as_head (drop k l))) p

  pub repeats-start : (p : Option ℕ) → repeats_ahead 0 p ≡ least_with (repeated same [] (map as_head l)) p
  unfolding repeats_ahead
  repeats-start p = refl

  repeats-turn :
      (k : ℕ) (p : Option ℕ) (d : H.Head) {q : Option ℕ} → k < length l
      → q ≡ least_with (cond (list_any (λ (h : H.Head). same h.name (get_or l k d).name) (take k l)) ((get_or l k d).name ∷ []) []) p
      → repeats_ahead (k + 1) q ≡ repeats_ahead k p
  unfolding repeats_ahead repeated
  repeats-turn k p d lt z =
      let h = get_or l k d in
      let x : map as_head (take (k + 1) l) ≡ map as_head (take k l) ++ as_head h ∷ [] = map_more as_head l k d lt in
      let y : drop k l ≡ h ∷ drop (k + 1) l = drop_more l k d lt in
      rw (z, x, y, sym (if-named same (take k l) h.name h.name))
      (sym (with_append (if_found (function_of same (map as_head (take k l)) h.name) h.name) (repeated same (map as_head (take k l) ++ as_head h ∷ []) (map as_head (drop (k + 1) l))) p))

  -- function k has an earlier one's name, and it has not
  module _ (k : ℕ) (p : Option ℕ) (d : H.Head) {b : Bool} (lt : k < length l) (e : b ≡ list_any (λ (h : H.Head). same h.name (get_or l k d).name) (take k l)) where
    pub repeats-yes : b ≡ true → {q : Option ℕ} → q ≡ lesser (get_or l k d).name p → repeats_ahead (k + 1) q ≡ repeats_ahead k p
    unfolding least_with
    repeats-yes t z = repeats-turn k p d lt (rw (sym e ∙ t) z)

    pub repeats-no : b ≡ false → {q : Option ℕ} → q ≡ p → repeats_ahead (k + 1) q ≡ repeats_ahead k p
    unfolding least_with
    repeats-no t z = repeats-turn k p d lt (rw (sym e ∙ t) z)

  pub repeats-end : (k : ℕ) (p : Option ℕ) → length l ≤ k → repeats_ahead k p ≡ p
  unfolding repeats_ahead repeated least_with
  repeats-end k p le = rw (drop_all k l le)

-- ---- there are no more functions than events

pub heads-fewer : (es : List Event) → length (heads es) ≤ length es
unfolding heads
heads-fewer [] = omega arith
heads-fewer (function i ∷ es) = omega (arith, heads-fewer es)
heads-fewer (parameter i ∷ es) = omega (arith, heads-fewer es)
heads-fewer (thing d i ∷ es) = omega (arith, heads-fewer es)
heads-fewer (opens ∷ es) = omega (arith, heads-fewer es)
heads-fewer (closes ∷ es) = omega (arith, heads-fewer es)
heads-fewer (declares i ∷ es) = omega (arith, heads-fewer es)
heads-fewer (uses i ∷ es) = omega (arith, heads-fewer es)
heads-fewer (calls i m ∷ es) = omega (arith, heads-fewer es)
heads-fewer (ends i b ∷ es) = omega (arith, heads-fewer es)
