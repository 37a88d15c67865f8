-- The offsets of a text, one after another: which they are, that they rise, and how they are written.
use Prim.Native.Nat.{ℕ, zero, suc, ◌+◌, ◌≤◌, ◌<◌}
use mathlib.Core.Path.{◌≡◌, refl, sym, ap, subst, ◌∙◌}
use mathlib.Core.Bool.{Bool, true, false, not}
use mathlib.Core.List.Memᴰ.{head as first}
use mathlib.Core.List.Memᴰ.{not-nil as nowhere}
use mathlib.Core.List.Memᴰ.{tail as later}
use mathlib.Core.List.{List, [], ◌∷◌, ◌++◌, append-nil, append_assoc, map}
use native.Mathlib.Omega.{arith}
use native.Mathlib.Numerals.{add-one}
use native.Mathlib.Nat.{add-zero, add-suc, suc-add}
use lib.ListN.{length, get_or, set, drop, drop_of_length-le, get_or-map, length-set, length-append}
use lib.Seq.{drop-cons, set_at}
use Rattle.semantics.specs.Demand.{◌∈◌}
use Rattle.text_rules.specs.Rules.{Head}
use Rattle.text_rules.specs.Answers.{as_head}
use Rattle.text_rules.specs.declared.heads.Head as C
use Rattle.remarks.specs.Remarks.{Call, chained, offsets_from}
use Rattle.remarks.specs.Words.{name_offset}
use Rattle.remarks.specs.Steps.{unmarked, Marks, WroteOffsets}
use Rattle.remarks.proofs.Marking.{clash}
use Rattle.remarks.proofs.Chains.{unmarked-so}
use Rattle.remarks.proofs.Rising.{Rises, none, more, names}

-- one function
module _ (told : ℕ → Bool) (ps : List ℕ) (g : ℕ) (h : Head) (hs : List Head) where
  opened : {b : Bool} → told g ≡ b → offsets_from told ps g (h ∷ hs) ≡ elim b [ true ↦ get_or ps h.name 0 ∷ offsets_from told ps (suc g) hs | false ↦ offsets_from told ps (suc g) hs ]
  unfolding offsets_from
  opened e = ap (λ (b : Bool). elim b [ true ↦ get_or ps h.name 0 ∷ offsets_from told ps (suc g) hs | false ↦ offsets_from told ps (suc g) hs ]) e

-- two tests that agree
pub same-told : (told other : ℕ → Bool) (ps : List ℕ) → ((g : ℕ) → told g ≡ other g) → (g : ℕ) (hs : List Head) → offsets_from told ps g hs ≡ offsets_from other ps g hs
unfolding offsets_from
same-told told other ps e g [] = refl
same-told told other ps e g (h ∷ hs) =
    opened told ps g h hs (e g)
    ∙ ap (λ (l : List ℕ). elim (other g) [ true ↦ get_or ps h.name 0 ∷ l | false ↦ l ]) (same-told told other ps e (suc g) hs)

-- ---- which they are

-- o is the place of the name of function i of hs, and function g + i is to be told
pub record ToldAt (told : ℕ → Bool) (ps : List ℕ) (g : ℕ) (hs : List Head) (o : ℕ) : Type 0 where
  pub number : ℕ
  pub inside : number < length hs
  pub holds : told (g + number) ≡ true
  pub stands : o ≡ get_or ps (get_or (names hs) number 0) 0

module _ (told : ℕ → Bool) (ps : List ℕ) where
  pub few : (g : ℕ) (hs : List Head) → length (offsets_from told ps g hs) ≤ length hs
  unfolding offsets_from
  few g [] = omega arith
  few g (h ∷ hs) = go (told g) (few (suc g) hs)
    where
      go : (b : Bool) → length (offsets_from told ps (suc g) hs) ≤ length hs
          → length {A = ℕ} (elim b [ true ↦ get_or ps h.name 0 ∷ offsets_from told ps (suc g) hs | false ↦ offsets_from told ps (suc g) hs ]) ≤ suc (length hs)
      go true p = omega (arith, p)
      go false p = omega (arith, p)

  next-told : (g : ℕ) (h : Head) (hs : List Head) (o : ℕ) → ToldAt told ps (suc g) hs o → ToldAt told ps g (h ∷ hs) o
  next-told g h hs o t =
      record {
        number = suc t.number;
        inside = omega (arith, t.inside);
        holds = subst (λ (n : ℕ). told n ≡ true) (suc-add g t.number ∙ sym (add-suc g t.number)) t.holds;
        stands = t.stands;
      }

  pub only-told : (g : ℕ) (hs : List Head) (o : ℕ) → o ∈ offsets_from told ps g hs → ToldAt told ps g hs o
  unfolding offsets_from
  only-told g [] o m = absurd (nowhere m)
  only-told g (h ∷ hs) o m = go (told g) refl (only-told (suc g) hs o) m
    where
      go : (b : Bool) → told g ≡ b → (o ∈ offsets_from told ps (suc g) hs → ToldAt told ps (suc g) hs o)
          → o ∈ elim b [ true ↦ get_or ps h.name 0 ∷ offsets_from told ps (suc g) hs | false ↦ offsets_from told ps (suc g) hs ] → ToldAt told ps g (h ∷ hs) o
      go true p r (first e) = record { number = 0; inside = omega arith; holds = subst (λ (n : ℕ). told n ≡ true) (sym (add-zero g)) p; stands = e }
      go true p r (later n) = next-told g h hs o (r n)
      go false p r n = next-told g h hs o (r n)

  pub all_told : (g : ℕ) (hs : List Head) (i : ℕ) → i < length hs → told (g + i) ≡ true → get_or ps (get_or (names hs) i 0) 0 ∈ offsets_from told ps g hs
  unfolding offsets_from
  all_told g [] i h e = absurd (omega (arith, h))
  all_told g (x ∷ hs) zero h e = go (told g) (subst (λ (n : ℕ). told n ≡ true) (add-zero g) e)
    where
      go : (b : Bool) → b ≡ true → get_or ps x.name 0 ∈ elim b [ true ↦ get_or ps x.name 0 ∷ offsets_from told ps (suc g) hs | false ↦ offsets_from told ps (suc g) hs ]
      go true p = first refl
      go false p = absurd (clash p refl)
  all_told g (x ∷ hs) (suc i) h e = go (told g) (all_told (suc g) hs i (omega (arith, h)) (subst (λ (n : ℕ). told n ≡ true) (add-suc g i ∙ sym (suc-add g i)) e))
    where
      go : (b : Bool) → get_or ps (get_or (names hs) i 0) 0 ∈ offsets_from told ps (suc g) hs
          → get_or ps (get_or (names hs) i 0) 0 ∈ elim b [ true ↦ get_or ps x.name 0 ∷ offsets_from told ps (suc g) hs | false ↦ offsets_from told ps (suc g) hs ]
      go true m = later m
      go false m = m

  -- ---- they rise, where the names do, and the places of n tokens

  module _ (n hi : ℕ) (rise : (i j : ℕ) → i < j → j < n → get_or ps i 0 < get_or ps j 0) (low : (i : ℕ) → i < n → get_or ps i 0 < hi) where
    pub offsets-rise : {from : ℕ} (lo g : ℕ) (hs : List Head) → Rises from (names hs) n → ((i : ℕ) → from ≤ i → i < n → lo ≤ get_or ps i 0) → Rises lo (offsets_from told ps g hs) hi
    unfolding offsets_from
    offsets-rise lo g [] r f = none
    offsets-rise lo g (h ∷ hs) (more a b r) f =
        go (told g)
        (offsets-rise (suc (get_or ps h.name 0)) (suc g) hs r (λ i p q. omega (arith, rise h.name i (omega (arith, p)) q)))
        (offsets-rise lo (suc g) hs r (λ i p q. f i (omega (arith, a, p)) q))
      where
        go : (c : Bool) → Rises (suc (get_or ps h.name 0)) (offsets_from told ps (suc g) hs) hi → Rises lo (offsets_from told ps (suc g) hs) hi
            → Rises lo (elim c [ true ↦ get_or ps h.name 0 ∷ offsets_from told ps (suc g) hs | false ↦ offsets_from told ps (suc g) hs ]) hi
        go true x y = more (f h.name a b) (low h.name b) x
        go false x y = y

-- ---- how they are written

-- past the last function
abbrev nobody : C.Head
nobody = record { name = 0; arity = 0 }

pub name-told : (ps : List ℕ) (xs : List C.Head) (g : ℕ) → name_offset ps (map as_head xs) g ≡ get_or ps (get_or xs g nobody).name 0
name-told ps xs g = ap (λ (i : ℕ). get_or ps i 0) (get_or-map (λ (h : Head). h.name) (map as_head xs) g (as_head nobody) ∙ ap (λ (h : Head). h.name) (get_or-map as_head xs g nobody))

-- what is left of the functions from function g on
abbrev left : List C.Head → ℕ → List Head
left xs g = map as_head (drop g xs)

left-more : (xs : List C.Head) (g : ℕ) → g < length xs → left xs g ≡ as_head (get_or xs g nobody) ∷ left xs (g + 1)
left-more xs g h = rw (drop-cons xs g nobody h, add-one)

-- the first g functions are gone through: what was written for them, k offsets, and what is still to be written
pub record Written (ps : List ℕ) (xs : List C.Head) (l before after : List ℕ) (k g : ℕ) : Type 0 where
  pub few : k ≤ g
  pub size : length after ≡ length before
  pub front : List ℕ
  pub rest : front ++ offsets_from (unmarked l) ps g (left xs g) ≡ offsets_from (unmarked l) ps 0 (map as_head xs)
  pub wrote : WroteOffsets front before after k

module _ (ps : List ℕ) (xs : List C.Head) (l : List ℕ) where
  pub written_start : (before : List ℕ) → Written ps xs l before before 0 0
  written_start before = record { few = omega arith; size = refl; front = []; rest = refl; wrote = record { counts = refl; words = refl } }

  passed_over : (g : ℕ) → g < length xs → unmarked l g ≡ false → offsets_from (unmarked l) ps g (left xs g) ≡ offsets_from (unmarked l) ps (g + 1) (left xs (g + 1))
  passed_over g lt e =
      ap (offsets_from (unmarked l) ps g) (left-more xs g lt)
      ∙ opened (unmarked l) ps g (as_head (get_or xs g nobody)) (left xs (g + 1)) e
      ∙ ap (λ (i : ℕ). offsets_from (unmarked l) ps i (left xs (g + 1))) (sym (add-one g))

  put-down : (g : ℕ) → g < length xs → unmarked l g ≡ true → offsets_from (unmarked l) ps g (left xs g) ≡ get_or ps (get_or xs g nobody).name 0 ∷ offsets_from (unmarked l) ps (g + 1) (left xs (g + 1))
  put-down g lt e =
      ap (offsets_from (unmarked l) ps g) (left-more xs g lt)
      ∙ opened (unmarked l) ps g (as_head (get_or xs g nobody)) (left xs (g + 1)) e
      ∙ ap (λ (i : ℕ). get_or ps (get_or xs g nobody).name 0 ∷ offsets_from (unmarked l) ps i (left xs (g + 1))) (sym (add-one g))

pub written-pass : {ps l before after : List ℕ} {xs : List C.Head} {k g : ℕ} → Written ps xs l before after k g → g < length xs → unmarked l g ≡ false → Written ps xs l before after k (g + 1)
written-pass {ps} {l} {before} {after} {xs} {k} {g} w lt e =
    record { few = omega (arith, w.few); size = w.size; front = w.front; rest = ap (λ (z : List ℕ). w.front ++ z) (sym (passed_over ps xs l g lt e)) ∙ w.rest; wrote = w.wrote }

-- one word more
one_more : {front before after : List ℕ} {k : ℕ} (o : ℕ) → WroteOffsets front before after k → k < length before → WroteOffsets (front ++ o ∷ []) before (set after k o) (k + 1)
one_more {front} {before} {after} {k} o w room =
    let n : length (front ++ o ∷ []) ≡ suc k = length-append front (o ∷ []) ∙ omega (arith, w.counts) in
    let d : drop (length front) before ≡ get_or before k 0 ∷ drop (suc k) before = ap (λ (i : ℕ). drop i before) (sym w.counts) ∙ drop-cons before k 0 room in
    record {
      counts = omega (arith, n);
      words =
          ap (λ (x : List ℕ). set x k o) (w.words ∙ ap (λ (x : List ℕ). front ++ x) d)
          ∙ set_at front (get_or before k 0) (drop (suc k) before) o k (sym w.counts)
          ∙ sym (append_assoc front (o ∷ []) (drop (suc k) before))
          ∙ ap (λ (i : ℕ). (front ++ o ∷ []) ++ drop i before) (sym n);
    }

pub written-add : {ps l before after after' : List ℕ} {xs : List C.Head} {k g o : ℕ} → Written ps xs l before after k g → g < length xs → unmarked l g ≡ true → k < length before
    → o ≡ get_or ps (get_or xs g nobody).name 0 → after' ≡ set after k o → Written ps xs l before after' (k + 1) (g + 1)
written-add {ps} {l} {before} {after} {after'} {xs} {k} {g} {o} w lt e room p q =
    record {
      few = omega (arith, w.few);
      size = ap length q ∙ length-set after k o ∙ w.size;
      front = w.front ++ o ∷ [];
      rest =
          append_assoc w.front (o ∷ []) (offsets_from (unmarked l) ps (g + 1) (left xs (g + 1)))
          ∙ ap (λ (z : List ℕ). w.front ++ z) (ap (λ (i : ℕ). i ∷ offsets_from (unmarked l) ps (g + 1) (left xs (g + 1))) p ∙ sym (put-down ps xs l g lt e))
          ∙ w.rest;
      wrote = subst (λ (x : List ℕ). WroteOffsets (w.front ++ o ∷ []) before x (k + 1)) (sym q) (one_more o w.wrote room);
    }

pub written-end : {ps l before after : List ℕ} {xs : List C.Head} {k g : ℕ} → Written ps xs l before after k g → length xs ≤ g → WroteOffsets (offsets_from (unmarked l) ps 0 (map as_head xs)) before after k
unfolding offsets_from
written-end {ps} {l} {before} {after} {xs} {k} {g} w le =
    subst (λ (os : List ℕ). WroteOffsets os before after k)
    (sym (append-nil w.front) ∙ ap (λ (z : List ℕ). w.front ++ z) (sym (ap (λ (z : List C.Head). offsets_from (unmarked l) ps g (map as_head z)) (drop_of_length-le xs {i = g} le))) ∙ w.rest)
    w.wrote

-- what is not marked is what no chain of calls leads to
pub unreached : {cs : List Call} {main k : ℕ} {l before after : List ℕ} (h : ℕ) (ps : List ℕ) (hs : List Head) → ((c : Call) → c ∈ cs → c.callee < h) → main < h → Marks cs main l
    → WroteOffsets (offsets_from (unmarked l) ps 0 hs) before after k → WroteOffsets (offsets_from (λ g. not (chained cs h main g)) ps 0 hs) before after k
unreached {cs} {main} {k} {l} {before} {after} h ps hs b m w r =
    subst (λ (os : List ℕ). WroteOffsets os before after k) (same-told (unmarked l) (λ g. not (chained cs h main g)) ps (unmarked-so cs h main b m l w) 0 hs) r
