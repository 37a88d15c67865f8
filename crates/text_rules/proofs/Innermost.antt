-- What a lookup finds, in the words of document 01, and how many declarations it compares, in those of document 02: the innermost block that has the name, and in it the newest declaration of it.
-- Where rule 6 is kept no name can be seen twice, so that there is no other.
use Prim.Native.Nat.{ℕ, suc, ◌+◌}
use mathlib.Core.Path.{◌≡◌, refl, ap, ◌∙◌}
use mathlib.Core.Bool.{Bool, true, false, cond}
use mathlib.Core.List.{List, [], ◌∷◌, ◌++◌}
use mathlib.Core.List.Memᴰ.{append_cases}
use mathlib.Core.List.Memᴰ.{head as here}
use mathlib.Core.List.Memᴰ.{not-nil}
use mathlib.Core.List.Memᴰ.{tail as there}
use mathlib.Core.Logic.{◌⊎◌, inl, inr}
use Rattle.std.specs.Prelude.{Option, None, Some}
use native.Mathlib.Omega.{arith}
use lib.ListN.{length, length-append}
use Rattle.semantics.specs.Demand.{◌∈◌}
use Rattle.text_rules.specs.Names.{Declared, in_block, sought, seen, compared}

module _ (same : ℕ → ℕ → Bool) where
  -- none of the declarations ds has the name of token i
  abbrev pub Without : List Declared → ℕ → Type 0
  Without ds i = (d : Declared) → d ∈ ds → same d.name i ≡ false

  -- the slot n is found for the name of token i: of the blocks bs, those inside the block of the hit do not have the name, nor do the newer declarations of that block;
  -- compared are all of these, and the hit
  pub record Innermost (bs : List (List Declared)) (i n : ℕ) : Type 0 where
    pub inner : List (List Declared)
    pub around : List (List Declared)
    pub newer : List Declared
    pub older : List Declared
    pub hit : Declared
    pub blocks : bs ≡ inner ++ (newer ++ hit ∷ older) ∷ around
    pub slot : hit.slot ≡ n
    pub has : same hit.name i ≡ true
    pub inside : Without (seen inner) i
    pub after : Without newer i
    pub counts : compared same (seen bs) i ≡ length (seen inner) + length newer + 1

  -- nothing is found: no declaration that can be seen has the name, and all are compared
  pub record Nowhere (bs : List (List Declared)) (i : ℕ) : Type 0 where
    pub none_has : Without (seen bs) i
    pub counts : compared same (seen bs) i ≡ length (seen bs)

  -- ---- one block, with ds after it

  without-none : {i : ℕ} → Without [] i
  without-none d m = absurd (not-nil m)

  without_more : {d : Declared} {ds : List Declared} {i : ℕ} → same d.name i ≡ false → Without ds i → Without (d ∷ ds) i
  without_more {d} {ds} {i} e w x (here q) = ap (λ (y : Declared). same y.name i) q ∙ e
  without_more {d} {ds} {i} e w x (there m) = w x m

  without-both : {b ds : List Declared} {i : ℕ} → Without b i → Without ds i → Without (b ++ ds) i
  without-both {b} {ds} {i} v w x m = go (append_cases b m)
    where
      go : (x ∈ b) ⊎ (x ∈ ds) → same x.name i ≡ false
      go (inl h) = v x h
      go (inr h) = w x h

  record InBlock (b ds : List Declared) (i n : ℕ) : Type 0 where
    newer : List Declared
    older : List Declared
    hit : Declared
    block : b ≡ newer ++ hit ∷ older
    slot : hit.slot ≡ n
    has : same hit.name i ≡ true
    after : Without newer i
    counts : compared same (b ++ ds) i ≡ length newer + 1

  in-block : (b ds : List Declared) (i n : ℕ) → in_block same b i ≡ Some n → InBlock b ds i n
  unfolding in_block compared
  in-block [] ds i n e =
      let z : ◌≡◌ {A = ℕ} 0 1 = cc in
      absurd (omega arith)
  in-block (d ∷ b) ds i n e = go (same d.name i) refl (in-block b ds i n) e
    where
      go : (t : Bool) → same d.name i ≡ t → (in_block same b i ≡ Some n → InBlock b ds i n) → cond t (Some d.slot) (in_block same b i) ≡ Some n → InBlock (d ∷ b) ds i n
      go true q r f =
          let z : d.slot ≡ n = cc in
          record { newer = []; older = b; hit = d; block = refl; slot = z; has = q; after = without-none; counts = ap (λ (t : Bool). suc (cond t 0 (compared same (b ++ ds) i))) q }
      go false q r f =
          let h = r f in
          let c : compared same ((d ∷ b) ++ ds) i ≡ suc (compared same (b ++ ds) i) = ap (λ (t : Bool). suc (cond t 0 (compared same (b ++ ds) i))) q in
          record {
            newer = d ∷ h.newer;
            older = h.older;
            hit = h.hit;
            block = ap (λ (x : List Declared). d ∷ x) h.block;
            slot = h.slot;
            has = h.has;
            after = without_more q h.after;
            counts = omega (arith, c, h.counts);
          }

  pub record NotIn (b ds : List Declared) (i : ℕ) : Type 0 where
    pub none_has : Without b i
    pub counts : compared same (b ++ ds) i ≡ length b + compared same ds i

  pub not_in : (b ds : List Declared) (i : ℕ) → in_block same b i ≡ None → NotIn b ds i
  unfolding in_block compared
  not_in [] ds i e = record { none_has = without-none; counts = omega arith }
  not_in (d ∷ b) ds i e = go (same d.name i) refl (not_in b ds i) e
    where
      go : (t : Bool) → same d.name i ≡ t → (in_block same b i ≡ None → NotIn b ds i) → cond t (Some d.slot) (in_block same b i) ≡ None → NotIn (d ∷ b) ds i
      go true q r f =
          let z : ◌≡◌ {A = ℕ} 0 1 = cc in
          absurd (omega arith)
      go false q r f =
          let h = r f in
          let c : compared same ((d ∷ b) ++ ds) i ≡ suc (compared same (b ++ ds) i) = ap (λ (t : Bool). suc (cond t 0 (compared same (b ++ ds) i))) q in
          record { none_has = without_more q h.none_has; counts = omega (arith, c, h.counts) }

  -- ---- all blocks

  abbrev either : Option ℕ → Option ℕ → Option ℕ
  either o x = elim o [ None ↦ x | Some n ↦ Some n ]

  -- "A name is sought from the innermost block outwards, and within a block among its earlier declarations"
  pub innermost : (bs : List (List Declared)) (i n : ℕ) → sought same bs i ≡ Some n → Innermost bs i n
  unfolding sought seen
  innermost [] i n e =
      let z : ◌≡◌ {A = ℕ} 0 1 = cc in
      absurd (omega arith)
  innermost (b ∷ bs) i n e = go (in_block same b i) refl (innermost bs i n) e
    where
      go : (o : Option ℕ) → in_block same b i ≡ o → (sought same bs i ≡ Some n → Innermost bs i n) → either o (sought same bs i) ≡ Some n → Innermost (b ∷ bs) i n
      go None q r f =
          let h = r f in
          let k = not_in b (seen bs) i q in
          record {
            inner = b ∷ h.inner;
            around = h.around;
            newer = h.newer;
            older = h.older;
            hit = h.hit;
            blocks = ap (λ (cs : List (List Declared)). b ∷ cs) h.blocks;
            slot = h.slot;
            has = h.has;
            inside = without-both k.none_has h.inside;
            after = h.after;
            counts = omega (arith, k.counts, h.counts, length-append b (seen h.inner));
          }
      go (Some m) q r f =
          let h = in-block b (seen bs) i n (q ∙ f) in
          record {
            inner = [];
            around = bs;
            newer = h.newer;
            older = h.older;
            hit = h.hit;
            blocks = ap (λ (c : List Declared). c ∷ bs) h.block;
            slot = h.slot;
            has = h.has;
            inside = without-none;
            after = h.after;
            counts = omega (arith, h.counts);
          }

  pub not_found : (bs : List (List Declared)) (i : ℕ) → sought same bs i ≡ None → Nowhere bs i
  unfolding sought seen compared
  not_found [] i e = record { none_has = without-none; counts = refl }
  not_found (b ∷ bs) i e = go (in_block same b i) refl (not_found bs i) e
    where
      go : (o : Option ℕ) → in_block same b i ≡ o → (sought same bs i ≡ None → Nowhere bs i) → either o (sought same bs i) ≡ None → Nowhere (b ∷ bs) i
      go None q r f =
          let h = r f in
          let k = not_in b (seen bs) i q in
          record { none_has = without-both k.none_has h.none_has; counts = omega (arith, k.counts, h.counts, length-append b (seen bs)) }
      go (Some m) q r f =
          let z : ◌≡◌ {A = ℕ} 0 1 = cc in
          absurd (omega arith)
