-- Where rule 6 is kept, no two declarations that can be seen at a name have one name: what is found does not hang on the order in which a block is compared.
use Prim.Native.Nat.{ℕ, ◌+◌}
use mathlib.Core.Path.{◌≡◌, refl, sym, ap, ap₂, ◌∙◌, subst}
use mathlib.Core.Bool.{Bool, true, false, cond, ◌&&◌}
use mathlib.Core.List.{List, [], ◌∷◌, ◌++◌, map, reverse, reverse-cons, append_assoc}
use mathlib.Core.List.Memᴰ
use mathlib.Core.List.Memᴰ.{append_cases}
use mathlib.Core.List.Memᴰ.{head as here}
use mathlib.Core.List.Memᴰ.{not-nil}
use mathlib.Core.List.Memᴰ.{tail as there}
use mathlib.Core.Logic.{◌⊎◌, inl, inr}
use Rattle.std.specs.Prelude.{Option, None, Some}
use native.Mathlib.Omega.{arith}
use Rattle.syntax.specs.Ast.{Sort, Ast, params, fun, prog}
use Rattle.syntax.specs.Ast as A
use borrow.Author.Tests.{eq-eqb}
use Rattle.semantics.specs.Demand.{◌∈◌}
use Rattle.lexer.specs.Lex as S
use Rattle.lexer.proofs.Bytes.{same-eq}
use Rattle.text_rules.specs.Spelling.{spelled, same_name}
use Rattle.text_rules.specs.Assigned.{parameter_count}
use Rattle.text_rules.specs.Names.{Declared, variable, many, declared_by, earlier, parameters_of, Name, declared, used, called, names, names_of, for_names, in_block, sought, seen, if_found, misnamed, bad_variables}
use Rattle.text_rules.proofs.Counts.{nil-left, nil-right}
use Rattle.text_rules.proofs.Seen.{for-append}
use Rattle.text_rules.proofs.Innermost.{Without, not_in, not_found}

module _ (same : ℕ → ℕ → Bool) where
  -- ---- no name twice

  -- no newer declaration has the name of an older one
  unfoldable pub Distinct : List Declared → Type 0
  Distinct [] = Unit {0}
  Distinct (d ∷ ds) = Without same ds d.name × Distinct ds

  -- so it is with what can be seen at a name
  abbrev pub Apart : Name → Type 0
  Apart (declared i n bs) = Distinct (seen bs)
  Apart (used i bs) = Distinct (seen bs)
  Apart (called i) = Unit {0}

  pub data All : List Name → Type 0 where
    done : All []
    also : {x : Name} {xs : List Name} → Apart x → All xs → All (x ∷ xs)

  all_append : {xs ys : List Name} → All xs → All ys → All (xs ++ ys)
  all_append done b = b
  all_append (also h a) b = also h (all_append a b)

  pub all-at : {xs : List Name} → All xs → (x : Name) → x ∈ xs → Apart x
  all-at done x m = absurd (not-nil m)
  all-at (also {x = y} h a) x (here e) = subst Apart (sym e) h
  all-at (also h a) x (there m) = all-at a x m

  -- the names of a part, each of which keeps the rule
  abbrev Kept : List Name → Type 0
  Kept xs = for_names (misnamed same) xs ≡ []

  kept-left : (xs ys : List Name) → Kept (xs ++ ys) → Kept xs
  kept-left xs ys e = nil-left (for_names (misnamed same) xs) (for_names (misnamed same) ys) (sym (for-append (misnamed same) xs ys) ∙ e)

  kept-right : (xs ys : List Name) → Kept (xs ++ ys) → Kept ys
  kept-right xs ys e = nil-right (for_names (misnamed same) xs) (for_names (misnamed same) ys) (sym (for-append (misnamed same) xs ys) ∙ e)

  kept-first : (x : Name) (xs : List Name) → Kept (x ∷ xs) → misnamed same x ≡ []
  unfolding for_names
  kept-first x xs e = nil-left (misnamed same x) (for_names (misnamed same) xs) e

  kept-rest : (x : Name) (xs : List Name) → Kept (x ∷ xs) → Kept xs
  unfolding for_names
  kept-rest x xs e = nil-right (misnamed same x) (for_names (misnamed same) xs) e

  -- a name that is declared cannot be seen
  new : (i n : ℕ) (bs : List (List Declared)) → misnamed same (declared i n bs) ≡ [] → Without same (seen bs) i
  unfolding misnamed
  new i n bs e = go (sought same bs i) refl e
    where
      go : (o : Option ℕ) → sought same bs i ≡ o → if_found o i ≡ [] → Without same (seen bs) i
      go None q f = (not_found same bs i q).none_has
      go (Some m) q f =
          let z : ◌≡◌ {A = ℕ} 0 1 = cc in
          absurd (omega arith)

  -- ---- by the tree

  seen-with : (xs b : List Declared) (bs : List (List Declared)) → seen ((xs ++ b) ∷ bs) ≡ xs ++ seen (b ∷ bs)
  unfolding seen
  seen-with xs b bs = append_assoc xs b (seen bs)

  module _ (b : List Declared) (bs : List (List Declared)) where
    one_more : (i n : ℕ) → Distinct (seen (b ∷ bs)) → Kept (declared i n (b ∷ bs) ∷ []) → Distinct (variable i n ∷ seen (b ∷ bs))
    unfolding Distinct
    one_more i n h e = (new i n (b ∷ bs) (kept-first (declared i n (b ∷ bs)) [] e), h)

    -- what a statement declares for those after it
    declared-distinct : (n : ℕ) (s : Ast A.stmt) → Distinct (seen (b ∷ bs)) → Kept (names b bs n s) → Distinct (declared_by n s ++ seen (b ∷ bs))
    unfolding declared_by names
    declared-distinct n (A.declare i) h e = one_more (i + 1) n h e
    declared-distinct n (A.declare_free i) h e = one_more (i + 1) n h e
    declared-distinct n (A.declare_own i x y) h e = one_more (i + 1) n h e
    declared-distinct n (A.empty i) h e = h
    declared-distinct n (A.assign i x) h e = h
    declared-distinct n (A.eval x) h e = h
    declared-distinct n (A.block i l) h e = h
    declared-distinct n (A.if_else i c s t) h e = h
    declared-distinct n (A.while i c s) h e = h
    declared-distinct n (A.return i x) h e = h
    declared-distinct n (A.fail i) h e = h

  earlier-distinct : (b : List Declared) (bs : List (List Declared)) (n : ℕ) (l : Ast A.stmts) → Distinct (seen (b ∷ bs)) → Kept (names b bs n l) → Distinct (seen ((earlier n l ++ b) ∷ bs))
  unfolding earlier names seen
  earlier-distinct b bs n A.no_stmts h e = h
  earlier-distinct b bs n (A.more_stmts l s) h e =
      let xs = names b bs n l in
      let ys = names (earlier n l ++ b) bs (n + many l) s in
      let k = earlier-distinct b bs n l h (kept-left xs ys e) in
      subst Distinct
      (ap (λ (z : List Declared). declared_by (n + many l) s ++ z) (seen-with (earlier n l) b bs)
      ∙ sym (append_assoc (declared_by (n + many l) s) (earlier n l) (b ++ seen bs))
      ∙ sym (seen-with (declared_by (n + many l) s ++ earlier n l) b bs))
      (declared-distinct (earlier n l ++ b) bs (n + many l) s k (kept-right xs ys e))

  both : (xs ys : List Name) → (Kept xs → All xs) → (Kept ys → All ys) → Kept (xs ++ ys) → All (xs ++ ys)
  both xs ys f g e = all_append (f (kept-left xs ys e)) (g (kept-right xs ys e))

  no_name : Distinct (seen ([] ∷ []))
  unfolding Distinct seen
  no_name = tt

  parameters-distinct : (b : List Declared) (bs : List (List Declared)) (n : ℕ) (q : Ast params) → Kept (names b bs n q) → Distinct (seen (parameters_of q ∷ []))
  unfolding names parameters_of seen Distinct
  parameters-distinct b bs n A.no_params e = tt
  parameters-distinct b bs n (A.more_params l i) e =
      let xs = names b bs n l in
      let ys = declared i (parameter_count l) (parameters_of l ∷ []) ∷ [] in
      (new i (parameter_count l) (parameters_of l ∷ []) (kept-first (declared i (parameter_count l) (parameters_of l ∷ [])) [] (kept-right xs ys e)), parameters-distinct b bs n l (kept-left xs ys e))

  once : {k : Sort} (b : List Declared) (bs : List (List Declared)) (n : ℕ) (t : Ast k) → Distinct (seen (b ∷ bs)) → Kept (names b bs n t) → All (names b bs n t)
  unfolding names seen
  once b bs n (A.number i) h e = done
  once b bs n (A.negative i) h e = done
  once b bs n (A.name i) h e = also h done
  once b bs n (A.call i a) h e = also tt (once b bs n a h (kept-rest (called i) _ e))
  once b bs n (A.bracket i x) h e = once b bs n x h e
  once b bs n (A.times o x y) h e = both _ _ (once b bs n x h) (once b bs n y h) e
  once b bs n (A.plus x y) h e = both _ _ (once b bs n x h) (once b bs n y h) e
  once b bs n (A.minus x y) h e = both _ _ (once b bs n x h) (once b bs n y h) e
  once b bs n A.no_args h e = done
  once b bs n (A.more_args l x) h e = both _ _ (once b bs n l h) (once b bs n x h) e
  once b bs n (A.cmp_mark o) h e = done
  once b bs n A.always h e = done
  once b bs n A.never h e = done
  once b bs n (A.compare x o y) h e = both _ _ (once b bs n x h) (once b bs n y h) e
  once b bs n (A.both c d) h e = both _ _ (once b bs n c h) (once b bs n d h) e
  once b bs n (A.either c d) h e = both _ _ (once b bs n c h) (once b bs n d h) e
  once b bs n (A.empty i) h e = done
  once b bs n (A.declare i) h e = also h done
  once b bs n (A.declare_free i) h e = also h done
  once b bs n (A.declare_own i x y) h e = also h done
  once b bs n (A.assign i x) h e = also h (once b bs n x h (kept-rest (used i (b ∷ bs)) _ e))
  once b bs n (A.eval x) h e = once b bs n x h e
  once b bs n (A.block i l) h e = once b bs n l h e
  once b bs n (A.if_else i c s t) h e = both _ _ (both _ _ (once b bs n c h) (once [] (b ∷ bs) n s h)) (once [] (b ∷ bs) (n + many s) t h) e
  once b bs n (A.while i c s) h e = both _ _ (once b bs n c h) (once [] (b ∷ bs) n s h) e
  once b bs n (A.return i x) h e = once b bs n x h e
  once b bs n (A.fail i) h e = done
  once b bs n A.no_stmts h e = done
  once b bs n (A.more_stmts l s) h e =
      let xs = names b bs n l in
      let ys = names (earlier n l ++ b) bs (n + many l) s in
      all_append (once b bs n l h (kept-left xs ys e)) (once (earlier n l ++ b) bs (n + many l) s (earlier-distinct b bs n l h (kept-left xs ys e)) (kept-right xs ys e))
  once b bs n (A.braced l j) h e = once [] (b ∷ bs) n l h e
  once b bs n A.no_params h e = done
  once b bs n (A.more_params l i) h e =
      let xs = names b bs n l in
      let ys = declared i (parameter_count l) (parameters_of l ∷ []) ∷ [] in
      all_append (once b bs n l h (kept-left xs ys e)) (also (parameters-distinct b bs n l (kept-left xs ys e)) done)
  once b bs n (A.function i p l) h e =
      let xs = names [] [] 0 p in
      let ys = names (parameters_of p) [] (parameter_count p) l in
      all_append (once [] [] 0 p no_name (kept-left xs ys e)) (once (parameters_of p) [] (parameter_count p) l (parameters-distinct [] [] 0 p (kept-left xs ys e)) (kept-right xs ys e))
  once b bs n A.no_funs h e = done
  once b bs n (A.more_funs p f) h e = both _ _ (once b bs n p h) (once b bs n f h) e

  pub seen-once : (p : Ast prog) → bad_variables same p ≡ [] → All (names_of p)
  seen-once p e = once [] [] 0 p no_name e

  -- ---- a block compared the other way round, its earliest declaration first, as it was before slip 6

  in-reverse : (b : List Declared) (d : Declared) → d ∈ reverse b → d ∈ b
  in-reverse [] d m = m
  in-reverse (x ∷ b) d m = go (in-reverse b d) (append_cases (reverse b) (subst (λ (l : List Declared). d ∈ l) (reverse-cons x b) m))
    where
      go : (d ∈ reverse b → d ∈ b) → (d ∈ reverse b) ⊎ (d ∈ (x ∷ [])) → d ∈ (x ∷ b)
      go r (inl h) = there (r h)
      go r (inr (here e)) = here e
      go r (inr (there h)) = absurd (not-nil h)

  of_reverse : (b : List Declared) (d : Declared) → d ∈ b → d ∈ reverse b
  of_reverse [] d m = m
  of_reverse (x ∷ b) d (here e) = subst (λ (l : List Declared). d ∈ l) (sym (reverse-cons x b)) (Memᴰ.append_right (reverse b) (here e))
  of_reverse (x ∷ b) d (there m) = subst (λ (l : List Declared). d ∈ l) (sym (reverse-cons x b)) (Memᴰ.append_left (x ∷ []) (of_reverse b d m))

  block-without : (b : List Declared) (i : ℕ) → in_block same b i ≡ None → Without same b i
  block-without b i e = (not_in same b [] i e).none_has

  none_in : (b : List Declared) (i : ℕ) → Without same b i → in_block same b i ≡ None
  unfolding in_block
  none_in [] i w = refl
  none_in (d ∷ b) i w = ap (λ (t : Bool). cond t (Some d.slot) (in_block same b i)) (w d (here refl)) ∙ none_in b i (λ x m. w x (there m))

  abbrev either : Option ℕ → Option ℕ → Option ℕ
  either o x = elim o [ None ↦ x | Some n ↦ Some n ]

  in-append : (b c : List Declared) (i : ℕ) → in_block same (b ++ c) i ≡ either (in_block same b i) (in_block same c i)
  unfolding in_block
  in-append [] c i = refl
  in-append (d ∷ b) c i = go (same d.name i) (in-append b c i)
    where
      go : (t : Bool) → in_block same (b ++ c) i ≡ either (in_block same b i) (in_block same c i)
          → cond t (Some d.slot) (in_block same (b ++ c) i) ≡ either (cond t (Some d.slot) (in_block same b i)) (in_block same c i)
      go true r = refl
      go false r = r

  -- whether a name is found is always the same, so that rule 6 says the same of every text
  abbrev is_found : Option ℕ → Bool
  is_found None = false
  is_found (Some n) = true

  found-in-reverse : (b : List Declared) (i : ℕ) → is_found (in_block same (reverse b) i) ≡ is_found (in_block same b i)
  found-in-reverse b i = go (in_block same b i) refl (in_block same (reverse b) i) refl
    where
      go : (o : Option ℕ) → in_block same b i ≡ o → (u : Option ℕ) → in_block same (reverse b) i ≡ u → is_found u ≡ is_found o
      go None q None r = refl
      go (Some n) q (Some m) r = refl
      go None q (Some m) r =
          let e = sym r ∙ none_in (reverse b) i (λ d h. block-without b i q d (in-reverse b d h)) in
          let z : ◌≡◌ {A = ℕ} 0 1 = cc in
          absurd (omega arith)
      go (Some n) q None r =
          let e = sym q ∙ none_in b i (λ d h. block-without (reverse b) i r d (of_reverse b d h)) in
          let z : ◌≡◌ {A = ℕ} 0 1 = cc in
          absurd (omega arith)

  pub found-as-before : (bs : List (List Declared)) (i : ℕ) → is_found (sought same (map reverse bs) i) ≡ is_found (sought same bs i)
  unfolding sought
  found-as-before [] i = refl
  found-as-before (b ∷ bs) i = go (in_block same (reverse b) i) (in_block same b i) (found-in-reverse b i) (found-as-before bs i)
    where
      go : (u o : Option ℕ) → is_found u ≡ is_found o → is_found (sought same (map reverse bs) i) ≡ is_found (sought same bs i) → is_found (either u (sought same (map reverse bs) i)) ≡ is_found (either o (sought same bs i))
      go None None e r = r
      go (Some n) (Some m) e r = refl
      go None (Some m) e r =
          let z : ◌≡◌ {A = ℕ} 0 1 = cc in
          absurd (omega arith)
      go (Some n) None e r =
          let z : ◌≡◌ {A = ℕ} 0 1 = cc in
          absurd (omega arith)

  -- and what is found too, where no name is seen twice; two names that are the same as a third are the same
  module _ (third : (i j k : ℕ) → same i k ≡ true → same j k ≡ true → same i j ≡ true) where
    others : (d : Declared) (b : List Declared) (i : ℕ) → Without same b d.name → same d.name i ≡ true → Without same b i
    others d b i w h x m = go (same x.name i) refl
      where
        go : (t : Bool) → same x.name i ≡ t → t ≡ false
        go false q = refl
        go true q =
            let e : true ≡ false = sym (third x.name d.name i q h) ∙ w x m in
            let z : ◌≡◌ {A = ℕ} 0 1 = cc in
            absurd (omega arith)

    in-reverse-same : (b : List Declared) (i : ℕ) → Distinct b → in_block same (reverse b) i ≡ in_block same b i
    unfolding in_block Distinct
    in-reverse-same [] i h = refl
    in-reverse-same (d ∷ b) i h =
        ap (λ (l : List Declared). in_block same l i) (reverse-cons d b)
        ∙ in-append (reverse b) (d ∷ []) i
        ∙ go (same d.name i) refl (in-reverse-same b i h.1)
      where
        with_none : (o : Option ℕ) → either o None ≡ o
        with_none None = refl
        with_none (Some n) = refl

        go : (t : Bool) → same d.name i ≡ t → in_block same (reverse b) i ≡ in_block same b i
            → either (in_block same (reverse b) i) (cond t (Some d.slot) None) ≡ cond t (Some d.slot) (in_block same b i)
        go true q r = ap (λ (o : Option ℕ). either o (Some d.slot)) (none_in (reverse b) i (λ x m. others d b i h.0 q x (in-reverse b x m)))
        go false q r = with_none (in_block same (reverse b) i) ∙ r

    distinct-left : (b ds : List Declared) → Distinct (b ++ ds) → Distinct b
    unfolding Distinct
    distinct-left [] ds h = tt
    distinct-left (d ∷ b) ds h = (λ x m. h.0 x (Memᴰ.append_left ds m), distinct-left b ds h.1)

    distinct-right : (b ds : List Declared) → Distinct (b ++ ds) → Distinct ds
    unfolding Distinct
    distinct-right [] ds h = h
    distinct-right (d ∷ b) ds h = distinct-right b ds h.1

    pub finds-as-before : (bs : List (List Declared)) (i : ℕ) → Distinct (seen bs) → sought same (map reverse bs) i ≡ sought same bs i
    unfolding sought seen
    finds-as-before [] i h = refl
    finds-as-before (b ∷ bs) i h =
        ap₂ either (in-reverse-same b i (distinct-left b (seen bs) h)) (finds-as-before bs i (distinct-right b (seen bs) h))

-- ---- the names of a text

same_self : (a : List ℕ) → S.same a a ≡ true
unfolding S.same
same_self [] = refl
same_self (x ∷ xs) = ap₂ (λ (s t : Bool). s && t) (eq-eqb x x refl) (same_self xs)

-- "What it finds is the same": at each name of a tree that keeps rule 6
pub same-found : (text places values : List ℕ) (p : Ast prog) → bad_variables (same_name text places values) p ≡ []
    → (i : ℕ) (bs : List (List Declared)) → used i bs ∈ names_of p
    → sought (same_name text places values) (map reverse bs) i ≡ sought (same_name text places values) bs i
same-found text places values p e i bs m =
    finds-as-before (same_name text places values) third bs i (all-at (same_name text places values) (seen-once (same_name text places values) p e) (used i bs) m)
  where
    third : (i j k : ℕ) → same_name text places values i k ≡ true → same_name text places values j k ≡ true → same_name text places values i j ≡ true
    third i j k u v =
        let a = same-eq (spelled text places values i) (spelled text places values k) u in
        let b = same-eq (spelled text places values j) (spelled text places values k) v in
        ap (λ (l : List ℕ). S.same l (spelled text places values j)) (a ∙ sym b) ∙ same_self (spelled text places values j)
