-- The lookup, one declaration or one block at a time.
use Rattle.std.proofs.Common.{◌≡◌, ℕ, suc, ◌+◌, ◌-◌, ◌≤◌, ◌<◌, Bool, true, false, cond, Option, None, Some, List, [], ◌∷◌, ◌++◌, length, get_or, map, take, drop, reverse, refl, ap, sym, ◌∙◌, subst, arith}
use Rattle.std.proofs.lemmas.List.{reverse-append, length-map, length-take-le, take_all, drop_all, take-take, take_more, drop-append-le, get_or-map}
use Rattle.text_rules.specs.Names.{Declared, in_block, sought, seen, compared}
use Rattle.scopes.specs.Memory.{as_declared, blocks_of, Ordered}
use Rattle.scopes.specs.declared.scope.Declaration as C
use Rattle.scopes.proofs.Blocks.{reverse-push}

-- the first of two that is there
abbrev either : Option ℕ → Option ℕ → Option ℕ
either o x = elim o [ None ↦ x | Some n ↦ Some n ]

module _ (same : ℕ → ℕ → Bool) (i : ℕ) where
  -- c declarations have been compared without a hit, and of the blocks `all` the blocks bs are left
  pub record Left (all : List (List Declared)) (c : ℕ) (bs : List (List Declared)) : Type 0 where
    pub finds : sought same bs i ≡ sought same all i
    pub counts : c + compared same (seen bs) i ≡ compared same (seen all) i

  -- nothing has been compared
  all_left : (all : List (List Declared)) → Left all 0 all
  all_left all = record { finds = refl; counts = omega arith }

  -- the lookup ends: o is found, and n declarations have been compared
  pub record Ended (all : List (List Declared)) (o : Option ℕ) (n : ℕ) : Type 0 where
    pub finds : o ≡ sought same all i
    pub counts : n ≡ compared same (seen all) i

  module _ {all : List (List Declared)} {c : ℕ} where
    -- the next declaration has the name
    hit : {d : Declared} {b : List Declared} {bs : List (List Declared)} → Left all c ((d ∷ b) ∷ bs) → same d.name i ≡ true → Ended all (Some d.slot) (c + 1)
    unfolding sought in_block seen compared
    hit {d} {b} {bs} l e =
        let f : sought same ((d ∷ b) ∷ bs) i ≡ Some d.slot = ap (λ t. either (cond t (Some d.slot) (in_block same b i)) (sought same bs i)) e in
        let n : compared same (seen ((d ∷ b) ∷ bs)) i ≡ 1 = ap (λ t. suc (cond t 0 (compared same (b ++ seen bs) i))) e in
        record { finds = sym f ∙ l.finds; counts = omega (arith, n, l.counts) }

    -- it has another
    miss : {d : Declared} {b : List Declared} {bs : List (List Declared)} → Left all c ((d ∷ b) ∷ bs) → same d.name i ≡ false → Left all (c + 1) (b ∷ bs)
    unfolding sought in_block seen compared
    miss {d} {b} {bs} l e =
        let f : sought same ((d ∷ b) ∷ bs) i ≡ sought same (b ∷ bs) i = ap (λ t. either (cond t (Some d.slot) (in_block same b i)) (sought same bs i)) e in
        let n : compared same (seen ((d ∷ b) ∷ bs)) i ≡ suc (compared same (seen (b ∷ bs)) i) = ap (λ t. suc (cond t 0 (compared same (b ++ seen bs) i))) e in
        record { finds = sym f ∙ l.finds; counts = omega (arith, n, l.counts) }

    -- the block has no more
    over : {bs : List (List Declared)} → Left all c ([] ∷ bs) → Left all c bs
    unfolding sought in_block seen
    over l = record { finds = l.finds; counts = l.counts }

    -- no block is left
    missed : Left all c [] → Ended all None c
    unfolding sought seen compared
    missed l = record { finds = l.finds; counts = omega (arith, l.counts) }

-- ---- in the lists of the code

-- the newest of the declarations from s on and before k
newest : (ds : List Declared) (s k : ℕ) (d : Declared) → s < k → k ≤ length ds → reverse (drop s (take k ds)) ≡ get_or ds (k - 1) d ∷ reverse (drop s (take (k - 1) ds))
newest ds s k d lt le =
    let p : k - 1 + 1 ≡ k = omega arith in
    let t : take k ds ≡ take (k - 1) ds ++ get_or ds (k - 1) d ∷ [] = ap (λ (m : ℕ). take m ds) (sym p) ∙ take_more ds (k - 1) d (omega arith) in
    let n : length (take (k - 1) ds) ≡ k - 1 = length-take-le (k - 1) ds (omega arith) in
    ap (λ (xs : List Declared). reverse (drop s xs)) t ∙ ap reverse (drop-append-le s (take (k - 1) ds) (get_or ds (k - 1) d ∷ []) (omega (arith, n))) ∙ reverse-append (drop s (take (k - 1) ds)) (get_or ds (k - 1) d ∷ [])

-- there is none
no_more : (ds : List Declared) (s k : ℕ) → k ≤ s → k ≤ length ds → reverse (drop s (take k ds)) ≡ []
no_more ds s k h le = ap reverse (drop_all s (take k ds) (omega (arith, h, length-take-le k ds le)))

-- the innermost of b blocks, taken off
innermost : (ss : List ℕ) (b d : ℕ) → 0 < b → b ≤ length ss → reverse (take b ss) ≡ get_or ss (b - 1) d ∷ reverse (take (b - 1) ss)
innermost ss b d lt le =
    let p : b - 1 + 1 ≡ b = omega arith in
    ap (λ (m : ℕ). reverse (take m ss)) (sym p) ∙ ap reverse (take_more ss (b - 1) d (omega arith)) ∙ reverse-push (take (b - 1) ss) (get_or ss (b - 1) d)

-- ---- the two loops

module _ (same : ℕ → ℕ → Bool) (ds : List C.Declaration) (ss : List ℕ) (i : ℕ) where
  abbrev D : List Declared
  D = map as_declared ds

  abbrev all : List (List Declared)
  all = blocks_of D (reverse ss)

  -- n declarations have been compared without a hit; the outer b blocks are left, with the declarations before k
  pub record Outer (n b k : ℕ) : Type 0 where
    pub inside : b ≤ length ss
    pub before : n + k ≡ length ds
    pub ordered : Ordered k (reverse (take b ss))
    pub rest : Left same i all n (blocks_of (take k D) (reverse (take b ss)))

  -- the same within a block, whose first declaration is s; b blocks are around it
  pub record Inner (b s n k : ℕ) : Type 0 where
    pub inside : b ≤ length ss
    pub before : n + k ≡ length ds
    pub least : s ≤ k
    pub ordered : Ordered s (reverse (take b ss))
    pub rest : Left same i all n (reverse (drop s (take k D)) ∷ blocks_of (take s D) (reverse (take b ss)))

  pub starts : Ordered (length ds) (reverse ss) → Outer 0 (length ss) (length ds)
  starts o =
      let t : take (length ss) ss ≡ ss = take_all (length ss) ss (omega arith) in
      let u : take (length ds) D ≡ D = take_all (length ds) D (omega (arith, length-map ds as_declared)) in
      record { inside = omega arith; before = omega arith; ordered = rw t o; rest = rw (t, u) (all_left same i all) }

  -- a block begins
  pub begins : {n b k s : ℕ} → Outer n b k → 0 < b → s ≡ get_or ss (b - 1) 0 → Inner (b - 1) s n k
  unfolding blocks_of
  begins {n} {b} {k} {s} o h e =
      let t : reverse (take b ss) ≡ s ∷ reverse (take (b - 1) ss) = innermost ss b 0 h o.inside ∙ ap (λ (x : ℕ). x ∷ reverse (take (b - 1) ss)) (sym e) in
      let p : Ordered k (s ∷ reverse (take (b - 1) ss)) = rw t at o.ordered in
      let r : Left same i all n (blocks_of (take k D) (s ∷ reverse (take (b - 1) ss))) = rw t at o.rest in
      let u : take s (take k D) ≡ take s D = take-take s k D p.0 in
      record { inside = omega (arith, o.inside); before = o.before; least = p.0; ordered = p.1; rest = rw u at r }

  -- it has no more
  pub ends : {n b k s : ℕ} → Inner b s n k → k ≤ s → Outer n b s
  ends {n} {b} {k} {s} a h =
      let q : k ≡ s = omega (arith, a.least, h) in
      record {
        inside = a.inside;
        before = omega (arith, a.before, q);
        ordered = a.ordered;
        rest = over same i (subst (λ (x : List Declared). Left same i all n (x ∷ blocks_of (take s D) (reverse (take b ss)))) (no_more D s k h (omega (arith, a.before, length-map ds as_declared))) a.rest);
      }

  module _ {b s n k : ℕ} (a : Inner b s n k) (h : s < k) (d : C.Declaration) where
    next : Left same i all n ((as_declared (get_or ds (k - 1) d) ∷ reverse (drop s (take (k - 1) D))) ∷ blocks_of (take s D) (reverse (take b ss)))
    next =
        let le : k ≤ length D = omega (arith, a.before, length-map ds as_declared) in
        let e : get_or D (k - 1) (as_declared d) ≡ as_declared (get_or ds (k - 1) d) = get_or-map as_declared ds (k - 1) d (as_declared d) (omega (arith, h, a.before)) in
        subst (λ (x : List Declared). Left same i all n (x ∷ blocks_of (take s D) (reverse (take b ss)))) (newest D s k (as_declared d) h le ∙ ap (λ (x : Declared). x ∷ reverse (drop s (take (k - 1) D))) e) a.rest

    -- the next declaration has another name, or the name
    pub misses : same (get_or ds (k - 1) d).name i ≡ false → Inner b s (n + 1) (k - 1)
    misses q = record { inside = a.inside; before = omega (arith, a.before); least = omega arith; ordered = a.ordered; rest = miss same i next q }

    pub hits : same (get_or ds (k - 1) d).name i ≡ true → Ended same i all (Some (get_or ds (k - 1) d).slot) (n + 1)
    hits q = hit same i next q

  -- no block is left
  pub leaves : {n b k : ℕ} → Outer n b k → b ≤ 0 → Ended same i all None n
  unfolding blocks_of
  leaves {n} {b} {k} o h =
      let e : b ≡ 0 = omega arith in
      missed same i (subst (λ (x : ℕ). Left same i all n (blocks_of (take k D) (reverse (take x ss)))) e o.rest)
