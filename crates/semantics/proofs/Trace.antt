-- The search finds the leaves of the tree, with any sound solver: its rows are those of the choices that return, in their order, and it finds a cut run where some choice is cut.
use Prim.Native.Nat.{ℕ, zero, suc, ◌+◌, ◌≤◌, ◌<◌}
use mathlib.Core.Path.{◌≡◌, refl, sym, ap, ap₂, ◌∙◌, subst}
use mathlib.Core.Bool.{Bool, true, false, not, ◌&&◌}
use mathlib.Core.Option.{Option, none, some}
use mathlib.Core.List.{List, [], ◌∷◌, ◌++◌, map}
use native.Mathlib.Omega.{arith}
use native.Mathlib.Nat.{le_of_suc-le-suc}
use Prim.Native.Nat.{suc-le-suc}
use lib.ListN.{length, get_or, length-append, get_or-eq_default}
use lib.IntN.{ℤ, pos}
use lib.Signed.{le_z}
use lib.Dec.{T, leb, ltb, leb→le, le→leb, ltb→lt, lt→ltb, nltb→le, eqb→eq}
use Rattle.semantics.specs.Int.{Cmp}
use Rattle.semantics.specs.Does.{Does, returned, failed, cut, stuck, step, free, test, within}
use Rattle.semantics.specs.Program.{Window}
use Rattle.semantics.specs.Run.{returns, cuts, pair_of}
use Rattle.semantics.specs.Plans.{noted}
use Rattle.semantics.specs.Search.{Value, unknown, under, all32, negated, Solver, Test, as_test, meets, settings, Move, Paths, fork, side, paths, moves}
use Rattle.semantics.proofs.Order.{up, down, le_z→, →leZ}
use Rattle.semantics.proofs.Range.{In, Sub, sub_refl, sub_trans, Subs, Within, and_left, and_right, and_both, bool-ext}
use Rattle.semantics.proofs.Narrow.{holds_negated}
use Rattle.semantics.proofs.Sound.{Narrower, Sound, passes}
use Rattle.semantics.proofs.Keep.{All, keep, keep_all, keep-none, keep_same, keep-keep, keep-if, all_of, all_map}
use Rattle.semantics.proofs.Ends.{leaf, sized, longer, inside, opens, ends}
use Rattle.semantics.proofs.Settings.{fits, fitted, lists, settings-lists, Inside, lists-in, false_of}
use Rattle.semantics.proofs.Own.{Given, pair-given, Asks}
use Rattle.semantics.proofs.Seen.{Seen, join, join-nothing, seen_in, seen_of, seen_in-append, seen-split, seen-started, seen-tried, seen-probed, seen-failed, ends-nil}

-- ---- windows

snoc-cases : (ws : List Window) (w d : Window) (i : ℕ) (P : Window → Type 0) → (i < length ws → P (get_or ws i d)) → (i ≡ length ws → P w) → (length ws < i → P d) → P (get_or (ws ++ w ∷ []) i d)
snoc-cases [] w d zero P f g h = g refl
snoc-cases [] w d (suc i) P f g h = h (omega arith)
snoc-cases (v ∷ ws) w d zero P f g h = f (omega arith)
snoc-cases (v ∷ ws) w d (suc i) P f g h = snoc-cases ws w d i P (λ l. f (suc-le-suc l)) (λ e. g (ap suc e)) (λ l. h (suc-le-suc l))

within-fits : (ws : List Window) (s : List ℤ) → Within ws s → T (fits ws s)
unfolding fits
within-fits [] s h = tt
within-fits (w ∷ ws) [] h = tt
within-fits (w ∷ ws) (v ∷ s) h = and_both (inside w v) (fits ws s) (and_both (le_z w.low v) (le_z v w.high) (→leZ w.low v (h 0).least) (→leZ v w.high (h 0).most)) (within-fits ws s (λ i. h (suc i)))

inside-in : (w : Window) (v : ℤ) → T (inside w v) → In w v
inside-in w v t = record { least = le_z→ w.low v (and_left (le_z w.low v) (le_z v w.high) t); most = le_z→ v w.high (and_right (le_z w.low v) (le_z v w.high) t) }

in-inside : (w : Window) (v : ℤ) → In w v → T (inside w v)
in-inside w v h = and_both (le_z w.low v) (le_z v w.high) (→leZ w.low v h.least) (→leZ v w.high h.most)

-- a list that lies in narrower windows lies in the wider ones
fits_wider : (ws ps : List Window) (s : List ℤ) → length ws ≡ length ps → ((i : ℕ) → Sub (get_or ws i all32) (get_or ps i all32)) → T (fits ws s) → T (fits ps s)
unfolding fits
fits_wider [] [] s e h t = tt
fits_wider [] (p ∷ ps) s e h t = absurd (omega arith)
fits_wider (w ∷ ws) [] s e h t = tt
fits_wider (w ∷ ws) (p ∷ ps) [] e h t = tt
fits_wider (w ∷ ws) (p ∷ ps) (v ∷ s) e h t =
    let i = inside-in w v (and_left (inside w v) (fits ws s) t) in
    let j = h 0 in
    and_both (inside p v) (fits ps s) (in-inside p v (record { least = omega (arith, i.least, j.least); most = omega (arith, i.most, j.most) }))
    (fits_wider ws ps s (omega arith) (λ i. h (suc i)) (and_right (inside w v) (fits ws s) t))

-- one window more, and one value that lies in it
fits_last : (ps : List Window) (w : Window) (s : List ℤ) → length ps < length s → fits (ps ++ w ∷ []) s ≡ (fits ps s && inside w (get_or s (length ps) (pos 0)))
unfolding fits
fits_last [] w [] l = absurd (omega arith)
fits_last [] w (v ∷ s) l = and-true (inside w v)
  where
    and-true : (b : Bool) → (b && true) ≡ b
    and-true true = refl
    and-true false = refl
fits_last (p ∷ ps) w [] l = absurd (omega arith)
fits_last (p ∷ ps) w (v ∷ s) l = ap (λ b. inside p v && b) (fits_last ps w s (le_of_suc-le-suc l)) ∙ assoc (inside p v) (fits ps s) (inside w (get_or s (length ps) (pos 0)))
  where
    assoc : (a b c : Bool) → (a && (b && c)) ≡ ((a && b) && c)
    assoc true b c = refl
    assoc false b c = refl

narrower-free : (ws ps : List Window) (w : Window) → length ws ≡ length ps → ((i : ℕ) → Sub (get_or ws i all32) (get_or ps i all32)) → (i : ℕ) → Sub (get_or (ws ++ w ∷ []) i all32) (get_or (ps ++ w ∷ []) i all32)
narrower-free [] [] w e h zero = sub_refl w
narrower-free [] [] w e h (suc i) = sub_refl all32
narrower-free [] (p ∷ ps) w e h i = absurd (omega arith)
narrower-free (v ∷ ws) [] w e h i = absurd (omega arith)
narrower-free (v ∷ ws) (p ∷ ps) w e h zero = h 0
narrower-free (v ∷ ws) (p ∷ ps) w e h (suc i) = narrower-free ws ps w (omega arith) (λ i. h (suc i)) i

one_more : (ws : List Window) (w : Window) → length (ws ++ w ∷ []) ≡ suc (length ws)
one_more ws w = omega (arith, length-append ws (w ∷ []))

pub by_less : {P : Type 0} (m n : ℕ) → (m < n → P) → (n ≤ m → P) → P
by_less {P} m n f g = go (ltb m n) (ltb→lt m n) (nltb→le m n)
  where
    go : (t : Bool) → (T t → m < n) → (T (not t) → n ≤ m) → P
    go true h k = f (h tt)
    go false h k = g (k tt)

zero-32 : In all32 (pos 0)
unfolding all32 up down
zero-32 = record { least = omega arith; most = omega arith }

pub in-32 : (s : List ℤ) → Inside all32 s → (i : ℕ) → In all32 (get_or s i (pos 0))
in-32 s h i = by_less i (length s) (h i) (λ l. subst (In all32) (sym (get_or-eq_default s (pos 0) {n = i} l)) zero-32)

module _ (solver : Solver) (sound : Sound solver) (job : Window) (small : Sub job all32) where
  -- a list has a value for each of the pairs that the free declarations so far started with, and they lie in these
  abbrev begun : List Window → List ℤ → Bool
  begun ps s = leb (length ps) (length s) && fits ps s

  -- the lists of numbers that have begun so and meet the tests
  abbrev candidates : List Window → List Test → List (List ℤ)
  candidates ps ts = keep (λ s. begun ps s && meets ts s) (lists 8 all32)

  abbrev trace : Does Value → List Window → List Test → List Move
  trace t ws ts = moves (paths solver job t ws ts)

  -- the windows lie in the pairs that they started as, and keep every list that lies in these and meets the tests
  pub record Keeps (ws ps : List Window) (ts : List Test) : Type 0 where
    pub narrower : Narrower ws ps
    pub within32 : Subs all32 ps
    pub keeps : (s : List ℤ) → Inside all32 s → length ps ≤ length s → T (fits ps s) → T (meets ts s) → Within ws s

  -- from a node on, the search finds the leaves
  pub record Good (f : ℕ) (t : Does Value) : Type 0 where
    pub good : (ws ps : List Window) (ts : List Test) → length ws + f ≤ 8 → Keeps ws ps ts → seen_in (trace t ws ts) ≡ seen_of (ends job (length ws) t (candidates ps ts))

  subs-windows : (ws ps : List Window) → Narrower ws ps → Subs all32 ps → Subs all32 ws
  subs-windows ws ps n h i l = sub_trans (n.each i) (h i (omega (arith, n.many)))

  at_leaf : (ws ps : List Window) (ts : List Test) → length ws ≤ 8 → Keeps ws ps ts → keep (meets ts) (settings ws) ≡ keep (sized (length ws)) (candidates ps ts)
  at_leaf ws ps ts l k =
      ap (keep (meets ts)) (sym (settings-lists all32 ws 8 l (subs-windows ws ps k.narrower k.within32)))
      ∙ keep-keep (meets ts) (fitted ws) (lists 8 all32)
      ∙ keep_same _ _ (all_map agree (lists-in all32 8))
      ∙ sym (keep-keep (sized (length ws)) (λ s. begun ps s && meets ts s) (lists 8 all32))
    where
      many : length ws ≡ length ps
      many = k.narrower.many

      agree : (s : List ℤ) → Inside all32 s → (meets ts s && fitted ws s) ≡ (sized (length ws) s && (begun ps s && meets ts s))
      agree s i = bool-ext _ _
          (λ t. let m = and_left (meets ts s) (fitted ws s) t in
          let q = and_right (meets ts s) (fitted ws s) t in
          let z = and_left (sized (length ws) s) (fits ws s) q in
          let e = eqb→eq (length s) (length ws) z in
          and_both (sized (length ws) s) _ z (and_both (begun ps s) (meets ts s)
          (and_both (leb (length ps) (length s)) (fits ps s) (le→leb (length ps) (length s) (omega (arith, e, many)))
          (fits_wider ws ps s many k.narrower.each (and_right (sized (length ws) s) (fits ws s) q))) m))
          (λ t. let z = and_left (sized (length ws) s) (begun ps s && meets ts s) t in
          let r = and_right (sized (length ws) s) (begun ps s && meets ts s) t in
          let b = and_left (begun ps s) (meets ts s) r in
          let m = and_right (begun ps s) (meets ts s) r in
          and_both (meets ts s) (fitted ws s) m (and_both (sized (length ws) s) (fits ws s) z
          (within-fits ws s (k.keeps s i (leb→le (length ps) (length s) (and_left (leb (length ps) (length s)) (fits ps s) b)) (and_right (leb (length ps) (length s)) (fits ps s) b) m))))

  good-returned : (f : ℕ) (v : Value) → Good f (returned v)
  unfolding paths moves ends
  good-returned f v = record { good = λ ws ps ts l k. seen-tried v ts (settings ws) ∙ ap (λ m. seen_of (map (leaf (λ s. returns (under s v))) m)) (at_leaf ws ps ts (omega arith) k) }

  good-failed : (f : ℕ) → Good f failed
  unfolding paths moves ends seen_in
  good-failed f = record { good = λ ws ps ts l k. seen-failed (keep (sized (length ws)) (candidates ps ts)) }

  good-cut : (f : ℕ) → Good f cut
  unfolding paths moves ends
  good-cut f = record { good = λ ws ps ts l k. seen-probed ts (settings ws) ∙ ap (λ m. seen_of (map (leaf (λ s. cuts)) m)) (at_leaf ws ps ts (omega arith) k) }

  good-stuck : (f : ℕ) → Good f stuck
  unfolding paths moves ends seen_in seen_of
  good-stuck f = record { good = λ ws ps ts l k. refl }

  good-step : {f : ℕ} {t : Does Value} → Good f t → Good f (step t)
  unfolding paths moves ends seen_in
  good-step p = record { good = λ ws ps ts l k. p.good ws ps ts l k }

  -- a free declaration reached: of the candidates those that have a value for it, in its pair
  begun_more : (ps : List Window) (w : Window) (s : List ℤ) → (opens w (length ps) s && begun ps s) ≡ begun (ps ++ w ∷ []) s
  begun_more ps w s = bool-ext _ _
      (λ t. let o = and_left (opens w n s) (begun ps s) t in
      let b = and_right (opens w n s) (begun ps s) t in
      let l = ltb→lt n (length s) (and_left (longer n s) (inside w v) o) in
      and_both (leb (length (ps ++ w ∷ [])) (length s)) (fits (ps ++ w ∷ []) s) (le→leb (length (ps ++ w ∷ [])) (length s) (omega (arith, l, one_more ps w)))
      (subst T (sym (fits_last ps w s l)) (and_both (fits ps s) (inside w v) (and_right (leb n (length s)) (fits ps s) b) (and_right (longer n s) (inside w v) o))))
      (λ t. let l : n < length s = omega (arith, leb→le (length (ps ++ w ∷ [])) (length s) (and_left (leb (length (ps ++ w ∷ [])) (length s)) (fits (ps ++ w ∷ []) s) t), one_more ps w) in
      let f = subst T (fits_last ps w s l) (and_right (leb (length (ps ++ w ∷ [])) (length s)) (fits (ps ++ w ∷ []) s) t) in
      and_both (opens w n s) (begun ps s) (and_both (longer n s) (inside w v) (lt→ltb n (length s) l) (and_right (fits ps s) (inside w v) f))
      (and_both (leb n (length s)) (fits ps s) (le→leb n (length s) (omega arith)) (and_left (fits ps s) (inside w v) f)))
    where
      n : ℕ
      n = length ps

      v : ℤ
      v = get_or s (length ps) (pos 0)

  more-candidates : (n : ℕ) (ps : List Window) (w : Window) (ts : List Test) → n ≡ length ps → keep (opens w n) (candidates ps ts) ≡ candidates (ps ++ w ∷ []) ts
  more-candidates n ps w ts e =
      rw e (keep-keep (opens w (length ps)) (λ s. begun ps s && meets ts s) (lists 8 all32)
      ∙ keep_same _ _ (all_of (λ s. assoc (opens w (length ps) s) (begun ps s) (meets ts s) ∙ ap (λ b. b && meets ts s) (begun_more ps w s)) (lists 8 all32)))
    where
      assoc : (a b c : Bool) → (a && (b && c)) ≡ ((a && b) && c)
      assoc true b c = refl
      assoc false b c = refl

  keeps-free : (ws ps : List Window) (ts : List Test) (w : Window) → Sub w all32 → Keeps ws ps ts → Keeps (ws ++ w ∷ []) (ps ++ w ∷ []) ts
  keeps-free ws ps ts w h k = record {
    narrower = record { many = omega (arith, one_more ws w, one_more ps w, k.narrower.many); each = narrower-free ws ps w k.narrower.many k.narrower.each };
    within32 = λ i l. snoc-cases ps w all32 i (λ w. Sub w all32) (λ p. k.within32 i p) (λ e. h) (λ p. sub_refl all32);
    keeps = λ s i l f m.
        let q : length ps < length s = omega (arith, one_more ps w) in
        let g = subst T (fits_last ps w s q) f in
        let last = inside-in w (get_or s (length ps) (pos 0)) (and_right (fits ps s) (inside w (get_or s (length ps) (pos 0))) g) in
        λ j. snoc-cases ws w all32 j (λ w. In w (get_or s j (pos 0)))
        (λ p. k.keeps s i (omega arith) (and_left (fits ps s) (inside w (get_or s (length ps) (pos 0))) g) m j)
        (λ e. subst (λ n. In w (get_or s n (pos 0))) (sym (e ∙ k.narrower.many)) last)
        (λ p. in-32 s i j);
  }

  good-free : {f : ℕ} {o : Option Window} {k : Value → Does Value} → Given (λ w. Sub w all32) o → ((i : ℕ) → Good f (k (unknown i))) → Good (suc f) (free o k)
  unfolding paths moves ends seen_in
  good-free {f} {o} {k} g p = record {
    good = λ ws ps ts l q.
        let w = pair_of job o in
        let t = k (unknown (length ws)) in
        (p (length ws)).good (ws ++ w ∷ []) (ps ++ w ∷ []) ts (omega (arith, one_more ws w)) (keeps-free ws ps ts w (pair-given (λ w. Sub w all32) job small o g) q)
        ∙ ap (λ n. seen_of (ends job n t (candidates (ps ++ w ∷ []) ts))) (one_more ws w)
        ∙ ap (λ m. seen_of (ends job (suc (length ws)) t m)) (sym (more-candidates (length ws) ps w ts q.narrower.many))
        ∙ sym (seen-started o (ends job (suc (length ws)) t (keep (opens w (length ws)) (candidates ps ts))));
  }

  -- ---- a test

  tested : (ps : List Window) (ts : List Test) (c : Cmp) (a b : Value) → keep (passes c a b) (candidates ps ts) ≡ candidates ps (as_test c a b ∷ ts)
  unfolding meets
  tested ps ts c a b =
      keep-keep (passes c a b) (λ s. begun ps s && meets ts s) (lists 8 all32)
      ∙ keep_same _ _ (all_of (λ s. swap (passes c a b s) (begun ps s) (meets ts s)) (lists 8 all32))
    where
      swap : (x y z : Bool) → (x && (y && z)) ≡ (y && (x && z))
      swap true true z = refl
      swap true false z = refl
      swap false true z = refl
      swap false false z = refl

  keeps-test : (ws us ps : List Window) (ts : List Test) (c : Cmp) (a b : Value) → solver.narrow c a b ws ≡ some us → Keeps ws ps ts → Keeps us ps (as_test c a b ∷ ts)
  unfolding meets
  keeps-test ws us ps ts c a b e k =
      let n = sound.narrows c a b ws us e in
      record {
        narrower = record { many = n.many ∙ k.narrower.many; each = λ i. sub_trans (n.each i) (k.narrower.each i) };
        within32 = k.within32;
        keeps = λ s i l f m. sound.keeps c a b ws us e s (k.keeps s i l f (and_right (passes c a b s) (meets ts s) m)) (and_left (passes c a b s) (meets ts s) m);
      }

  -- all candidates are in the windows
  all-within : (ws ps : List Window) (ts : List Test) → Keeps ws ps ts → All (Within ws) (candidates ps ts)
  all-within ws ps ts k =
      keep-if (λ s. begun ps s && meets ts s)
      (all_map (λ s i t. let b = and_left (begun ps s) (meets ts s) t in
      k.keeps s i (leb→le (length ps) (length s) (and_left (leb (length ps) (length s)) (fits ps s) b)) (and_right (leb (length ps) (length s)) (fits ps s) b) (and_right (begun ps s) (meets ts s) t)) (lists-in all32 8))

  -- one side of a choice, in its windows, or closed
  branch : {f : ℕ} {t : Does Value} → Good f t → (ws ps : List Window) (ts : List Test) (c : Cmp) (a b : Value) → length ws + f ≤ 8 → Keeps ws ps ts
      → seen_in (moves (side (solver.narrow c a b ws) (λ us. paths solver job t us (as_test c a b ∷ ts)))) ≡ seen_of (ends job (length ws) t (keep (passes c a b) (candidates ps ts)))
  unfolding moves seen_in seen_of
  branch {f} {t} p ws ps ts c a b l k = go (solver.narrow c a b ws) refl
    where
      shut : solver.narrow c a b ws ≡ none → (s : List ℤ) → Within ws s → passes c a b s ≡ false
      shut e s w = false_of (passes c a b s) (sound.closes c a b ws e s w)

      go : (x : Option (List Window)) → solver.narrow c a b ws ≡ x → seen_in (moves (side x (λ us. paths solver job t us (as_test c a b ∷ ts)))) ≡ seen_of (ends job (length ws) t (keep (passes c a b) (candidates ps ts)))
      go none e = sym (ap seen_of (ap (ends job (length ws) t) (keep-none (passes c a b) (all_map (shut e) (all-within ws ps ts k))) ∙ ends-nil job (length ws) t))
      go (some us) e =
          let n = sound.narrows c a b ws us e in
          p.good us ps (as_test c a b ∷ ts) (omega (arith, n.many)) (keeps-test ws us ps ts c a b e k)
          ∙ ap (λ n. seen_of (ends job n t (candidates ps (as_test c a b ∷ ts)))) n.many
          ∙ ap (λ m. seen_of (ends job (length ws) t m)) (sym (tested ps ts c a b))

  -- the leaves below a test
  abbrev below : ℕ → Cmp → Value → Value → (Bool → Does Value) → List (List ℤ) → Seen
  below n c a b k m = seen_of (map (noted true) (ends job n (k true) (keep (passes c a b) m)) ++ map (noted false) (ends job n (k false) (keep (λ s. not (passes c a b s)) m)))

  below_true : (n : ℕ) (c : Cmp) (a b : Value) (k : Bool → Does Value) (m : List (List ℤ)) → All (λ s. passes c a b s ≡ true) m → seen_of (ends job n (k true) m) ≡ below n c a b k m
  unfolding seen_of
  below_true n c a b k m h = sym (
      seen-split (ends job n (k true) (keep (passes c a b) m)) (ends job n (k false) (keep (λ s. not (passes c a b s)) m))
      ∙ ap₂ (λ l r. join (seen_of (ends job n (k true) l)) (seen_of (ends job n (k false) r))) (keep_all (passes c a b) h) (keep-none (λ s. not (passes c a b s)) (all_map (λ s e. ap not e) h))
      ∙ ap (λ r. join (seen_of (ends job n (k true) m)) (seen_of r)) (ends-nil job n (k false))
      ∙ join-nothing (seen_of (ends job n (k true) m)))

  below_false : (n : ℕ) (c : Cmp) (a b : Value) (k : Bool → Does Value) (m : List (List ℤ)) → All (λ s. passes c a b s ≡ false) m → seen_of (ends job n (k false) m) ≡ below n c a b k m
  unfolding seen_of
  below_false n c a b k m h = sym (
      seen-split (ends job n (k true) (keep (passes c a b) m)) (ends job n (k false) (keep (λ s. not (passes c a b s)) m))
      ∙ ap₂ (λ l r. join (seen_of (ends job n (k true) l)) (seen_of (ends job n (k false) r))) (keep-none (passes c a b) h) (keep_all (λ s. not (passes c a b s)) (all_map (λ s e. ap not e) h))
      ∙ ap (λ l. join (seen_of l) (seen_of (ends job n (k false) m))) (ends-nil job n (k true)))

  -- a comparison that is decided has the outcome of all candidates; else it is a choice
  good-test : {f : ℕ} {c : Cmp} {a b : Value} {k : Bool → Does Value} → ((o : Bool) → Good f (k o)) → Good f (test c a b k)
  unfolding paths moves ends seen_in
  good-test {f} {c} {a} {b} {k} p = record { good = λ ws ps ts l q. go ws ps ts l q (solver.decide c a b ws) refl }
    where
      all_one : (ws ps : List Window) (ts : List Test) (o : Bool) → Keeps ws ps ts → solver.decide c a b ws ≡ some o → All (λ s. passes c a b s ≡ o) (candidates ps ts)
      all_one ws ps ts o q e = all_map (sound.decides c a b ws o e) (all-within ws ps ts q)

      go : (ws ps : List Window) (ts : List Test) → length ws + f ≤ 8 → Keeps ws ps ts → (d : Option Bool) → solver.decide c a b ws ≡ d
          → seen_in (moves (elim d as (λ d. Paths) [
            | some o ↦ paths solver job (k o) ws ts
            | none ↦ fork (side (solver.narrow c a b ws) (λ us. paths solver job (k true) us (as_test c a b ∷ ts))) (side (solver.narrow (negated c) a b ws) (λ us. paths solver job (k false) us (as_test (negated c) a b ∷ ts)))
          ]))
          ≡ below (length ws) c a b k (candidates ps ts)
      go ws ps ts l q (some true) e = (p true).good ws ps ts l q ∙ below_true (length ws) c a b k (candidates ps ts) (all_one ws ps ts true q e)
      go ws ps ts l q (some false) e = (p false).good ws ps ts l q ∙ below_false (length ws) c a b k (candidates ps ts) (all_one ws ps ts false q e)
      go ws ps ts l q none e =
          let m = candidates ps ts in
          seen_in-append (moves (side (solver.narrow c a b ws) (λ us. paths solver job (k true) us (as_test c a b ∷ ts)))) _
          ∙ ap₂ join (branch (p true) ws ps ts c a b l q)
          (branch (p false) ws ps ts (negated c) a b l q
          ∙ ap (λ r. seen_of (ends job (length ws) (k false) r)) (keep_same _ _ (all_of (λ s. holds_negated c (under s a) (under s b)) m)))
          ∙ sym (seen-split (ends job (length ws) (k true) (keep (passes c a b) m)) (ends job (length ws) (k false) (keep (λ s. not (passes c a b s)) m)))

  pub search-good : (t : Does Value) → Asks (λ w. Sub w all32) t → (l f : ℕ) → Good f (within l f t)
  unfolding within Asks
  search-good (returned v) h l f = good-returned f v
  search-good failed h l f = good-failed f
  search-good cut h l f = good-cut f
  search-good stuck h l f = good-stuck f
  search-good (step t) h zero f = good-cut f
  search-good (step t) h (suc l) f = good-step (search-good t h l f)
  search-good (free o k) h zero f = good-cut f
  search-good (free o k) h (suc l) zero = good-cut zero
  search-good (free o k) h (suc l) (suc f) = good-free h.0 (λ i. search-good (k (unknown i)) (h.1 (unknown i)) l f)
  search-good (test c a b k) h l f = good-test (λ o. search-good (k o) (h o) l f)
