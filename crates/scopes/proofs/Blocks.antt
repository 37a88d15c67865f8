-- What the steps of the code do to the blocks.
use Rattle.std.proofs.Common.{◌≡◌, ℕ, suc, ◌+◌, ◌<◌, List, [], ◌∷◌, ◌++◌, length, map, take, drop, reverse, refl, ap, sym, add-one, arith, length-append, length-drop}
use Rattle.std.proofs.lemmas.List.{reverse-append, length-reverse, length-map, length-take-le, take_all, drop_all, take-map, map-append, take-append-le, drop-append-le}
use Rattle.events.specs.declared.event.Event.{Event}
use Rattle.events.specs.declared.event.Event.TheVariants.{Function, Parameter, Thing, Opens, Closes, Declares, Uses, Calls, Ends}
use Rattle.events.specs.Read.{as_event}
use Rattle.text_rules.specs.Names.{Declared, variable, seen}
use Rattle.text_rules.specs.Scopes.{Scope, scope, added, outer, entered}
use Rattle.scopes.specs.Memory.{as_declared, blocks_of, scope_of, Ordered, Packed}
use Rattle.scopes.specs.declared.scope.Declaration as C

pub packed-ordered : (end : ℕ) (ss : List ℕ) → Packed end ss → Ordered end ss
packed-ordered end [] h = tt
packed-ordered end (s ∷ ss) h = (h.0, packed-ordered s ss h.1)

-- ---- how many there are

pub length-blocks : (ds : List Declared) (ss : List ℕ) → length (blocks_of ds ss) ≡ length ss
unfolding blocks_of
length-blocks ds [] = refl
length-blocks ds (s ∷ ss) = ap suc (length-blocks (take s ds) ss)

pub length-seen : (ds : List Declared) (ss : List ℕ) → Packed (length ds) ss → length (seen (blocks_of ds ss)) ≡ length ds
unfolding blocks_of seen
length-seen ds [] h = sym h
length-seen ds (s ∷ ss) h =
    let e : length (take s ds) ≡ s = length-take-le s ds h.0 in
    let r = length-seen (take s ds) ss (rw e h.1) in
    omega (arith, r, e, h.0, length-append (reverse (drop s ds)) (seen (blocks_of (take s ds) ss)), length-reverse (drop s ds), length-drop s ds)

pub reverse-push : (ss : List ℕ) (s : ℕ) → reverse (ss ++ s ∷ []) ≡ s ∷ reverse ss
reverse-push ss s = reverse-append ss (s ∷ [])

-- ---- a block begins, and one ends

pub opened : (ds : List C.Declaration) (ss : List ℕ) (n : ℕ) → scope_of ds (ss ++ length ds ∷ []) n ≡ scope ([] ∷ blocks_of (map as_declared ds) (reverse ss)) n
unfolding blocks_of
opened ds ss n =
    let e : length (map as_declared ds) ≡ length ds = length-map ds as_declared in
    let t : take (length ds) (map as_declared ds) ≡ map as_declared ds = take_all (length ds) (map as_declared ds) (omega (arith, e)) in
    let d : drop (length ds) (map as_declared ds) ≡ [] = drop_all (length ds) (map as_declared ds) (omega (arith, e)) in
    rw (reverse-push ss (length ds), t, d)

pub closed : (ds : List C.Declaration) (ss : List ℕ) (s n : ℕ) → scope_of (take s ds) ss n ≡ scope (outer (blocks_of (map as_declared ds) (reverse (ss ++ s ∷ [])))) n
unfolding blocks_of outer
closed ds ss s n = rw (reverse-push ss s, take-map as_declared s ds)

-- ---- a declaration

-- d is the newest of the declarations of the innermost block
newer : (ds : List Declared) (i n s : ℕ) (ss : List ℕ) → Packed (length ds) (s ∷ ss) → blocks_of (ds ++ variable i n ∷ []) (s ∷ ss) ≡ added i n (blocks_of ds (s ∷ ss))
unfolding blocks_of added
newer ds i n s ss h =
    let t : take s (ds ++ variable i n ∷ []) ≡ take s ds = take-append-le s ds (variable i n ∷ []) h.0 in
    let d : drop s (ds ++ variable i n ∷ []) ≡ drop s ds ++ variable i n ∷ [] = drop-append-le s ds (variable i n ∷ []) h.0 in
    rw (t, d, reverse-append (drop s ds) (variable i n ∷ []))

module _ (ds : List C.Declaration) (d : C.Declaration) where
  pushed : map as_declared (ds ++ d ∷ []) ≡ map as_declared ds ++ variable d.name d.slot ∷ []
  pushed = map-append as_declared ds (d ∷ [])

  pub declared : (ss : List ℕ) (m : ℕ) → Packed (length ds) (reverse ss) → 0 < length ss
      → scope_of (ds ++ d ∷ []) ss m ≡ scope (added d.name d.slot (blocks_of (map as_declared ds) (reverse ss))) m
  declared ss m h lt = go (reverse ss) h (length-reverse ss)
    where
      go : (rs : List ℕ) → Packed (length ds) rs → length rs ≡ length ss → scope (blocks_of (map as_declared (ds ++ d ∷ [])) rs) m ≡ scope (added d.name d.slot (blocks_of (map as_declared ds) rs)) m
      go [] o e = absurd (omega (arith, e, lt))
      go (s ∷ rs) o e =
          let q : length (map as_declared ds) ≡ length ds = length-map ds as_declared in
          rw pushed (ap (λ (bs : List (List Declared)). scope bs m) (newer (map as_declared ds) d.name d.slot s rs (rw q o)))

  -- the first one, in a block that it opens
  pub declared-first : (m : ℕ) → ds ≡ [] → scope_of (ds ++ d ∷ []) ([] ++ length ds ∷ []) m ≡ scope (added d.name d.slot []) m
  unfolding blocks_of added
  declared-first m e = rw e

pub none-of : {X : Type 0} (xs : List X) → (0 < length xs → ⊥) → xs ≡ []
none-of [] f = refl
none-of (x ∷ xs) f = absurd (f (omega arith))

abbrev pub declaration : ℕ → ℕ → C.Declaration
declaration i n = record { name = i; slot = n }

-- what the code has after a declaration: ds and ss are what it had before it, ds' and ss' what it had where it wrote it
module _ (i n n' : ℕ) (ds ds' ds'' : List C.Declaration) (ss ss' : List ℕ) where
  pub declares-first : (k : ℕ) → ds' ≡ ds → n' ≡ n → k ≡ length ds → ss' ≡ ss ++ k ∷ [] → ss ≡ [] → Packed (length ds) (reverse ss) → ds'' ≡ ds' ++ declaration i n' ∷ []
      → scope_of ds'' ss' (n' + 1) ≡ scope (added i n (blocks_of (map as_declared ds) (reverse ss))) (suc n)
  unfolding blocks_of
  declares-first k a b q f e o g =
      let x : Packed (length ds) (reverse []) = rw e at o in
      rw (g, a, b, f, q, e, add-one) (declared-first ds (declaration i n) (suc n) (none-of ds (λ lt. omega (arith, lt, x))))

  pub declares : ds' ≡ ds → n' ≡ n → ss' ≡ ss → Packed (length ds) (reverse ss) → 0 < length ss → ds'' ≡ ds' ++ declaration i n' ∷ []
      → scope_of ds'' ss' (n' + 1) ≡ scope (added i n (blocks_of (map as_declared ds) (reverse ss))) (suc n)
  declares a b f o lt g = rw (g, a, b, f, add-one) (declared ds (declaration i n) ss (suc n) o lt)

  pub ordered-first : (k : ℕ) → ds' ≡ ds → k ≡ length ds → ss' ≡ ss ++ k ∷ [] → ss ≡ [] → Packed (length ds) (reverse ss) → ds'' ≡ ds' ++ declaration i n' ∷ [] → Packed (length ds'') (reverse ss')
  ordered-first k a q f e o g =
      let x : Packed (length ds) (reverse []) = rw e at o in
      rw (f, e, q) (omega (arith, x), x)

  pub ordered-later : ds' ≡ ds → ss' ≡ ss → Packed (length ds) (reverse ss) → 0 < length ss → ds'' ≡ ds' ++ declaration i n' ∷ [] → Packed (length ds'') (reverse ss')
  ordered-later a f o lt g = rw f (go (reverse ss) o (length-reverse ss))
    where
      go : (rs : List ℕ) → Packed (length ds) rs → length rs ≡ length ss → Packed (length ds'') rs
      go [] p e = absurd (omega (arith, e, lt))
      go (s ∷ rs) p e = (omega (arith, p.0, ap length a, ap length g, length-append ds' (declaration i n' ∷ [])), p.1)

-- ---- an event that is none of these

pub stays : (s : Scope) (x : Event) → ((i : ℕ) → x ≡ Function i → ⊥) → ((i : ℕ) → x ≡ Parameter i → ⊥) → ((i : ℕ) → x ≡ Declares i → ⊥) → (x ≡ Opens → ⊥) → (x ≡ Closes → ⊥) → s ≡ entered s (as_event x)
unfolding entered
stays s (Function i) f _ _ _ _ = absurd (f i refl)
stays s (Parameter i) _ p _ _ _ = absurd (p i refl)
stays s (Thing e i) _ _ _ _ _ = refl
stays s Opens _ _ _ o _ = absurd (o refl)
stays s Closes _ _ _ _ c = absurd (c refl)
stays s (Declares i) _ _ d _ _ = absurd (d i refl)
stays s (Uses i) _ _ _ _ _ = refl
stays s (Calls i n) _ _ _ _ _ = refl
stays s (Ends i b) _ _ _ _ _ = refl
