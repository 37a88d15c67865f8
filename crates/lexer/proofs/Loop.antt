-- Laws of `scan`: what one turn of the lexer's loop does.
use Prim.Native.Nat.{ℕ, zero, suc, ◌+◌, ◌-◌, ◌≤◌, ◌<◌, min}
use mathlib.Core.Path.{◌≡◌, refl, sym, ap, ◌∙◌, subst}
use mathlib.Core.Bool.{Bool, true, false}
use mathlib.Core.List.{List, [], ◌∷◌, ◌++◌, append_assoc}
use native.Mathlib.Omega.{arith}
use native.Mathlib.Numerals.{add-one}
use native.Mathlib.Nat.{add-zero, add-suc, suc-add}
use native.Mathlib.Decide.{dec_lt}
use lib.ListN.{length, take, drop, set, length-drop}
use lib.Seq.{drop-cons, get_or-set_same, get_or-set_other}
use lib.Dec.{eqb, ltb}
use Rattle.std.specs.Bool.{then_some}
use Rattle.std.specs.Option.{option_or}
use Rattle.std.specs.Prelude.{Option, None, Some}
use borrow.Author.Tests.{eqb-true, lt-ltb, le-ltb, ltb-false}
use Rattle.syntax.specs.Token.{k_end, k_number}
use Rattle.lexer.specs.Lex.{
  is_blank,
  kind_of,
  longest_within,
  longest,
  value_of,
  Token,
  Front,
  blank,
  nothing,
  token,
  front,
  Scanned,
  found,
  stray,
  before,
  scan,
  Lexing,
  refused,
  none_large,
  lexed,
}
use Rattle.lexer.specs.Tokens.{Longest}
use Rattle.lexer.specs.Parts.{limit, held, held_front, large_as, stored}

longest-le : (n : ℕ) (l : List ℕ) → longest_within n l ≤ n
unfolding longest_within
longest-le zero l = omega arith
longest-le (suc n) l = go (eqb (kind_of (take (suc n) l)) k_end) (longest-le n l)
  where
    go : (t : Bool) → longest_within n l ≤ n → elim t [ true ↦ longest_within n l | false ↦ suc n ] ≤ suc n
    go true h = omega arith
    go false h = omega arith

-- what the longest match finds is a token
longest-token : (n : ℕ) (l : List ℕ) (m : ℕ) → longest_within n l ≡ suc m → eqb (kind_of (take (suc m) l)) k_end ≡ false
unfolding longest_within
longest-token zero l m e = absurd (omega arith)
longest-token (suc n) l m e = go (eqb (kind_of (take (suc n) l)) k_end) refl e (λ f. longest-token n l m f)
  where
    go : (t : Bool) → eqb (kind_of (take (suc n) l)) k_end ≡ t → elim t [ true ↦ longest_within n l | false ↦ suc n ] ≡ suc m
        → (longest_within n l ≡ suc m → eqb (kind_of (take (suc m) l)) k_end ≡ false) → eqb (kind_of (take (suc m) l)) k_end ≡ false
    go true q e f = f e
    go false q e f = let z : n ≡ m = omega arith in subst (λ (x : ℕ). eqb (kind_of (take (suc x) l)) k_end ≡ false) z q

pub front-longest : (l : List ℕ) (k m v : ℕ) → front l ≡ token k m v → Longest l k m v
unfolding front
front-longest [] k m v e = absurd (let z : ◌≡◌ {A = ℕ} 0 1 = cc in omega arith)
front-longest (b ∷ bs) k m v e = go (is_blank b) (longest (b ∷ bs)) refl e
  where
    go : (t : Bool) (n : ℕ) → longest (b ∷ bs) ≡ n
        → elim t [ true ↦ blank | false ↦ elim n [ zero ↦ nothing | suc n ↦ token (kind_of (take (suc n) (b ∷ bs))) (suc n) (value_of (take (suc n) (b ∷ bs))) ] ] ≡ token k m v
        → Longest (b ∷ bs) k m v
    go true n q e = absurd (let z : ◌≡◌ {A = ℕ} 0 1 = cc in omega arith)
    go false zero q e = absurd (let z : ◌≡◌ {A = ℕ} 0 1 = cc in omega arith)
    go false (suc n) q e =
        let s : suc n ≡ m = cc in
        let j : kind_of (take (suc n) (b ∷ bs)) ≡ k = cc in
        let w : value_of (take (suc n) (b ∷ bs)) ≡ v = cc in
        record {
          some = omega arith;
          fits = omega (arith, longest-le (length (b ∷ bs)) (b ∷ bs));
          longest = sym s ∙ sym q;
          kind-of = sym j ∙ ap (λ (x : ℕ). kind_of (take x (b ∷ bs))) s;
          is-token = ap (λ (x : ℕ). eqb x k_end) (sym j) ∙ longest-token (length (b ∷ bs)) (b ∷ bs) n q;
          value-of = sym w ∙ ap (λ (x : ℕ). value_of (take x (b ∷ bs))) s;
        }

-- the rest of a token
rest : (l : List ℕ) (k i : ℕ) → i + k ≤ length l → scan i k (drop i l) ≡ scan (i + k) 0 (drop (i + k) l)
unfolding scan
rest l zero i h = rw add-zero
rest l (suc k) i h = rw (drop-cons l i 0 (omega arith)) (rest l k (suc i) (omega arith) ∙ rw (suc-add, add-suc))

module _ (l : List ℕ) (i : ℕ) (h : i < length l) where
  pub at-blank : front (drop i l) ≡ blank → scan i 0 (drop i l) ≡ scan (i + 1) 0 (drop (i + 1) l)
  unfolding scan
  at-blank e = rw (drop-cons l i 0 h) (rw (sym (ap front (drop-cons l i 0 h)) ∙ e, scan) (rw add-one))

  pub at-nothing : front (drop i l) ≡ nothing → scan i 0 (drop i l) ≡ stray [] i
  unfolding scan
  at-nothing e = rw (drop-cons l i 0 h) (rw (sym (ap front (drop-cons l i 0 h)) ∙ e, scan))

  pub at_size : (k m v : ℕ) → front (drop i l) ≡ token k m v → (1 ≤ m) × (i + m ≤ length l)
  at_size k m v e = let f = front-longest (drop i l) k m v e in omega (arith, length-drop i l)

  pub at-token : (k m v : ℕ) → front (drop i l) ≡ token k m v → scan i 0 (drop i l) ≡ before (record { kind = k; place = i; value = v }) (scan (i + m) 0 (drop (i + m) l))
  unfolding scan
  at-token k m v e = rw (drop-cons l i 0 h) (rw (sym (ap front (drop-cons l i 0 h)) ∙ e, scan)
      (let z = at_size k m v e in
      let q : suc i + (m - 1) ≡ i + m = omega (arith, z.0) in
      ap (before (record { kind = k; place = i; value = v })) (rest l (m - 1) (suc i) (omega (arith, z.0, z.1)) ∙ ap (λ (j : ℕ). scan j 0 (drop j l)) q)))

-- what a piece says of the front that it stands for
pub piece-blank : (f : Front) → held_front f ≡ blank → f ≡ blank
piece-blank blank e = refl
piece-blank nothing e = absurd (let z : ◌≡◌ {A = ℕ} 0 1 = cc in omega arith)
piece-blank (token k m v) e = absurd (let z : ◌≡◌ {A = ℕ} 0 1 = cc in omega arith)

pub piece-nothing : (f : Front) → held_front f ≡ nothing → f ≡ nothing
piece-nothing blank e = absurd (let z : ◌≡◌ {A = ℕ} 0 1 = cc in omega arith)
piece-nothing nothing e = refl
piece-nothing (token k m v) e = absurd (let z : ◌≡◌ {A = ℕ} 0 1 = cc in omega arith)

pub piece-token : (f : Front) (k m w : ℕ) → held_front f ≡ token k m w → (v : ℕ) × (f ≡ token k m v) × (w ≡ held k v)
piece-token blank k m w e = absurd (let z : ◌≡◌ {A = ℕ} 0 1 = cc in omega arith)
piece-token nothing k m w e = absurd (let z : ◌≡◌ {A = ℕ} 0 1 = cc in omega arith)
piece-token (token j n v) k m w e =
    let a : j ≡ k = cc in
    let b : n ≡ m = cc in
    let c : held j v ≡ w = cc in
    (v, cc, sym c ∙ ap (λ (x : ℕ). held x v) a)

-- a value that is held only up to the limit is large where the whole one is, and whole where it is not
number-held : (v : ℕ) → ltb 2147483647 (min v limit) ≡ ltb 2147483647 v
number-held v = go (dec_lt 2147483647 v)
  where
    go : Dec (2147483647 < v) → ltb 2147483647 (min v limit) ≡ ltb 2147483647 v
    go (yes p) = lt-ltb 2147483647 (min v limit) (omega arith) ∙ sym (lt-ltb 2147483647 v p)
    go (no p) = let q : min v limit ≡ v = omega (arith, p) in ap (ltb 2147483647) q

held-large : (k v : ℕ) → large_as k (held k v) ≡ large_as k v
unfolding held
held-large k v = go (eqb k k_number) refl
  where
    go : (t : Bool) → eqb k k_number ≡ t → large_as k (elim t [ true ↦ min v limit | false ↦ v ]) ≡ large_as k v
    go true e = let q = eqb-true k k_number e in ap (λ (x : ℕ). large_as x (min v limit)) q ∙ number-held v ∙ sym (ap (λ (x : ℕ). large_as x v) q)
    go false e = refl

held_small : (k v : ℕ) → large_as k v ≡ false → held k v ≡ v
unfolding held
held_small k v s = go (eqb k k_number) refl
  where
    go : (t : Bool) → eqb k k_number ≡ t → elim t [ true ↦ min v limit | false ↦ v ] ≡ v
    go true e =
        let q = eqb-true k k_number e in
        let f : ltb 2147483647 v ≡ false = sym (ap (λ (x : ℕ). large_as x v) q) ∙ s in
        omega (arith, ltb-false 2147483647 v f)
    go false e = refl

-- what the answer is, from the tokens stored, the first large one and what is still to be scanned
unfoldable pub outcome : List Token → Option ℕ → Scanned → Lexing
outcome pre large (stray ts p) = refused 2 p
outcome pre large (found ts) = elim large [ Some p ↦ refused 3 p | None ↦ none_large (pre ++ ts) ts ]

pub lexed-long : (l : List ℕ) → 2048 < length l → lexed l ≡ refused 1 2048
unfolding lexed
lexed-long l h = rw (lt-ltb 2048 (length l) h, lexed)

pub lexed-start : (l : List ℕ) → length l ≤ 2048 → lexed l ≡ outcome [] None (scan 0 0 l)
unfolding lexed outcome
lexed-start l h = rw (le-ltb 2048 (length l) h, lexed) (go (scan 0 0 l))
  where
    go : (s : Scanned) → elim s [ stray ts p ↦ refused 2 p | found ts ↦ none_large ts ts ] ≡ outcome [] None s
    go (stray ts p) = refl
    go (found ts) = refl

pub outcome-token : (pre : List Token) (g : Option ℕ) (k p v : ℕ) (s : Scanned)
    → outcome pre g (before (record { kind = k; place = p; value = v }) s) ≡ outcome (pre ++ (record { kind = k; place = p; value = held k v } ∷ [])) (option_or g (then_some (large_as k (held k v)) p)) s
unfolding outcome none_large
outcome-token pre g k p v (stray ts q) = refl
outcome-token pre (Some large) k p v (found ts) = refl
outcome-token pre None k p v (found ts) = go (large_as k v) refl
  where
    go : (u : Bool) → large_as k v ≡ u
        → none_large (pre ++ (record { kind = k; place = p; value = v } ∷ ts)) (record { kind = k; place = p; value = v } ∷ ts)
        ≡ outcome (pre ++ (record { kind = k; place = p; value = held k v } ∷ [])) (then_some (large_as k (held k v)) p) (found ts)
    go true f = rw (held-large k v) (rw f (rw (f, none_large)))
    go false f = rw (held-large k v) (rw f (rw (f, none_large) (rw (held_small k v f, append_assoc))))

stored-set : (n j k p v : ℕ) (ks ps vs : List ℕ) → n ≤ j → stored n (set ks j k) (set ps j p) (set vs j v) ≡ stored n ks ps vs
unfolding stored
stored-set zero j k p v ks ps vs h = refl
stored-set (suc n) j k p v ks ps vs h =
    rw (stored-set n j k p v ks ps vs (omega arith), get_or-set_other ks j n k 0 (omega arith), get_or-set_other ps j n p 0 (omega arith), get_or-set_other vs j n v 0 (omega arith))

pub stored_more : (n k p v : ℕ) (ks ps vs : List ℕ) → n < length ks → n < length ps → n < length vs
    → stored (n + 1) (set ks n k) (set ps n p) (set vs n v) ≡ stored n ks ps vs ++ (record { kind = k; place = p; value = v } ∷ [])
unfolding stored
stored_more n k p v ks ps vs h q r = rw add-one (rw (stored-set n n k p v ks ps vs (omega arith), get_or-set_same ks n k 0 h, get_or-set_same ps n p 0 q, get_or-set_same vs n v 0 r))
