-- Which words are the longest tokens where they stand: names and numbers before a byte that no name goes on with, marks before the bytes that follow them in house style.
use Prim.Native.Nat.{ℕ, zero, suc, ◌+◌, ◌*◌, ◌-◌, ◌/◌, ◌%◌, ◌≤◌, ◌<◌}
use mathlib.Core.Path.{◌≡◌, refl, sym, ap, ◌∙◌, subst}
use mathlib.Core.Bool.{Bool, true, false, ◌&&◌, ◌||◌}
use mathlib.Core.List.{List, [], ◌∷◌, ◌++◌}
use native.Mathlib.Omega.{arith}
use lib.ListN.{length}
use lib.Dec.{eqb, leb}
use borrow.Author.Tests.{eqb-true, leb-true, le-leb}
use native.Mathlib.Decide.{dec_lt}
use Rattle.syntax.specs.Token.{k_end, k_name, k_number}
use Rattle.lexer.specs.Lex.{is_blank, is_word, is_digit, is_letter, is_underscore, all, kind_in, words, marks, kind_of, grouped, value_of, decimal, digits_of}
use Rattle.lexer.specs.Parts.{span}
use Rattle.lexer.proofs.Longest.{name-longest, number-longest, pair_of, pair-longest, single-longest, number-kind}
use Rattle.lexer.proofs.Numbers.{more}
use Rattle.lexer.proofs.Bytes.{kind_in-has, digit-bounds}
use Rattle.printing.specs.Decimal.{natural}
use Rattle.printing.proofs.Numbers.{natural-one, natural-more}
use Rattle.house_style.specs.House.{Piece, word, flat}
use Rattle.house_style.proofs.Lexing.{Apart, token}

-- no name or number goes on with these bytes
pub data Clear : List ℕ → Type 0 where
  end : Clear []
  other : {c : ℕ} {cs : List ℕ} → is_word c ≡ false → Clear (c ∷ cs)

-- ---- a letter or a digit is no blank

blank-low : (b : ℕ) → is_blank b ≡ true → b ≤ 32
blank-low b e = go (eqb b 32) refl (eqb b 9) refl (eqb b 10) refl (eqb b 13) refl e
  where
    go : (w : Bool) → eqb b 32 ≡ w → (x : Bool) → eqb b 9 ≡ x → (y : Bool) → eqb b 10 ≡ y → (z : Bool) → eqb b 13 ≡ z → w || x || y || z ≡ true → b ≤ 32
    go true p x q y r z s e = omega (arith, eqb-true b 32 p)
    go false p true q y r z s e = omega (arith, eqb-true b 9 q)
    go false p false q true r z s e = omega (arith, eqb-true b 10 r)
    go false p false q false r true s e = omega (arith, eqb-true b 13 s)
    go false p false q false r false s e = absurd (let z : ◌≡◌ {A = ℕ} 0 1 = cc in omega arith)

letter-high : (b : ℕ) → is_letter b ≡ true → 65 ≤ b
letter-high b e = go (leb 65 b) refl (leb b 90) (leb 97 b) refl (leb b 122) e
  where
    go : (w : Bool) → leb 65 b ≡ w → (x y : Bool) → leb 97 b ≡ y → (z : Bool) → w && x || y && z ≡ true → 65 ≤ b
    go true p x y q z e = leb-true 65 b p
    go false p x true q z e = omega (arith, leb-true 97 b q)
    go false p x false q z e = absurd (let z : ◌≡◌ {A = ℕ} 0 1 = cc in omega arith)

pub high-unblank : (b : ℕ) → 33 ≤ b → is_blank b ≡ false
high-unblank b h = go (is_blank b) refl
  where
    go : (t : Bool) → is_blank b ≡ t → t ≡ false
    go true e = absurd (omega (arith, blank-low b e))
    go false e = refl

-- ---- names

span-word : (bs l : List ℕ) → all is_word bs ≡ true → Clear l → span is_word (bs ++ l) ≡ length bs
unfolding span all
span-word [] [] e end = refl
span-word [] (c ∷ cs) e (other h) = rw (h, span)
span-word (b ∷ bs) l e c = go (is_word b) refl e (λ h. span-word bs l h c)
  where
    go : (t : Bool) → is_word b ≡ t → elim t [ true ↦ all is_word bs | false ↦ false ] ≡ true → (all is_word bs ≡ true → span is_word (bs ++ l) ≡ length bs) → span is_word (b ∷ bs ++ l) ≡ suc (length bs)
    go true f h g = rw (f, span) (ap suc (g h))
    go false f h g = let z : ◌≡◌ {A = ℕ} 0 1 = cc in absurd (omega arith)

pub letter-token : (b : ℕ) (bs : List ℕ) {ps : List Piece} → is_letter b ≡ true → all is_word bs ≡ true → Clear (flat ps) → Apart ps → Apart (word (b ∷ bs) ∷ ps)
letter-token b bs {ps} e f c a = token (high-unblank b (omega (arith, letter-high b e))) (name-longest b (bs ++ flat ps) e ∙ ap suc (span-word bs (flat ps) f c)) a

-- the bytes of a name
named-so : (b : ℕ) (bs : List ℕ) → kind_of (b ∷ bs) ≡ k_name → (is_letter b ≡ true) × (all is_word bs ≡ true)
unfolding kind_of
named-so b bs k = go (is_letter b) refl (all is_word bs) refl (is_digit b) (grouped true bs) k
  where
    no-mark : eqb (kind_in marks k_end (b ∷ bs)) k_name ≡ false
    no-mark = go' (eqb (kind_in marks k_end (b ∷ bs)) k_name) (kind_in-has (λ k. elim (eqb k k_name) [ true ↦ false | false ↦ true ]) marks k_end (b ∷ bs) refl refl)
      where
        go' : (t : Bool) → elim t [ true ↦ false | false ↦ true ] ≡ true → t ≡ false
        go' true f = sym f
        go' false f = refl

    go : (l : Bool) → is_letter b ≡ l → (w : Bool) → all is_word bs ≡ w → (d g : Bool)
        → elim l [ true ↦ elim w [ true ↦ kind_in words k_name (b ∷ bs) | false ↦ k_end ] | false ↦ elim d [ true ↦ elim g [ true ↦ k_number | false ↦ k_end ] | false ↦ kind_in marks k_end (b ∷ bs) ] ] ≡ k_name
        → (l ≡ true) × (w ≡ true)
    go true e true f d g k = (refl, refl)
    go true e false f d g k = absurd (omega arith)
    go false e w f true true k = absurd (omega arith)
    go false e w f true false k = absurd (omega arith)
    go false e w f false g k = absurd (let z : true ≡ false = sym (ap (λ (x : ℕ). eqb x k_name) k) ∙ no-mark in let y : ◌≡◌ {A = ℕ} 0 1 = cc in omega arith)

pub name-token : (w : List ℕ) {ps : List Piece} → kind_of w ≡ k_name → Clear (flat ps) → Apart ps → Apart (word w ∷ ps)
unfolding kind_of
name-token [] k c a = absurd (omega arith)
name-token (b ∷ bs) k c a = let h = named-so b bs k in letter-token b bs h.0 h.1 c a

-- ---- numbers

no-letter : (b : ℕ) → b ≤ 57 → is_letter b ≡ false
no-letter b h = go (is_letter b) refl
  where
    go : (t : Bool) → is_letter b ≡ t → t ≡ false
    go true e = absurd (omega (arith, letter-high b e))
    go false e = refl

more-digits : (bs l : List ℕ) → all is_digit bs ≡ true → Clear l → more (bs ++ l) ≡ length bs
unfolding more all
more-digits [] [] e end = refl
more-digits [] (c ∷ cs) e (other h) = go (is_digit c) (is_letter c) (is_underscore c) refl refl h
  where
    go : (d l u : Bool) → is_digit c ≡ d → is_underscore c ≡ u → d || l || u ≡ false → more (c ∷ cs) ≡ 0
    go true l u p q e = absurd (let z : ◌≡◌ {A = ℕ} 0 1 = cc in omega arith)
    go false true u p q e = absurd (let z : ◌≡◌ {A = ℕ} 0 1 = cc in omega arith)
    go false false true p q e = absurd (let z : ◌≡◌ {A = ℕ} 0 1 = cc in omega arith)
    go false false false p q e = rw (p, more) (rw q)
more-digits (b ∷ bs) l e c = go (is_digit b) refl e (λ h. more-digits bs l h c)
  where
    go : (t : Bool) → is_digit b ≡ t → elim t [ true ↦ all is_digit bs | false ↦ false ] ≡ true → (all is_digit bs ≡ true → more (bs ++ l) ≡ length bs) → more (b ∷ bs ++ l) ≡ suc (length bs)
    go true f h g = rw (f, more) (ap suc (g h))
    go false f h g = let z : ◌≡◌ {A = ℕ} 0 1 = cc in absurd (omega arith)

-- a number in decimal: its first digit and the others, and its value
record Digits (w : List ℕ) (n : ℕ) : Type 0 where
  first : ℕ
  others : List ℕ
  is : w ≡ first ∷ others
  digit : is_digit first ≡ true
  all_digits : all is_digit others ≡ true
  decimals : decimal 0 (digits_of w) ≡ n

digit-is : (d : ℕ) → d < 10 → is_digit (48 + d) ≡ true
digit-is d h = rw (le-leb 48 (48 + d) (omega arith)) (le-leb (48 + d) 57 (omega arith))

all_append : (xs : List ℕ) (d : ℕ) → all is_digit xs ≡ true → is_digit d ≡ true → all is_digit (xs ++ d ∷ []) ≡ true
unfolding all
all_append [] d e f = rw (f, all)
all_append (x ∷ xs) d e f = go (is_digit x) refl e (λ h. all_append xs d h f)
  where
    go : (t : Bool) → is_digit x ≡ t → elim t [ true ↦ all is_digit xs | false ↦ false ] ≡ true → (all is_digit xs ≡ true → all is_digit (xs ++ d ∷ []) ≡ true) → all is_digit (x ∷ xs ++ d ∷ []) ≡ true
    go true p h g = rw (p, all) (g h)
    go false p h g = let z : ◌≡◌ {A = ℕ} 0 1 = cc in absurd (omega arith)

decimal-append : (v : ℕ) (xs : List ℕ) (d : ℕ) → is_digit d ≡ true → decimal v (digits_of (xs ++ d ∷ [])) ≡ 10 * decimal v (digits_of xs) + (d - 48)
unfolding decimal digits_of
decimal-append v [] d f = rw (f, digits_of)
decimal-append v (x ∷ xs) d f = go (is_digit x) refl (decimal-append (10 * v + (x - 48)) xs d f) (decimal-append v xs d f)
  where
    go : (t : Bool) → is_digit x ≡ t → decimal (10 * v + (x - 48)) (digits_of (xs ++ d ∷ [])) ≡ 10 * decimal (10 * v + (x - 48)) (digits_of xs) + (d - 48) → decimal v (digits_of (xs ++ d ∷ [])) ≡ 10 * decimal v (digits_of xs) + (d - 48) → decimal v (digits_of (x ∷ xs ++ d ∷ [])) ≡ 10 * decimal v (digits_of (x ∷ xs)) + (d - 48)
    go true p g h = rw (p, digits_of) g
    go false p g h = rw (p, digits_of) h

in-digits : (k n : ℕ) → n < k → Digits (natural n) n
unfolding decimal digits_of all
in-digits zero n h = absurd (omega arith)
in-digits (suc k) n h = go (dec_lt n 10) (in-digits k (n / 10))
  where
    more_of : 10 ≤ n → (q : Digits (natural (n / 10)) (n / 10)) → Digits (natural n) n
    more_of g q =
        let d = digit-is (n % 10) (omega arith) in
        record {
          first = q.first;
          others = q.others ++ (48 + n % 10) ∷ [];
          is = natural-more n g ∙ ap (λ (w : List ℕ). w ++ (48 + n % 10) ∷ []) q.is;
          digit = q.digit;
          all_digits = all_append q.others (48 + n % 10) q.all_digits d;
          decimals = ap (λ (w : List ℕ). decimal 0 (digits_of w)) (natural-more n g) ∙ decimal-append 0 (natural (n / 10)) (48 + n % 10) d ∙ rw q.decimals (omega arith);
        }

    go : Dec (n < 10) → (n / 10 < k → Digits (natural (n / 10)) (n / 10)) → Digits (natural n) n
    go (yes g) r = record { first = 48 + n; others = []; is = natural-one n g; digit = digit-is n g; all_digits = refl; decimals = ap (λ (w : List ℕ). decimal 0 (digits_of w)) (natural-one n g) ∙ rw (digit-is n g, digits_of) (omega arith) }
    go (no g) r = more_of (omega (arith, g)) (r (omega (arith, g)))

pub number-token : (n : ℕ) {ps : List Piece} → Clear (flat ps) → Apart ps → Apart (word (natural n) ∷ ps)
number-token n {ps} c a =
    let d = in-digits (suc n) n (omega arith) in
    let b = d.first in
    let h = digit-bounds b d.digit in
    let u = no-letter b (omega (arith, h.1)) in
    subst (λ (w : List ℕ). Apart (word w ∷ ps)) (sym d.is) (token (high-unblank b (omega (arith, h.0))) (number-longest b (d.others ++ flat ps) u d.digit ∙ ap suc (more-digits d.others (flat ps) d.all_digits c)) a)

digits-grouped : (bs : List ℕ) → all is_digit bs ≡ true → grouped true bs ≡ true
unfolding all grouped
digits-grouped [] e = refl
digits-grouped (b ∷ bs) e = go (is_digit b) refl e (digits-grouped bs)
  where
    go : (t : Bool) → is_digit b ≡ t → elim t [ true ↦ all is_digit bs | false ↦ false ] ≡ true → (all is_digit bs ≡ true → grouped true bs ≡ true) → grouped true (b ∷ bs) ≡ true
    go true p h g = rw (p, grouped) (g h)
    go false p h g = let z : ◌≡◌ {A = ℕ} 0 1 = cc in absurd (omega arith)

pub natural-kind : (n : ℕ) → kind_of (natural n) ≡ k_number
natural-kind n =
    let d = in-digits (suc n) n (omega arith) in
    let h = digit-bounds d.first d.digit in
    ap kind_of d.is ∙ number-kind d.first d.others (no-letter d.first (omega (arith, h.1))) d.digit (digits-grouped d.others d.all_digits)

pub natural-value : (n : ℕ) → value_of (natural n) ≡ n
unfolding value_of
natural-value n = rw (natural-kind n, value_of) (in-digits (suc n) n (omega arith)).decimals

-- ---- marks

-- a mark of one byte, which is no other mark with the byte after it
pub single : (b : ℕ) {ps : List Piece} → is_blank b ≡ false → is_letter b ≡ false → is_digit b ≡ false → eqb (kind_in marks k_end (b ∷ [])) k_end ≡ false → pair_of b (flat ps) ≡ k_end → Apart ps → Apart (word (b ∷ []) ∷ ps)
single b {ps} u e f m q a = token u (single-longest b e f (flat ps) q m) a

-- one that begins no mark of two bytes
pub solid : (b : ℕ) {ps : List Piece} → is_blank b ≡ false → is_letter b ≡ false → is_digit b ≡ false → eqb (kind_in marks k_end (b ∷ [])) k_end ≡ false → ((c : ℕ) → kind_in marks k_end (b ∷ c ∷ []) ≡ k_end) → Apart ps → Apart (word (b ∷ []) ∷ ps)
unfolding pair_of
solid b {ps} u e f m q a = single b u e f m (alone (flat ps)) a
  where
    alone : (l : List ℕ) → pair_of b l ≡ k_end
    alone [] = refl
    alone (c ∷ cs) = q c

-- a mark of two bytes
pub double : (b c : ℕ) {ps : List Piece} → is_blank b ≡ false → is_letter b ≡ false → is_digit b ≡ false → eqb (kind_in marks k_end (b ∷ c ∷ [])) k_end ≡ false → Apart ps → Apart (word (b ∷ c ∷ []) ∷ ps)
unfolding pair_of
double b c {ps} u e f m a = token u (pair-longest b e f (c ∷ flat ps) m).0 a
