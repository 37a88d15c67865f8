-- Laws of byte classes, of spans, of equal bytes and of a table's kinds.
use Prim.Native.Nat.{ℕ, zero, suc, ◌+◌, ◌≤◌, ◌<◌}
use mathlib.Core.Path.{◌≡◌, refl, sym, ap, subst, ◌∙◌}
use mathlib.Core.Bool.{Bool, true, false, ◌&&◌, ◌||◌, beq}
use mathlib.Core.List.{List, [], ◌∷◌}
use native.Mathlib.Omega.{arith}
use native.Mathlib.Numerals.{add-one}
use native.Mathlib.Decide.{dec_lt}
use lib.ListN.{length, get_or, take, drop, drop_of_length-le}
use Rattle.std.specs.Cmp.Lexicographic.{pointwise}
use lib.Seq.{drop-cons}
use lib.Dec.{T, eqb, leb}
use borrow.Author.Tests.{eqb-true, leb-true}
use Rattle.lexer.specs.Lex.{is_word, is_digit, is_letter, is_underscore, is_blank, all, same, kind_in}
use Rattle.lexer.specs.Parts.{class_number, class_of, span}
use Rattle.lexer.specs.declared.Class.{Class}
use Rattle.lexer.specs.declared.Class.TheVariants.{Blank, Underscore, Letter, Digit, Other}

abbrev pub both : Bool → Bool → Bool
both true b = b
both false b = false

both_left : (a b : Bool) → T (both a b) → T a
both_left true b t = tt
both_left false b t = t

both_right : (a b : Bool) → T (both a b) → T b
both_right true b t = t
both_right false b t = absurd t

-- a test that antt computes for each number below n
abbrev pub upto : ℕ → (ℕ → Bool) → Bool
upto zero f = true
upto (suc n) f = both (f n) (upto n f)

upto-at : (n : ℕ) (f : ℕ → Bool) → T (upto n f) → (k : ℕ) → k < n → T (f k)
upto-at zero f t k h = absurd (omega arith)
upto-at (suc n) f t k h = go (λ p. upto-at n f (both_right (f n) (upto n f) t) k p) (dec_lt k n)
  where
    go : (k < n → T (f k)) → Dec (k < n) → T (f k)
    go g (yes p) = g p
    go g (no p) = subst (λ (m : ℕ). T (f m)) (omega (arith, p)) (both_left (f n) (upto n f) t)

beq→eq : (a b : Bool) → T (beq a b) → a ≡ b
beq→eq true true t = refl
beq→eq true false t = absurd t
beq→eq false true t = absurd t
beq→eq false false t = refl

pub class-blank : (b : ℕ) → b < 256 → is_blank b ≡ eqb (class_of b) 1
class-blank b h = beq→eq _ _ (upto-at 256 (λ b. beq (is_blank b) (eqb (class_of b) 1)) tt b h)

pub class-letter : (b : ℕ) → b < 256 → is_letter b ≡ eqb (class_of b) 3
class-letter b h = beq→eq _ _ (upto-at 256 (λ b. beq (is_letter b) (eqb (class_of b) 3)) tt b h)

pub class-digit : (b : ℕ) → b < 256 → is_digit b ≡ eqb (class_of b) 4
class-digit b h = beq→eq _ _ (upto-at 256 (λ b. beq (is_digit b) (eqb (class_of b) 4)) tt b h)

pub class-underscore : (b : ℕ) → b < 256 → is_underscore b ≡ eqb (class_of b) 2
class-underscore b h = beq→eq _ _ (upto-at 256 (λ b. beq (is_underscore b) (eqb (class_of b) 2)) tt b h)

-- the bytes of a name after its first, by their class
pub word-class : (b : ℕ) → is_word b ≡ leb 2 (class_of b)
word-class b = go (is_digit b) (is_letter b) (eqb b 95) (is_blank b)
  where
    go : (d l u w : Bool) → d || l || u ≡ leb 2 (elim d [ true ↦ 4 | false ↦ elim l [ true ↦ 3 | false ↦ elim u [ true ↦ 2 | false ↦ elim w [ true ↦ 1 | false ↦ 0 ] ] ] ])
    go true true u w = refl
    go true false u w = refl
    go false true u w = refl
    go false false true w = refl
    go false false false true = refl
    go false false false false = refl

-- two classes of one number are the same
of_number : ℕ → Class
of_number zero = Other
of_number (suc zero) = Blank
of_number (suc (suc zero)) = Underscore
of_number (suc (suc (suc zero))) = Letter
of_number (suc (suc (suc (suc n)))) = Digit

number-of : (k : Class) → of_number (class_number k) ≡ k
unfolding of_number
number-of Blank = refl
number-of Underscore = refl
number-of Letter = refl
number-of Digit = refl
number-of Other = refl

pub same-class : (j k : Class) → class_number j ≡ class_number k → j ≡ k
same-class j k e = sym (number-of j) ∙ ap of_number e ∙ number-of k

pub span_more : (p : ℕ → Bool) (l : List ℕ) (i : ℕ) → i < length l → p (get_or l i 0) ≡ true → span p (drop i l) ≡ suc (span p (drop (i + 1) l))
unfolding span
span_more p l i h e = rw (drop-cons l i 0 h, add-one) (rw (e, span))

pub span-stop : (p : ℕ → Bool) (l : List ℕ) (i : ℕ) → i < length l → p (get_or l i 0) ≡ false → span p (drop i l) ≡ 0
unfolding span
span-stop p l i h e = rw (drop-cons l i 0 h) (rw (e, span))

pub span-end : (p : ℕ → Bool) (l : List ℕ) (i : ℕ) → length l ≤ i → span p (drop i l) ≡ 0
unfolding span
span-end p l i h = rw (drop_of_length-le l {i = i} h)

pub span-le : (p : ℕ → Bool) (l : List ℕ) → span p l ≤ length l
unfolding span
span-le p [] = omega arith
span-le p (b ∷ bs) = go (p b) (span-le p bs)
  where
    go : (t : Bool) → span p bs ≤ length bs → elim t [ true ↦ suc (span p bs) | false ↦ zero ] ≤ suc (length bs)
    go true h = omega arith
    go false h = omega arith

-- the bytes of a span have p, and one more byte does not
pub all-span : (p : ℕ → Bool) (l : List ℕ) → all p (take (span p l) l) ≡ true
unfolding span all
all-span p [] = refl
all-span p (b ∷ bs) = go (p b) refl (all-span p bs)
  where
    go : (t : Bool) → p b ≡ t → all p (take (span p bs) bs) ≡ true → all p (take (elim t [ true ↦ suc (span p bs) | false ↦ zero ]) (b ∷ bs)) ≡ true
    go true e f = rw (e, all) f
    go false e f = refl

pub all_past : (p : ℕ → Bool) (l : List ℕ) (n : ℕ) → span p l < n → n ≤ length l → all p (take n l) ≡ false
unfolding span all
all_past p [] n h k = absurd (omega arith)
all_past p (b ∷ bs) zero h k = absurd (omega arith)
all_past p (b ∷ bs) (suc n) h k = go (p b) refl h (λ f. all_past p bs n f (omega arith))
  where
    go : (t : Bool) → p b ≡ t → elim t [ true ↦ suc (span p bs) | false ↦ zero ] < suc n → (span p bs < n → all p (take n bs) ≡ false) → all p (b ∷ take n bs) ≡ false
    go true e h f = rw (e, all) (f (omega arith))
    go false e h f = rw (e, all)

-- `==` on slices is `same`
pub same-pointwise : (a b : List ℕ) → pointwise eqb a b ≡ same a b
unfolding same
same-pointwise [] [] = refl
same-pointwise [] (y ∷ ys) = refl
same-pointwise (x ∷ xs) [] = refl
same-pointwise (x ∷ xs) (y ∷ ys) = ap (λ t. eqb x y && t) (same-pointwise xs ys)

pub and-false : (t : Bool) → t && false ≡ false
and-false true = refl
and-false false = refl

-- `same` is equality
pub same-eq : (a b : List ℕ) → same a b ≡ true → a ≡ b
unfolding same
same-eq [] [] e = refl
same-eq [] (y ∷ ys) e = absurd (subst (λ (t : Bool). T t) (sym e) tt)
same-eq (x ∷ xs) [] e = absurd (subst (λ (t : Bool). T t) (sym e) tt)
same-eq (x ∷ xs) (y ∷ ys) e = go (eqb x y) refl e (λ f. same-eq xs ys f)
  where
    go : (t : Bool) → eqb x y ≡ t → t && same xs ys ≡ true → (same xs ys ≡ true → xs ≡ ys) → x ∷ xs ≡ y ∷ ys
    go true q f g = let z = g f in let w = eqb-true x y q in cc
    go false q f g = absurd (subst (λ (t : Bool). T t) (sym f) tt)

-- what holds of each kind of a table, and of the other one, holds of the kind that is found
abbrev pub each : (ℕ → Bool) → List (List ℕ × ℕ) → Bool
each f [] = true
each f (w ∷ ws) = elim (f w.1) [ true ↦ each f ws | false ↦ false ]

pub kind_in-has : (f : ℕ → Bool) (ws : List (List ℕ × ℕ)) (other : ℕ) (l : List ℕ) → f other ≡ true → each f ws ≡ true → f (kind_in ws other l) ≡ true
unfolding kind_in
kind_in-has f [] other l e h = e
kind_in-has f (w ∷ ws) other l e h = go (f w.1) refl h (λ k. kind_in-has f ws other l e k) (same l w.0)
  where
    go : (t : Bool) → f w.1 ≡ t → elim t [ true ↦ each f ws | false ↦ false ] ≡ true → (each f ws ≡ true → f (kind_in ws other l) ≡ true) → (s : Bool)
        → f (elim s [ true ↦ w.1 | false ↦ kind_in ws other l ]) ≡ true
    go true q k g true = q
    go true q k g false = g k
    go false q k g s = absurd (subst (λ (t : Bool). T t) (sym k) tt)

-- a table's kind as a chain of tests, which `simp` can see
abbrev pick : Bool → ℕ → ℕ → ℕ
pick true a b = a
pick false a b = b

abbrev pub chain : List (List ℕ × ℕ) → ℕ → List ℕ → ℕ
chain [] other l = other
chain (w ∷ ws) other l = pick (same l w.0) w.1 (chain ws other l)

pub kind_in-chain : (ws : List (List ℕ × ℕ)) (other : ℕ) (l : List ℕ) → kind_in ws other l ≡ chain ws other l
unfolding kind_in
kind_in-chain [] other l = refl
kind_in-chain (w ∷ ws) other l = go (same l w.0) (kind_in-chain ws other l)
  where
    go : (t : Bool) → kind_in ws other l ≡ chain ws other l → elim t [ true ↦ w.1 | false ↦ kind_in ws other l ] ≡ pick t w.1 (chain ws other l)
    go true e = refl
    go false e = e

pub digit-bounds : (b : ℕ) → is_digit b ≡ true → (48 ≤ b) × (b ≤ 57)
digit-bounds b e = go (leb 48 b) refl e
  where
    go : (t : Bool) → leb 48 b ≡ t → t && leb b 57 ≡ true → (48 ≤ b) × (b ≤ 57)
    go true f g = (leb-true 48 b f, leb-true b 57 g)
    go false f g = absurd (subst (λ (x : Bool). T x) (sym g) tt)
