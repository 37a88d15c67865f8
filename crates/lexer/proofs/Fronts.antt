-- What stands at the front, as the code's piece, by the kind of the first byte.
use Prim.Native.Nat.{ℕ, suc, ◌+◌, ◌-◌, ◌≤◌, ◌<◌, min}
use mathlib.Core.Path.{◌≡◌, refl, sym, ap, ◌∙◌}
use mathlib.Core.Bool.{true, false}
use mathlib.Core.List.{List, [], ◌∷◌}
use native.Mathlib.Omega.{arith}
use native.Mathlib.Numerals.{add-one}
use lib.ListN.{length, take, drop, get_or, length-drop, drop_of_length-le}
use lib.Seq.{drop-cons, length-take-le}
use lib.Dec.{eqb}
use Rattle.syntax.specs.Token.{k_end, k_name, k_number}
use Rattle.lexer.specs.Lex.{is_word, is_digit, is_letter, is_blank, words, marks, kind_in, kind_of, longest, decimal, digits_of, value_of, blank, front, nothing, token}
use Rattle.lexer.specs.Parts.{class_of, span, limit, held, held_front}
use borrow.Author.Tests.{eq-eqb, ne_eqb, eqb-true}
use Rattle.lexer.proofs.Bytes.{span-le, all-span, class-blank, class-letter, class-digit}
use Rattle.lexer.proofs.Numbers.{more, grouped-more, end_of, end-start}
use Rattle.lexer.proofs.Longest.{
  name-kind,
  number-kind,
  mark-kind,
  word-no-number,
  mark-no-number,
  name-longest,
  number-longest,
  pair_of,
  pair-longest,
  single-longest,
  nothing-longest,
}

pub size-value : (l : List ℕ) → eqb (kind_of l) k_number ≡ false → value_of l ≡ length l
unfolding value_of
size-value l e = rw (e, value_of)

number-value : (l : List ℕ) → kind_of l ≡ k_number → value_of l ≡ decimal 0 (digits_of l)
unfolding value_of
number-value l e = rw (e, value_of)

held-size : (k v : ℕ) → eqb k k_number ≡ false → held k v ≡ v
unfolding held
held-size k v e = rw (e, held)

held_number : (v : ℕ) → held k_number v ≡ min v limit
unfolding held
held_number v = refl

pub front-blank : (b : ℕ) (bs : List ℕ) → is_blank b ≡ true → held_front (front (b ∷ bs)) ≡ blank
unfolding front
front-blank b bs e = rw (e, front)

module _ (b : ℕ) (bs : List ℕ) (e : is_blank b ≡ false) where
  pub front-token : (n : ℕ) → longest (b ∷ bs) ≡ suc n → front (b ∷ bs) ≡ token (kind_of (b ∷ take n bs)) (suc n) (value_of (b ∷ take n bs))
  unfolding front
  front-token n h = rw (e, front) (rw h)

  front-nothing : longest (b ∷ bs) ≡ 0 → front (b ∷ bs) ≡ nothing
  unfolding front
  front-nothing h = rw (e, front) (rw h)

  -- a token that is no number holds its size
  sized : (n : ℕ) → n ≤ length bs → longest (b ∷ bs) ≡ suc n → eqb (kind_of (b ∷ take n bs)) k_number ≡ false → held_front (front (b ∷ bs)) ≡ token (kind_of (b ∷ take n bs)) (suc n) (suc n)
  sized n s h k =
      ap held_front (front-token n h)
      ∙ ap (token (kind_of (b ∷ take n bs)) (suc n)) (held-size (kind_of (b ∷ take n bs)) (value_of (b ∷ take n bs)) k ∙ size-value (b ∷ take n bs) k ∙ ap suc (length-take-le n bs s))

  pub front-name : is_letter b ≡ true → held_front (front (b ∷ bs)) ≡ token (kind_in words k_name (b ∷ take (span is_word bs) bs)) (suc (span is_word bs)) (suc (span is_word bs))
  front-name f =
      let k = name-kind b (take (span is_word bs) bs) f (all-span is_word bs) in
      sized (span is_word bs) (span-le is_word bs) (name-longest b bs f) (rw k (word-no-number (b ∷ take (span is_word bs) bs)))
      ∙ ap (λ (x : ℕ). token x (suc (span is_word bs)) (suc (span is_word bs))) k

  pub front-number : is_letter b ≡ false → is_digit b ≡ true → held_front (front (b ∷ bs)) ≡ token k_number (suc (more bs)) (min (decimal 0 (digits_of (b ∷ take (more bs) bs))) limit)
  front-number f g =
      let k = number-kind b (take (more bs) bs) f g (grouped-more bs) in
      ap held_front (front-token (more bs) (number-longest b bs f g))
      ∙ ap (λ (x : ℕ). token x (suc (more bs)) (held x (value_of (b ∷ take (more bs) bs)))) k
      ∙ ap (token k_number (suc (more bs))) (held_number (value_of (b ∷ take (more bs) bs)) ∙ ap (λ (x : ℕ). min x limit) (number-value (b ∷ take (more bs) bs) k))

  module _ (f : is_letter b ≡ false) (g : is_digit b ≡ false) where
    pub front-pair : eqb (pair_of b bs) k_end ≡ false → 1 ≤ length bs → held_front (front (b ∷ bs)) ≡ token (pair_of b bs) 2 2
    front-pair h s =
        let p = pair-longest b f g bs h in
        sized 1 s p.0 (rw (mark-kind b (take 1 bs) f g) (mark-no-number (b ∷ take 1 bs)))
        ∙ ap (λ (x : ℕ). token x 2 2) p.1

    pub front-single : pair_of b bs ≡ k_end → eqb (kind_in marks k_end (b ∷ [])) k_end ≡ false → held_front (front (b ∷ bs)) ≡ token (kind_in marks k_end (b ∷ [])) 1 1
    front-single h k =
        sized 0 (omega arith) (single-longest b f g bs h k) (rw (mark-kind b [] f g) (mark-no-number (b ∷ [])))
        ∙ ap (λ (x : ℕ). token x 1 1) (mark-kind b [] f g)

    pub front-none : pair_of b bs ≡ k_end → kind_in marks k_end (b ∷ []) ≡ k_end → held_front (front (b ∷ bs)) ≡ nothing
    front-none h k = ap held_front (front-nothing (nothing-longest b f g bs h k))

pub pair-here : (b : ℕ) (l : List ℕ) (i : ℕ) → i < length l → pair_of b (drop i l) ≡ kind_in marks k_end (b ∷ get_or l i 0 ∷ [])
unfolding pair_of
pair-here b l i h = rw (drop-cons l i 0 h)

pub pair-past : (b : ℕ) (l : List ℕ) (i : ℕ) → length l ≤ i → pair_of b (drop i l) ≡ k_end
unfolding pair_of
pair-past b l i h = rw (drop_of_length-le l {i = i} h)

at_drop : (l : List ℕ) (i : ℕ) → i < length l → drop i l ≡ get_or l i 0 ∷ drop (i + 1) l
at_drop l i h = rw (drop-cons l i 0 h, add-one)

-- what the code finds at a place, from what its parts answer
module _ (l : List ℕ) (i : ℕ) (h : i < length l) (small : get_or l i 0 < 256) where
  abbrev b : ℕ
  b = get_or l i 0

  abbrev bs : List ℕ
  bs = drop (i + 1) l

  pub blank-piece : class_of b ≡ 1 → blank ≡ held_front (front (drop i l))
  blank-piece e = sym (ap (λ (x : List ℕ). held_front (front x)) (at_drop l i h) ∙ front-blank b bs (class-blank b small ∙ eq-eqb _ _ e))

  pub name-piece : (e k : ℕ) → is_letter b ≡ true → e ≡ i + 1 + span is_word bs → k ≡ kind_in words k_name (take (e - i) (drop i l)) → token k (e - i) (e - i) ≡ held_front (front (drop i l))
  name-piece e k f q r =
      let n : e - i ≡ suc (span is_word bs) = omega arith in
      let c : class_of b ≡ 3 = eqb-true _ _ (sym (class-letter b small) ∙ f) in
      ap (λ (x : ℕ). token x (e - i) (e - i)) (r ∙ ap (λ (x : List ℕ). kind_in words k_name (take (e - i) x)) (at_drop l i h))
      ∙ ap (λ (x : ℕ). token (kind_in words k_name (take x (b ∷ bs))) x x) n
      ∙ sym (ap (λ (x : List ℕ). held_front (front x)) (at_drop l i h) ∙ front-name b bs (class-blank b small ∙ rw c) f)

  module _ (f : is_digit b ≡ true) where
    four : class_of b ≡ 4
    four = eqb-true _ _ (sym (class-digit b small) ∙ f)

    -- the number that begins here has the bytes up to the last digit
    number_size : longest (drop i l) ≡ suc (more bs)
    number_size = ap longest (at_drop l i h) ∙ number-longest b bs (class-letter b small ∙ rw four) f

    pub number-start : i + longest (drop i l) ≡ end_of (i + 1) (i + 1) (more bs)
    number-start = omega (arith, number_size, end-start (i + 1) (more bs))

    pub number-piece : (e v : ℕ) → e ≡ i + longest (drop i l) → v ≡ min (decimal 0 (digits_of (take (e - i) (drop i l)))) limit → token k_number (e - i) v ≡ held_front (front (drop i l))
    number-piece e v q r =
        let n : e - i ≡ suc (more bs) = omega (arith, number_size) in
        ap (token k_number (e - i)) (r ∙ ap (λ (x : List ℕ). min (decimal 0 (digits_of (take (e - i) x))) limit) (at_drop l i h))
        ∙ ap (λ (x : ℕ). token k_number x (min (decimal 0 (digits_of (take x (b ∷ bs)))) limit)) n
        ∙ sym (ap (λ (x : List ℕ). held_front (front x)) (at_drop l i h) ∙ front-number b bs (class-blank b small ∙ rw four) (class-letter b small ∙ rw four) f)

  -- neither blank, letter nor digit
  module _ (low : class_of b ≤ 2) (full : class_of b ≡ 1 → ⊥) where
    no-blank : is_blank b ≡ false
    no-blank = class-blank b small ∙ ne_eqb _ _ full

    no-letter : is_letter b ≡ false
    no-letter = class-letter b small ∙ ne_eqb (class_of b) 3 (λ e. omega arith)

    no_digit : is_digit b ≡ false
    no_digit = class-digit b small ∙ ne_eqb (class_of b) 4 (λ e. omega arith)

    pub pair-piece : (k : ℕ) → i + 1 < length l → k ≡ kind_in marks k_end (b ∷ get_or l (i + 1) 0 ∷ []) → (k ≡ k_end → ⊥) → token k 2 2 ≡ held_front (front (drop i l))
    pair-piece k s q r =
        let p : k ≡ pair_of b bs = q ∙ sym (pair-here b l (i + 1) s) in
        ap (λ (x : ℕ). token x 2 2) p
        ∙ sym (ap (λ (x : List ℕ). held_front (front x)) (at_drop l i h)
        ∙ front-pair b bs no-blank no-letter no_digit (ne_eqb _ _ (λ e. r (p ∙ e))) (omega (arith, length-drop (i + 1) l)))

    pub single-piece : (k : ℕ) → pair_of b bs ≡ k_end → k ≡ kind_in marks k_end (b ∷ []) → (k ≡ k_end → ⊥) → token k 1 1 ≡ held_front (front (drop i l))
    single-piece k p q r =
        ap (λ (x : ℕ). token x 1 1) q
        ∙ sym (ap (λ (x : List ℕ). held_front (front x)) (at_drop l i h) ∙ front-single b bs no-blank no-letter no_digit p (ne_eqb _ _ (λ e. r (q ∙ e))))

    pub no-piece : pair_of b bs ≡ k_end → kind_in marks k_end (b ∷ []) ≡ k_end → nothing ≡ held_front (front (drop i l))
    no-piece p q = sym (ap (λ (x : List ℕ). held_front (front x)) (at_drop l i h) ∙ front-none b bs no-blank no-letter no_digit p q)
