-- Which bytes after its first digit belong to a number, and its value byte by byte.
use Prim.Native.Nat.{ℕ, zero, suc, ◌+◌, ◌-◌, ◌*◌, ◌≤◌, ◌<◌, min}
use mathlib.Core.Path.{◌≡◌, refl, sym, ap, ◌∙◌}
use mathlib.Core.Bool.{Bool, true, false, ◌&&◌, ◌||◌, or-true, or-false}
use mathlib.Core.List.{List, [], ◌∷◌}
use native.Mathlib.Omega.{arith}
use native.Mathlib.Numerals.{add-one}
use lib.ListN.{length, get_or, take, drop, drop_of_length-le}
use lib.Seq.{drop-cons}
use Rattle.lexer.specs.Lex.{is_digit, is_underscore, all, grouped, decimal, digits_of}
use Rattle.lexer.specs.Parts.{limit}

-- as many bytes at the front as there are up to the last digit before a byte that is neither digit nor underscore
unfoldable pub more : List ℕ → ℕ
more [] = zero
more (b ∷ bs) =
    elim (is_digit b) [
      | true ↦ suc (more bs)
      | false ↦ elim (is_underscore b) [
        | true ↦ elim (more bs) [ zero ↦ zero | suc n ↦ suc (suc n) ]
        | false ↦ zero
      ]
    ]

pub more-le : (l : List ℕ) → more l ≤ length l
unfolding more
more-le [] = omega arith
more-le (b ∷ bs) = go (is_digit b) (is_underscore b) (more bs) (more-le bs)
  where
    go : (d u : Bool) (m : ℕ) → m ≤ length bs → elim d [ true ↦ suc m | false ↦ elim u [ true ↦ elim m [ zero ↦ zero | suc n ↦ suc (suc n) ] | false ↦ zero ] ] ≤ suc (length bs)
    go true u m h = omega arith
    go false true zero h = omega arith
    go false true (suc m) h = omega arith
    go false false m h = omega arith

abbrev some : ℕ → Bool
some zero = false
some (suc n) = true

-- so many bytes may follow, after an underscore if there is one of them at least
grouped-some : (digit : Bool) (l : List ℕ) → grouped digit (take (more l) l) ≡ digit || some (more l)
unfolding more grouped
grouped-some digit [] = sym (or-false digit)
grouped-some digit (b ∷ bs) = go (is_digit b) (is_underscore b) refl refl (more bs) (grouped-some true bs) (grouped-some false bs)
  where
    go : (d u : Bool) → is_digit b ≡ d → is_underscore b ≡ u → (m : ℕ) → grouped true (take m bs) ≡ true || some m → grouped false (take m bs) ≡ false || some m
        → grouped digit (take (elim d [ true ↦ suc m | false ↦ elim u [ true ↦ elim m [ zero ↦ zero | suc n ↦ suc (suc n) ] | false ↦ zero ] ]) (b ∷ bs))
        ≡ digit || some (elim d [ true ↦ suc m | false ↦ elim u [ true ↦ elim m [ zero ↦ zero | suc n ↦ suc (suc n) ] | false ↦ zero ] ])
    go true u e f m g h = rw (e, grouped) (g ∙ sym (or-true digit))
    go false true e f zero g h = sym (or-false digit)
    go false true e f (suc m) g h = rw (e, grouped) (rw f (h ∙ sym (or-true digit)))
    go false false e f m g h = sym (or-false digit)

pub grouped-more : (l : List ℕ) → grouped true (take (more l) l) ≡ true
grouped-more l = grouped-some true l

-- and not more of them
pub grouped-past : (digit : Bool) (l : List ℕ) (n : ℕ) → more l < n → n ≤ length l → grouped digit (take n l) ≡ false
unfolding more grouped
grouped-past digit [] n h k = absurd (omega arith)
grouped-past digit (b ∷ bs) zero h k = absurd (omega arith)
grouped-past digit (b ∷ bs) (suc n) h k = go (is_digit b) (is_underscore b) refl refl n (more bs) h (omega arith) (λ t m p q. grouped-past t bs m p q)
  where
    go : (d u : Bool) → is_digit b ≡ d → is_underscore b ≡ u → (n m : ℕ) → elim d [ true ↦ suc m | false ↦ elim u [ true ↦ elim m [ zero ↦ zero | suc j ↦ suc (suc j) ] | false ↦ zero ] ] < suc n
        → n ≤ length bs → ((t : Bool) (i : ℕ) → m < i → i ≤ length bs → grouped t (take i bs) ≡ false) → grouped digit (b ∷ take n bs) ≡ false
    go true u e f n m h k g = rw (e, grouped) (g true n (omega arith) k)
    go false true e f zero zero h k g = rw (e, grouped) (rw f)
    go false true e f (suc n) zero h k g = rw (e, grouped) (rw f (g false (suc n) (omega arith) k))
    go false true e f n (suc m) h k g = rw (e, grouped) (rw f (g false n (omega arith) k))
    go false false e f n m h k g = rw (e, grouped) (rw f)

-- JLS 3.10.1's DigitOrUnderscore, and the last one of a byte and those behind it
abbrev pub digit_or_underscore : ℕ → Bool
digit_or_underscore b = is_digit b || is_underscore b

unfoldable pub last : ℕ → List ℕ → ℕ
last b [] = b
last b (c ∷ cs) = last c cs

pub grouped-last : (b : ℕ) (bs : List ℕ) → grouped (is_digit b) bs ≡ all digit_or_underscore bs && is_digit (last b bs)
unfolding grouped all last
grouped-last b [] = refl
grouped-last b (c ∷ cs) = go (is_digit c) (is_underscore c) refl (grouped-last c cs)
  where
    go : (d u : Bool) → is_digit c ≡ d → grouped (is_digit c) cs ≡ all digit_or_underscore cs && is_digit (last c cs)
        → elim d [ true ↦ grouped true cs | false ↦ elim u [ true ↦ grouped false cs | false ↦ false ] ]
        ≡ elim (d || u) [ true ↦ all digit_or_underscore cs | false ↦ false ] && is_digit (last c cs)
    go true u e h = ap (λ (t : Bool). grouped t cs) (sym e) ∙ h
    go false true e h = ap (λ (t : Bool). grouped t cs) (sym e) ∙ h
    go false false e h = refl

-- The end of a number of which the bytes before i are read, with `end` after the last digit so far, if m more bytes belong to it.
unfoldable pub end_of : (end i m : ℕ) → ℕ
end_of end i zero = end
end_of end i (suc m) = i + suc m

pub end-start : (i m : ℕ) → i + m ≡ end_of i i m
unfolding end_of
end-start i zero = omega arith
end-start i (suc m) = refl

module _ (l : List ℕ) (i end : ℕ) where
  pub end-digit : i < length l → is_digit (get_or l i 0) ≡ true → end_of end i (more (drop i l)) ≡ end_of (i + 1) (i + 1) (more (drop (i + 1) l))
  unfolding more end_of
  end-digit h e = rw (drop-cons l i 0 h, add-one) (rw (e, more) (omega (arith, end-start (suc i) (more (drop (suc i) l)))))

  pub end-underscore : i < length l → is_digit (get_or l i 0) ≡ false → is_underscore (get_or l i 0) ≡ true → end_of end i (more (drop i l)) ≡ end_of end (i + 1) (more (drop (i + 1) l))
  unfolding more end_of
  end-underscore h e f = rw (drop-cons l i 0 h, add-one) (rw (e, more) (rw f (go (more (drop (suc i) l)))))
    where
      go : (m : ℕ) → end_of end i (elim m [ zero ↦ zero | suc n ↦ suc (suc n) ]) ≡ end_of end (suc i) m
      go zero = refl
      go (suc m) = omega arith

  pub end-other : i < length l → is_digit (get_or l i 0) ≡ false → is_underscore (get_or l i 0) ≡ false → end_of end i (more (drop i l)) ≡ end
  unfolding more end_of
  end-other h e f = rw (drop-cons l i 0 h) (rw (e, more) (rw f))

  pub end-over : length l ≤ i → end_of end i (more (drop i l)) ≡ end
  unfolding more end_of
  end-over h = rw (drop_of_length-le l {i = i} h)

-- the value with one byte more: a digit, or an underscore
pub byte-digit : (v b : ℕ) → is_digit b ≡ true → decimal v (digits_of (b ∷ [])) ≡ 10 * v + (b - 48)
unfolding decimal digits_of
byte-digit v b e = rw (e, digits_of)

pub byte-skipped : (v b : ℕ) → is_digit b ≡ false → decimal v (digits_of (b ∷ [])) ≡ v
unfolding decimal digits_of
byte-skipped v b e = rw (e, digits_of)

-- a value is held up to the limit, whatever digits follow
decimal-held : (l : List ℕ) (v : ℕ) → min (decimal v l) limit ≡ min (decimal (min v limit) l) limit
unfolding decimal
decimal-held [] v = omega arith
decimal-held (b ∷ bs) v =
    let e : min (10 * v + (b - 48)) limit ≡ min (10 * min v limit + (b - 48)) limit = omega arith in
    decimal-held bs (10 * v + (b - 48)) ∙ ap (λ (w : ℕ). min (decimal w bs) limit) e ∙ sym (decimal-held bs (10 * min v limit + (b - 48)))

digits-first : (b v : ℕ) (bs : List ℕ) → decimal v (digits_of (b ∷ bs)) ≡ decimal (decimal v (digits_of (b ∷ []))) (digits_of bs)
unfolding decimal digits_of
digits-first b v bs = go (is_digit b)
  where
    go : (t : Bool) → decimal v (elim t [ true ↦ b ∷ digits_of bs | false ↦ digits_of bs ]) ≡ decimal (decimal v (elim t [ true ↦ b ∷ [] | false ↦ [] ])) (digits_of bs)
    go true = refl
    go false = refl

pub value-more : (l : List ℕ) (i v : ℕ) → i < length l
    → min (decimal v (digits_of (drop i l))) limit ≡ min (decimal (min (decimal v (digits_of (get_or l i 0 ∷ []))) limit) (digits_of (drop (i + 1) l))) limit
value-more l i v h =
    rw (drop-cons l i 0 h, add-one)
    (ap (λ (x : ℕ). min x limit) (digits-first (get_or l i 0) v (drop (suc i) l)) ∙ decimal-held (digits_of (drop (suc i) l)) (decimal v (digits_of (get_or l i 0 ∷ []))))

pub value-end : (l : List ℕ) (i v : ℕ) → length l ≤ i → decimal v (digits_of (drop i l)) ≡ v
unfolding decimal digits_of
value-end l i v h = rw (drop_of_length-le l {i = i} h)
